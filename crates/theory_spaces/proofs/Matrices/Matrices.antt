-- Products of matrices and their traces, and the ring of the n by n matrices.
use Rattle.std.specs.Prelude.{◌≡◌, ℕ, ◌<◌, ◌≤◌, Bool, true, false, cond, eqb, ltb, ◌&&◌}
use Rattle.std.proofs.Common.{refl, sym, ◌∙◌, ap, ap₂, inl, inr, ⊎_elim}
use Rattle.std.proofs.lemmas.Bool.{cases_eq, cases_lt, eq-eqb, eqb-true, lt-ltb, le-ltb}
use Rattle.std.proofs.Math.Path.{fun_ext}
use mathlib.Core.HLevel.{Σ_prop_path, Π_prop}
use Rattle.theory_rings.specs.Ring.{AddCommGroupOn, RingOn, CommRingOn}
use Rattle.theory_rings.specs.Sum.{sum}
use Rattle.theory_rings.proofs.Rings.RingLaws.{mul-zero, zero-mul, neg_zero}
use Rattle.theory_rings.proofs.Sums.Sums.{sum_congr, sum_eq_zero, sum-add, sum_comm, sum_eq_single, mul-sum, sum-mul}
use Rattle.theory_spaces.specs.Matrix.{Matrix, mat_mul, delta, mat_trace, Within, Mat}

module _ {K : Type 0} (R : RingOn K) where
  infixl 65 ◌⊕◌
  infixl 70 ◌⊗◌
  open R use {additive, monoid, ◌⊕◌, ◌⊗◌}

  pub mat_mul_assoc : (n m : ℕ) (A B C : Matrix K) → mat_mul R m (mat_mul R n A B) C ≡ mat_mul R n A (mat_mul R m B C)
  mat_mul_assoc n m A B C = fun_ext (λ i. fun_ext (λ j.
      sum_congr monoid m (λ k. mat_mul R n A B i k ⊗ C k j) (λ k. sum monoid n (λ l. A i l ⊗ B l k ⊗ C k j))
      (λ k l. sum-mul R n (C k j) (λ l. A i l ⊗ B l k))
      ∙ sum_comm monoid m n (λ k l. A i l ⊗ B l k ⊗ C k j)
      ∙ sum_congr monoid n (λ l. sum monoid m (λ k. A i l ⊗ B l k ⊗ C k j)) (λ l. A i l ⊗ mat_mul R m B C l j)
      (λ l _. sum_congr monoid m (λ k. A i l ⊗ B l k ⊗ C k j) (λ k. A i l ⊗ (B l k ⊗ C k j))
      (λ k _. R.mul_assoc (A i l) (B l k) (C k j))
      ∙ sym (mul-sum R m (A i l) (λ k. B l k ⊗ C k j)))))

  pub mat_mul_congr : (n : ℕ) (A A' B B' : Matrix K) (i j : ℕ) → ((k : ℕ) → k < n → A i k ≡ A' i k)
      → ((k : ℕ) → k < n → B k j ≡ B' k j)
      → mat_mul R n A B i j ≡ mat_mul R n A' B' i j
  mat_mul_congr n A A' B B' i j h g =
      sum_congr monoid n (λ k. A i k ⊗ B k j) (λ k. A' i k ⊗ B' k j) (λ k l. ap₂ (λ x y. x ⊗ y) (h k l) (g k l))

  pub mul-add_mat : (n : ℕ) (A B C : Matrix K) (i j : ℕ)
      → mat_mul R n A (λ k l. B k l ⊕ C k l) i j ≡ mat_mul R n A B i j ⊕ mat_mul R n A C i j
  mul-add_mat n A B C i j =
      sum_congr monoid n (λ k. A i k ⊗ (B k j ⊕ C k j)) (λ k. A i k ⊗ B k j ⊕ A i k ⊗ C k j)
      (λ k _. R.mul-add (A i k) (B k j) (C k j))
      ∙ sum-add monoid n (λ k. A i k ⊗ B k j) (λ k. A i k ⊗ C k j)

  pub add-mul_mat : (n : ℕ) (A B C : Matrix K) (i j : ℕ)
      → mat_mul R n (λ k l. A k l ⊕ B k l) C i j ≡ mat_mul R n A C i j ⊕ mat_mul R n B C i j
  add-mul_mat n A B C i j =
      sum_congr monoid n (λ k. (A i k ⊕ B i k) ⊗ C k j) (λ k. A i k ⊗ C k j ⊕ B i k ⊗ C k j)
      (λ k _. R.add-mul (A i k) (B i k) (C k j))
      ∙ sum-add monoid n (λ k. A i k ⊗ C k j) (λ k. B i k ⊗ C k j)

  pub delta-same : (i : ℕ) → delta R i i ≡ R.one
  delta-same i = ap (λ b. cond b R.one R.zero) (eq-eqb i i refl)

  pub delta-other : (i j : ℕ) → (i ≡ j → ⊥) → delta R i j ≡ R.zero
  delta-other i j d = go (eqb i j) refl
    where
      go : (b : Bool) → eqb i j ≡ b → cond b R.one R.zero ≡ R.zero
      go true e = absurd (d (eqb-true i j e))
      go false e = refl

  pub delta_comm : (i j : ℕ) → delta R i j ≡ delta R j i
  delta_comm i j = ⊎_elim (λ (e : i ≡ j). ap₂ (delta R) e (sym e))
      (λ (d : i ≡ j → ⊥). delta-other i j d ∙ sym (delta-other j i (λ e. d (sym e)))) (cases_eq i j)

  -- the unit matrix takes one term of a sum
  pub sum-mul_delta : (n : ℕ) (c : ℕ → K) (j : ℕ) → j < n → sum monoid n (λ i. c i ⊗ delta R i j) ≡ c j
  sum-mul_delta n c j l =
      sum_eq_single monoid n j (λ i. c i ⊗ delta R i j) l
      (λ i _ d. ap (λ a. c i ⊗ a) (delta-other i j d) ∙ mul-zero R (c i))
      ∙ ap (λ a. c j ⊗ a) (delta-same j) ∙ R.mul-one (c j)

  pub sum-delta_mul : (n : ℕ) (c : ℕ → K) (j : ℕ) → j < n → sum monoid n (λ i. delta R j i ⊗ c i) ≡ c j
  sum-delta_mul n c j l =
      sum_eq_single monoid n j (λ i. delta R j i ⊗ c i) l
      (λ i _ d. ap (λ a. a ⊗ c i) (delta-other j i (λ e. d (sym e))) ∙ zero-mul R (c i))
      ∙ ap (λ a. a ⊗ c j) (delta-same j) ∙ R.one-mul (c j)

  pub mat_mul-delta : (n : ℕ) (A : Matrix K) (i j : ℕ) → j < n → mat_mul R n A (delta R) i j ≡ A i j
  mat_mul-delta n A i j l = sum-mul_delta n (A i) j l

  pub delta-mat_mul : (n : ℕ) (A : Matrix K) (i j : ℕ) → i < n → mat_mul R n (delta R) A i j ≡ A i j
  delta-mat_mul n A i j l = sum-delta_mul n (λ k. A k j) i l

  pub mat_trace-add : (n : ℕ) (A B : Matrix K)
      → mat_trace R n (λ i j. A i j ⊕ B i j) ≡ mat_trace R n A ⊕ mat_trace R n B
  mat_trace-add n A B = sum-add monoid n (λ i. A i i) (λ i. B i i)

module _ {K : Type 0} (C : CommRingOn K) where
  infixl 70 ◌⊗◌
  open C use {ring, monoid, ◌⊗◌}

  -- tr(AB) = tr(BA), for A with n rows and m columns
  pub mat_trace_comm : (n m : ℕ) (A B : Matrix K)
      → mat_trace ring n (mat_mul ring m A B) ≡ mat_trace ring m (mat_mul ring n B A)
  mat_trace_comm n m A B = sum_comm monoid n m (λ i k. A i k ⊗ B k i)
      ∙ sum_congr monoid m (λ k. sum monoid n (λ i. A i k ⊗ B k i)) (λ k. sum monoid n (λ i. B k i ⊗ A i k))
      (λ k _. sum_congr monoid n (λ i. A i k ⊗ B k i) (λ i. B k i ⊗ A i k) (λ i _. C.mul_comm (A i k) (B k i)))

-- the ring of the n by n matrices
module _ {K : Type 0} (R : RingOn K) (set : IsSet K) (n : ℕ) where
  infixl 65 ◌⊕◌
  infixl 70 ◌⊗◌
  open R use {additive, monoid, ◌⊕◌, ◌⊗◌}

  pub Mat-path : (A B : Mat R n) → ((i j : ℕ) → A.0 i j ≡ B.0 i j) → A ≡ B
  Mat-path A B h = Σ_prop_path (λ m. Π_prop (λ i. Π_prop (λ j. Π_prop (λ d. set (m i j) R.zero)))) {u = A} {v = B}
      (fun_ext (λ i. fun_ext (λ j. h i j)))

  -- matrices are equal where their first n rows and columns are
  pub Mat-ext : (A B : Mat R n) → ((i j : ℕ) → i < n → j < n → A.0 i j ≡ B.0 i j) → A ≡ B
  Mat-ext A B h = Mat-path A B (λ i j. ⊎_elim
      (λ (a : i < n). ⊎_elim (λ (b : j < n). h i j a b) (λ (b : n ≤ j). A.1 i j (inr b) ∙ sym (B.1 i j (inr b)))
      (cases_lt j n))
      (λ (a : n ≤ i). A.1 i j (inl a) ∙ sym (B.1 i j (inl a))) (cases_lt i n))

  abbrev pub clip : Matrix K → Matrix K
  clip A i j = cond (ltb i n && ltb j n) (A i j) R.zero

  pub clip-in : (A : Matrix K) (i j : ℕ) → i < n → j < n → clip A i j ≡ A i j
  clip-in A i j a b = ap₂ (λ x y. cond (x && y) (A i j) R.zero) (lt-ltb i n a) (lt-ltb j n b)

  pub clip_within : (A : Matrix K) → Within R n (clip A)
  clip_within A i j d = ⊎_elim
      (λ (l : n ≤ i). ap (λ x. cond (x && ltb j n) (A i j) R.zero) (le-ltb i n l))
      (λ (l : n ≤ j). ap (λ y. cond (ltb i n && y) (A i j) R.zero) (le-ltb j n l) ∙ none (ltb i n)) d
    where
      none : (b : Bool) → cond (b && false) (A i j) R.zero ≡ R.zero
      none true = refl
      none false = refl

  -- the n by n matrix with the entries A
  abbrev pub mat : Matrix K → Mat R n
  mat A = (clip A, clip_within A)

  pub mat-entry : (A : Matrix K) (i j : ℕ) → i < n → j < n → (mat A).0 i j ≡ A i j
  mat-entry A i j a b = clip-in A i j a b

  pub mat_mul_within : (A B : Matrix K) → Within R n A → Within R n B → Within R n (mat_mul R n A B)
  mat_mul_within A B hA hB i j d = sum_eq_zero monoid n (λ k. A i k ⊗ B k j) (λ k l. ⊎_elim
      (λ (a : n ≤ i). ap (λ x. x ⊗ B k j) (hA i k (inl a)) ∙ zero-mul R (B k j))
      (λ (a : n ≤ j). ap (λ x. A i k ⊗ x) (hB k j (inr a)) ∙ mul-zero R (A i k)) d)

  abbrev pub matrices_add : AddCommGroupOn (Mat R n)
  matrices_add = record {
    monoid = record {
      zero = (λ i j. R.zero, λ i j d. refl);
      ◌⊕◌ = λ A B. (λ i j. A.0 i j ⊕ B.0 i j, λ i j d. ap₂ (λ x y. x ⊕ y) (A.1 i j d) (B.1 i j d) ∙ R.zero-add R.zero);
      add_assoc = λ A B C. Mat-path _ _ (λ i j. R.add_assoc (A.0 i j) (B.0 i j) (C.0 i j));
      add_comm = λ A B. Mat-path _ _ (λ i j. R.add_comm (A.0 i j) (B.0 i j));
      zero-add = λ A. Mat-path _ _ (λ i j. R.zero-add (A.0 i j));
    };
    neg = λ A. (λ i j. R.neg (A.0 i j), λ i j d. ap R.neg (A.1 i j d) ∙ neg_zero additive);
    neg-add = λ A. Mat-path _ _ (λ i j. R.neg-add (A.0 i j));
  }

  abbrev pub mat_times : Mat R n → Mat R n → Mat R n
  mat_times A B = (mat_mul R n A.0 B.0, mat_mul_within A.0 B.0 A.1 B.1)

  abbrev pub mat_one : Mat R n
  mat_one = mat (delta R)

  pub one-mat_mul : (A : Mat R n) → mat_times mat_one A ≡ A
  one-mat_mul A = Mat-ext (mat_times mat_one A) A (λ i j a b.
      mat_mul_congr R n (clip (delta R)) (delta R) A.0 A.0 i j (λ k l. clip-in (delta R) i k a l) (λ k _. refl)
      ∙ delta-mat_mul R n A.0 i j a)

  pub mat_mul-one : (A : Mat R n) → mat_times A mat_one ≡ A
  mat_mul-one A = Mat-ext (mat_times A mat_one) A (λ i j a b.
      mat_mul_congr R n A.0 A.0 (clip (delta R)) (delta R) i j (λ k _. refl) (λ k l. clip-in (delta R) k j l b)
      ∙ mat_mul-delta R n A.0 i j b)

  abbrev pub matrices : RingOn (Mat R n)
  matrices = record {
    additive = matrices_add;
    one = mat_one;
    ◌⊗◌ = mat_times;
    mul_assoc = λ A B C. Mat-path _ _ (λ i j. ap (λ (m : Matrix K). m i j) (mat_mul_assoc R n n A.0 B.0 C.0));
    one-mul = one-mat_mul;
    mul-one = mat_mul-one;
    mul-add = λ A B C. Mat-path _ _ (mul-add_mat R n A.0 B.0 C.0);
    add-mul = λ A B C. Mat-path _ _ (add-mul_mat R n A.0 B.0 C.0);
  }
