-- Power series: the convolution of coefficients makes functions on ℕ a commutative ring.
use Rattle.std.specs.Prelude.{◌≡◌, ℕ, zero, suc, ◌+◌, ◌-◌, ◌<◌, ◌≤◌}
use Rattle.std.proofs.Common.{refl, sym, ◌∙◌, ap, ap₂, arith}
use Rattle.std.proofs.Math.Path.{fun_ext}
use Rattle.theory_rings.specs.Ring.{RingOn, CommRingOn}
use Rattle.theory_rings.specs.Polynomial.{convolution, constant_coefficients}
use Rattle.theory_rings.proofs.Rings.RingLaws.{add-zero, zero-mul}
use Rattle.theory_rings.proofs.Sums.Sums.{sum_congr, sum_eq_zero, sum-add, sum_first, mul-sum}

-- the coefficients from the second on
abbrev pub tail : {X : Type 0} → (ℕ → X) → ℕ → X
tail f k = f (suc k)

-- the coefficients f, s places further up
abbrev pub shift : {X : Type 0} → X → ℕ → (ℕ → X) → ℕ → X
shift nought zero f k = f k
shift nought (suc s) f zero = nought
shift nought (suc s) f (suc k) = shift nought s f k

module _ {X : Type 0} (nought : X) where
  pub shift-below : (s : ℕ) (f : ℕ → X) (k : ℕ) → k < s → shift nought s f k ≡ nought
  shift-below zero f k l = absurd (omega arith)
  shift-below (suc s) f zero l = refl
  shift-below (suc s) f (suc k) l = shift-below s f k (omega arith)

  pub shift-above : (s : ℕ) (f : ℕ → X) (k j : ℕ) → k ≡ s + j → shift nought s f k ≡ f j
  shift-above zero f k j e = ap f (plain k j e)
    where
      plain : (k j : ℕ) → k ≡ 0 + j → k ≡ j
      plain k j e = omega arith
  shift-above (suc s) f zero j e = absurd (omega arith)
  shift-above (suc s) f (suc k) j e = shift-above s f k j (omega arith)

module _ {K : Type 0} (R : RingOn K) where
  infixl 65 ◌⊕◌
  infixl 70 ◌⊗◌
  open R use {monoid, one, ◌⊕◌, ◌⊗◌}

  pub convolution-zero : (f g : ℕ → K) → convolution R f g 0 ≡ f 0 ⊗ g 0
  convolution-zero f g = R.zero-add (f 0 ⊗ g 0)

  -- the first term apart
  pub convolution-suc : (f g : ℕ → K) (k : ℕ)
      → convolution R f g (suc k) ≡ (f 0 ⊗ g (suc k)) ⊕ convolution R (tail f) g k
  convolution-suc f g k =
      sum_first monoid (suc k) (λ i. f i ⊗ g (suc k - i))
      ∙ ap₂ (λ x y. x ⊕ y) (ap (λ j. f 0 ⊗ g j) (omega arith))
      (sum_congr monoid (suc k) (λ i. f (suc i) ⊗ g (suc k - suc i)) (λ i. f (suc i) ⊗ g (k - i))
      (λ i l. ap (λ j. f (suc i) ⊗ g j) (omega arith)))

  -- the last term apart
  pub convolution-suc_last : (f g : ℕ → K) (k : ℕ)
      → convolution R f g (suc k) ≡ convolution R f (tail g) k ⊕ (f (suc k) ⊗ g 0)
  convolution-suc_last f g k =
      ap₂ (λ x y. x ⊕ y)
      (sum_congr monoid (suc k) (λ i. f i ⊗ g (suc k - i)) (λ i. f i ⊗ g (suc (k - i)))
      (λ i l. ap (λ j. f i ⊗ g j) (omega arith)))
      (ap (λ j. f (suc k) ⊗ g j) (omega arith))

  pub convolution_congr : (f g f' g' : ℕ → K) → ((i : ℕ) → f i ≡ f' i) → ((i : ℕ) → g i ≡ g' i) → (k : ℕ)
      → convolution R f g k ≡ convolution R f' g' k
  convolution_congr f g f' g' ef eg k =
      sum_congr monoid (suc k) (λ i. f i ⊗ g (k - i)) (λ i. f' i ⊗ g' (k - i))
      (λ i l. ap₂ (λ x y. x ⊗ y) (ef i) (eg (k - i)))

  pub convolution-add : (f g h : ℕ → K) (k : ℕ)
      → convolution R f (λ i. g i ⊕ h i) k ≡ convolution R f g k ⊕ convolution R f h k
  convolution-add f g h k =
      sum_congr monoid (suc k) (λ i. f i ⊗ (g (k - i) ⊕ h (k - i))) (λ i. (f i ⊗ g (k - i)) ⊕ (f i ⊗ h (k - i)))
      (λ i l. R.mul-add (f i) (g (k - i)) (h (k - i)))
      ∙ sum-add monoid (suc k) (λ i. f i ⊗ g (k - i)) (λ i. f i ⊗ h (k - i))

  pub add-convolution : (f g h : ℕ → K) (k : ℕ)
      → convolution R (λ i. f i ⊕ g i) h k ≡ convolution R f h k ⊕ convolution R g h k
  add-convolution f g h k =
      sum_congr monoid (suc k) (λ i. (f i ⊕ g i) ⊗ h (k - i)) (λ i. (f i ⊗ h (k - i)) ⊕ (g i ⊗ h (k - i)))
      (λ i l. R.add-mul (f i) (g i) (h (k - i)))
      ∙ sum-add monoid (suc k) (λ i. f i ⊗ h (k - i)) (λ i. g i ⊗ h (k - i))

  pub mul-convolution : (c : K) (f g : ℕ → K) (k : ℕ) → convolution R (λ i. c ⊗ f i) g k ≡ c ⊗ convolution R f g k
  mul-convolution c f g k =
      sum_congr monoid (suc k) (λ i. (c ⊗ f i) ⊗ g (k - i)) (λ i. c ⊗ (f i ⊗ g (k - i)))
      (λ i l. R.mul_assoc c (f i) (g (k - i)))
      ∙ sym (mul-sum R (suc k) c (λ i. f i ⊗ g (k - i)))

  -- where each term is 0 the convolution is
  pub convolution_eq_zero : (f g : ℕ → K) (k : ℕ) → ((i : ℕ) → i ≤ k → f i ⊗ g (k - i) ≡ R.zero)
      → convolution R f g k ≡ R.zero
  convolution_eq_zero f g k h = sum_eq_zero monoid (suc k) (λ i. f i ⊗ g (k - i)) (λ i l. h i (omega arith))

  -- a constant times a series
  pub constant-convolution : (c : K) (g : ℕ → K) (k : ℕ) → convolution R (constant_coefficients R.zero c) g k ≡ c ⊗ g k
  constant-convolution c g zero = convolution-zero (constant_coefficients R.zero c) g
  constant-convolution c g (suc k) =
      convolution-suc (constant_coefficients R.zero c) g k
      ∙ ap (λ x. (c ⊗ g (suc k)) ⊕ x) (convolution_eq_zero (λ i. R.zero) g k (λ i l. zero-mul R (g (k - i))))
      ∙ add-zero monoid (c ⊗ g (suc k))

  pub convolution_assoc : (f g h : ℕ → K) (k : ℕ)
      → convolution R (convolution R f g) h k ≡ convolution R f (convolution R g h) k
  convolution_assoc f g h zero =
      convolution-zero (convolution R f g) h ∙ ap (λ x. x ⊗ h 0) (convolution-zero f g) ∙ R.mul_assoc (f 0) (g 0) (h 0)
      ∙ sym (convolution-zero f (convolution R g h) ∙ ap (λ x. f 0 ⊗ x) (convolution-zero g h))
  convolution_assoc f g h (suc k) =
      convolution-suc (convolution R f g) h k
      ∙ ap₂ (λ x y. x ⊕ y) (ap (λ x. x ⊗ h (suc k)) (convolution-zero f g) ∙ R.mul_assoc (f 0) (g 0) (h (suc k)))
      (convolution_congr (tail (convolution R f g)) h (λ i. (f 0 ⊗ g (suc i)) ⊕ convolution R (tail f) g i) h
      (convolution-suc f g) (λ i. refl) k
      ∙ add-convolution (λ i. f 0 ⊗ g (suc i)) (convolution R (tail f) g) h k
      ∙ ap₂ (λ x y. x ⊕ y) (mul-convolution (f 0) (tail g) h k) (convolution_assoc (tail f) g h k))
      ∙ sym (R.add_assoc (f 0 ⊗ (g 0 ⊗ h (suc k))) (f 0 ⊗ convolution R (tail g) h k)
      (convolution R (tail f) (convolution R g h) k))
      ∙ ap (λ x. x ⊕ convolution R (tail f) (convolution R g h) k)
      (sym (R.mul-add (f 0) (g 0 ⊗ h (suc k)) (convolution R (tail g) h k))
      ∙ ap (λ x. f 0 ⊗ x) (sym (convolution-suc g h k)))
      ∙ sym (convolution-suc f (convolution R g h) k)

module _ {K : Type 0} (C : CommRingOn K) where
  infixl 65 ◌⊕◌
  infixl 70 ◌⊗◌
  open C use {ring, monoid, one, ◌⊕◌, ◌⊗◌}

  pub convolution_comm : (f g : ℕ → K) (k : ℕ) → convolution ring f g k ≡ convolution ring g f k
  convolution_comm f g zero = convolution-zero ring f g ∙ C.mul_comm (f 0) (g 0) ∙ sym (convolution-zero ring g f)
  convolution_comm f g (suc k) =
      convolution-suc ring f g k ∙ C.add_comm (f 0 ⊗ g (suc k)) (convolution ring (tail f) g k)
      ∙ ap₂ (λ x y. x ⊕ y) (convolution_comm (tail f) g k) (C.mul_comm (f 0) (g (suc k)))
      ∙ sym (convolution-suc_last ring g f k)

  -- the series are a commutative ring
  abbrev pub series : CommRingOn (ℕ → K)
  series =
      let unit : ℕ → K = constant_coefficients C.zero one in
      let left : (f : ℕ → K)
      → convolution ring unit f ≡ f = λ f. fun_ext (λ k. constant-convolution ring one f k ∙ C.one-mul (f k)) in
      let swap : (f g : ℕ → K) → convolution ring f g ≡ convolution ring g f = λ f g. fun_ext (convolution_comm f g) in
      record {
        ring = record {
          additive = record {
            monoid = record {
              zero = λ k. C.zero;
              ◌⊕◌ = λ f g k. f k ⊕ g k;
              add_assoc = λ f g h. fun_ext (λ k. C.add_assoc (f k) (g k) (h k));
              add_comm = λ f g. fun_ext (λ k. C.add_comm (f k) (g k));
              zero-add = λ f. fun_ext (λ k. C.zero-add (f k));
            };
            neg = λ f k. C.neg (f k);
            neg-add = λ f. fun_ext (λ k. C.neg-add (f k));
          };
          one = unit;
          ◌⊗◌ = convolution ring;
          mul_assoc = λ f g h. fun_ext (convolution_assoc ring f g h);
          one-mul = left;
          mul-one = λ f. swap f unit ∙ left f;
          mul-add = λ f g h. fun_ext (convolution-add ring f g h);
          add-mul = λ f g h. fun_ext (add-convolution ring f g h);
        };
        mul_comm = swap;
      }
