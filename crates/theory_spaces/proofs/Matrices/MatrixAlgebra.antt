-- The n by n matrices are an algebra with the matrix units as a basis, and over a field it is central simple.
use Rattle.std.specs.Prelude.{◌≡◌, ℕ, ◌+◌, ◌*◌, ◌/◌, ◌%◌, ◌<◌, ◌⊎◌}
use Rattle.std.proofs.Common.{refl, sym, ◌∙◌, ap, ap₂, subst, arith, inl, inr, ⊎_elim}
use Rattle.std.proofs.lemmas.Nat.{div-mul-add, mod-mul-add, div-add-mod'}
use Rattle.theory_rings.specs.Ring.{CommRingOn, FieldOn}
use Rattle.theory_rings.proofs.Rings.RingLaws.{mul-zero, zero-mul}
use Rattle.theory_rings.proofs.Rings.Semirings.{semiring, mul_left_comm}
use Rattle.theory_rings.proofs.Rings.Fields.{field_set, inv_mul_cancel_left}
use Rattle.theory_rings.proofs.Rings.ZeroTests.{eq_zero_or}
use Rattle.theory_rings.proofs.Sums.Sums.{sum_congr, sum_eq_single, mul-sum}
use Rattle.theory_spaces.specs.Module.{ModuleOn, AlgebraOn, module_of}
use Rattle.theory_spaces.specs.Linear.{InSpan, Basis}
use Rattle.theory_spaces.specs.Matrix.{Mat, delta}
use Rattle.theory_spaces.specs.Space.{SpaceOn}
use Rattle.theory_spaces.specs.Algebra.{IdealSpan, Central, CentralSimple}
use Rattle.theory_spaces.specs.MatrixAlgebra.{unit_entries, IsMatrixAlgebra, MatrixUnits}
use Rattle.theory_spaces.proofs.Linear.Modules.{InSpan-scale, InSpan-member, InSpan_trans}
use Rattle.theory_spaces.proofs.Linear.SpanTests.{some_or_all}
use Rattle.theory_spaces.proofs.Matrices.Matrices.{Mat-path, Mat-ext, mat, mat-entry, matrices, delta-same, delta-other}
use Rattle.theory_spaces.proofs.Matrices.Matrices.{delta_comm}
use Rattle.theory_spaces.proofs.Tuples.Tables.{space_basis, coord-unit}
use Rattle.theory_spaces.proofs.Matrices.PairIndex.{pair-lt, row-lt, column-lt, delta-pairs}

-- the algebra
module _ {K : Type 0} (C : CommRingOn K) (set : IsSet K) (n : ℕ) where
  infixl 65 ◌⊕◌
  infixl 70 ◌⊗◌
  open C use {ring, monoid, ◌⊕◌, ◌⊗◌}

  abbrev pub matrix_algebra : AlgebraOn ring (Mat ring n)
  matrix_algebra =
      let scaled : K → Mat ring n
      → Mat ring n = λ a x. (λ i j. a ⊗ x.0 i j, λ i j d. ap (λ b. a ⊗ b) (x.1 i j d) ∙ mul-zero ring a) in
      let R = matrices ring set n in
      record {
        ring = R;
        scalars = record {
          ◌•◌ = scaled;
          scale-add = λ a x y. Mat-path ring set n (scaled a (R.◌⊕◌ x y)) (R.◌⊕◌ (scaled a x) (scaled a y))
              (λ i j. C.mul-add a (x.0 i j) (y.0 i j));
          add-scale = λ a b x. Mat-path ring set n (scaled (a ⊕ b) x) (R.◌⊕◌ (scaled a x) (scaled b x))
              (λ i j. C.add-mul a b (x.0 i j));
          mul-scale = λ a b x. Mat-path ring set n (scaled (a ⊗ b) x) (scaled a (scaled b x))
              (λ i j. C.mul_assoc a b (x.0 i j));
          one-scale = λ x. Mat-path ring set n (scaled C.one x) x (λ i j. C.one-mul (x.0 i j));
        };
        scale-left = λ a x y. Mat-path ring set n (R.◌⊗◌ (scaled a x) y) (scaled a (R.◌⊗◌ x y)) (λ i j.
            sum_congr monoid n (λ k. a ⊗ x.0 i k ⊗ y.0 k j) (λ k. a ⊗ (x.0 i k ⊗ y.0 k j))
            (λ k _. C.mul_assoc a (x.0 i k) (y.0 k j))
            ∙ sym (mul-sum ring n a (λ k. x.0 i k ⊗ y.0 k j)));
        scale-right = λ a x y. Mat-path ring set n (R.◌⊗◌ x (scaled a y)) (scaled a (R.◌⊗◌ x y)) (λ i j.
            sum_congr monoid n (λ k. x.0 i k ⊗ (a ⊗ y.0 k j)) (λ k. a ⊗ (x.0 i k ⊗ y.0 k j))
            (λ k _. mul_left_comm (semiring C) (x.0 i k) a (y.0 k j))
            ∙ sym (mul-sum ring n a (λ k. x.0 i k ⊗ y.0 k j)));
      }

  pub matrix_algebra_is : IsMatrixAlgebra ring n matrix_algebra
  matrix_algebra_is = record {
    zero-is = λ i j. refl;
    add-is = λ x y i j. refl;
    scale-is = λ a x i j. refl;
    one-is = mat-entry ring set n (delta ring);
    mul-is = λ x y i j. refl;
  }

-- the matrix units of an algebra with the operations of matrices
module _ {K : Type 0} (C : CommRingOn K) (set : IsSet K) (n : ℕ) (A : AlgebraOn C.ring (Mat C.ring n))
    (H : IsMatrixAlgebra C.ring n A) where
  infixl 65 ◌⊕◌
  infixl 70 ◌⊗◌
  open C use {ring, monoid, ◌⊕◌, ◌⊗◌}

  abbrev M : ModuleOn ring (Mat ring n)
  M = module_of A

  -- one at the place i, j, and else zero
  abbrev pub unit_matrix : ℕ → ℕ → Mat ring n
  unit_matrix i j = mat ring set n (unit_entries ring i j)

  pub unit_matrix-entry : (i j k l : ℕ) → k < n → l < n → (unit_matrix i j).0 k l ≡ unit_entries ring i j k l
  unit_matrix-entry i j k l a b = mat-entry ring set n (unit_entries ring i j) k l a b

  pub mul-unit_matrix : (x : Mat ring n) (i j k l : ℕ) → i < n → l < n
      → (A.◌⊗◌ x (unit_matrix i j)).0 k l ≡ x.0 k i ⊗ delta ring j l
  mul-unit_matrix x i j k l a b =
      H.mul-is x (unit_matrix i j) k l
      ∙ sum_eq_single monoid n i (λ t. x.0 k t ⊗ (unit_matrix i j).0 t l) a
      (λ t g d. ap (λ y. x.0 k t ⊗ y)
      (unit_matrix-entry i j t l g b ∙ ap (λ y. y ⊗ delta ring j l) (delta-other ring i t (λ e. d (sym e)))
      ∙ zero-mul ring (delta ring j l)) ∙ mul-zero ring (x.0 k t))
      ∙ ap (λ y. x.0 k i ⊗ y)
      (unit_matrix-entry i j i l a b ∙ ap (λ y. y ⊗ delta ring j l) (delta-same ring i)
      ∙ C.one-mul (delta ring j l))

  pub unit_matrix-mul : (x : Mat ring n) (i j k l : ℕ) → j < n → k < n
      → (A.◌⊗◌ (unit_matrix i j) x).0 k l ≡ delta ring i k ⊗ x.0 j l
  unit_matrix-mul x i j k l a b =
      H.mul-is (unit_matrix i j) x k l
      ∙ sum_eq_single monoid n j (λ t. (unit_matrix i j).0 k t ⊗ x.0 t l) a
      (λ t g d. ap (λ y. y ⊗ x.0 t l)
      (unit_matrix-entry i j k t b g ∙ ap (λ y. delta ring i k ⊗ y) (delta-other ring j t (λ e. d (sym e)))
      ∙ mul-zero ring (delta ring i k)) ∙ zero-mul ring (x.0 t l))
      ∙ ap (λ y. y ⊗ x.0 j l)
      (unit_matrix-entry i j k j b a ∙ ap (λ y. delta ring i k ⊗ y) (delta-same ring j)
      ∙ C.mul-one (delta ring i k))

  -- the product of two units is 0, or a unit
  pub unit_matrix-mul_unit_matrix : (i j k l : ℕ) → j < n → k < n
      → A.◌⊗◌ (unit_matrix i j) (unit_matrix k l) ≡ A.◌•◌ (delta ring j k) (unit_matrix i l)
  unit_matrix-mul_unit_matrix i j k l a b =
      Mat-ext ring set n (A.◌⊗◌ (unit_matrix i j) (unit_matrix k l)) (A.◌•◌ (delta ring j k) (unit_matrix i l))
      (λ p q c d.
      unit_matrix-mul (unit_matrix k l) i j p q a c
      ∙ ap (λ y. delta ring i p ⊗ y)
      (unit_matrix-entry k l j q a d ∙ ap (λ y. y ⊗ delta ring l q) (delta_comm ring k j))
      ∙ mul_left_comm (semiring C) (delta ring i p) (delta ring j k) (delta ring l q)
      ∙ sym (H.scale-is (delta ring j k) (unit_matrix i l) p q
      ∙ ap (λ y. delta ring j k ⊗ y) (unit_matrix-entry i l p q c d)))

  -- the entries are coordinates
  pub entry-at_pair : (x : Mat ring n) (i j : ℕ) → j < n → x.0 ((i * n + j) / n) ((i * n + j) % n) ≡ x.0 i j
  entry-at_pair x i j l = ap₂ x.0 (div-mul-add i n j l) (mod-mul-add i n j l)

  abbrev pub matrix_space : SpaceOn M (n * n)
  matrix_space = record {
    coord = λ x t. x.0 (t / n) (t % n);
    make = λ f. mat ring set n (λ i j. f (i * n + j));
    coord-make = λ f t l.
        mat-entry ring set n (λ i j. f (i * n + j)) (t / n) (t % n) (row-lt n n t l) (column-lt n n t l)
        ∙ ap f (div-add-mod' t n);
    ext = λ x y h. Mat-ext ring set n x y
        (λ i j a b. sym (entry-at_pair x i j b) ∙ h (i * n + j) (pair-lt n n i j a b) ∙ entry-at_pair y i j b);
    coord-zero = λ t l. H.zero-is (t / n) (t % n);
    coord-add = λ x y t l. H.add-is x y (t / n) (t % n);
    coord-scale = λ a x t l. H.scale-is a x (t / n) (t % n);
  }

  abbrev pub matrix_basis : Basis M (n * n)
  matrix_basis = space_basis M (n * n) matrix_space

  pub matrix_basis-vec : (i j : ℕ) → i < n → j < n → matrix_basis.vec (i * n + j) ≡ unit_matrix i j
  matrix_basis-vec i j a b = Mat-ext ring set n (matrix_basis.vec (i * n + j)) (unit_matrix i j) (λ k l c d.
      sym (entry-at_pair (matrix_basis.vec (i * n + j)) k l d)
      ∙ coord-unit M (n * n) matrix_space (i * n + j) (k * n + l) (pair-lt n n k l c d)
      ∙ delta-pairs ring n k l i j d b ∙ ap₂ (λ x y. x ⊗ y) (delta_comm ring k i) (delta_comm ring l j)
      ∙ sym (unit_matrix-entry i j k l c d))

  pub matrix_units : MatrixUnits ring n A
  matrix_units = record {
    unit = unit_matrix;
    entries = unit_matrix-entry;
    products = unit_matrix-mul_unit_matrix;
    basis = matrix_basis;
    basis-vec = matrix_basis-vec;
  }

  -- what commutes with all matrices is a multiple of one
  pub matrices_central : Central A
  matrices_central = record {
    multiple = λ x h. (
      x.0 0 0,
      Mat-ext ring set n x (A.◌•◌ (x.0 0 0) A.one) (λ i j a b.
          let p : 0 < n = omega arith in
          sym (C.mul-one (x.0 i j)) ∙ ap (λ y. x.0 i j ⊗ y) (sym (delta-same ring 0))
          ∙ sym (mul-unit_matrix x j 0 i 0 b p)
          ∙ ap (λ (y : Mat ring n). y.0 i 0) (h (unit_matrix j 0)) ∙ unit_matrix-mul x j 0 i 0 p a
          ∙ C.mul_comm (delta ring j i) (x.0 0 0) ∙ ap (λ y. x.0 0 0 ⊗ y) (delta_comm ring j i ∙ sym (H.one-is i j a b))
          ∙ sym (H.scale-is (x.0 0 0) A.one i j)),
    );
  }

-- the ideals
module _ {K : Type 0} (F : FieldOn K) (n : ℕ) (A : AlgebraOn F.ring (Mat F.ring n))
    (H : IsMatrixAlgebra F.ring n A) where
  infixl 65 ◌⊕◌
  infixl 70 ◌⊗◌
  open F use {ring, monoid, ◌⊕◌, ◌⊗◌}

  abbrev E : ℕ → ℕ → Mat ring n
  E = unit_matrix F.cring (field_set F) n A H

  -- each unit from a matrix with an entry other than 0
  unit_from_entry : (x : Mat ring n) (p q i j : ℕ) → p < n → q < n → (x.0 p q ≡ F.zero → ⊥)
      → E i j ≡ A.◌•◌ (F.inv (x.0 p q)) (A.◌⊗◌ (E i p) (A.◌⊗◌ x (E q j)))
  unit_from_entry x p q i j a b d =
      Mat-ext ring (field_set F) n (E i j) (A.◌•◌ (F.inv (x.0 p q)) (A.◌⊗◌ (E i p) (A.◌⊗◌ x (E q j)))) (λ k l e f.
      unit_matrix-entry F.cring (field_set F) n A H i j k l e f
      ∙ sym (H.scale-is (F.inv (x.0 p q)) (A.◌⊗◌ (E i p) (A.◌⊗◌ x (E q j))) k l
      ∙ ap (λ y. F.inv (x.0 p q) ⊗ y)
      (unit_matrix-mul F.cring (field_set F) n A H (A.◌⊗◌ x (E q j)) i p k l a e
      ∙ ap (λ y. delta ring i k ⊗ y) (mul-unit_matrix F.cring (field_set F) n A H x q j p l b f)
      ∙ mul_left_comm (semiring F.cring) (delta ring i k) (x.0 p q) (delta ring j l))
      ∙ inv_mul_cancel_left F (x.0 p q) (unit_entries ring i j k l) d))

  module _ (m : ℕ) (g : ℕ → Mat ring n) (ideal : IdealSpan A m g) where
    abbrev In : Mat ring n → Type 0
    In = InSpan (module_of A) m g

    -- one entry other than 0 of one of the matrices
    abbrev HasEntry : ℕ → Type 0
    HasEntry t = (p : ℕ) × (p < n) × ((q : ℕ) × (q < n) × ((g t).0 p q ≡ F.zero → ⊥))

    entry_or_zero : (t : ℕ) → HasEntry t ⊎ (g t ≡ A.zero)
    entry_or_zero t = ⊎_elim (λ (s : HasEntry t). inl s)
        (λ (z : (p : ℕ) → p < n → (q : ℕ) → q < n → (g t).0 p q ≡ F.zero).
        inr (Mat-ext ring (field_set F) n (g t) A.zero (λ i j a b. z i a j b ∙ sym (H.zero-is i j))))
        (some_or_all n (λ p. (q : ℕ) × (q < n) × ((g t).0 p q ≡ F.zero → ⊥))
        (λ p. (q : ℕ) → q < n → (g t).0 p q ≡ F.zero)
        (λ p _. some_or_all n (λ q. (g t).0 p q ≡ F.zero → ⊥) (λ q. (g t).0 p q ≡ F.zero)
        (λ q _. ⊎_elim inr inl (eq_zero_or F.zero_test ((g t).0 p q)))))

    whole : (t : ℕ) → t < m → HasEntry t → (x : Mat ring n) → In x
    whole t l h x =
        let B = matrix_basis F.cring (field_set F) n A H in
        let all : (i j : ℕ) → In (E i j) = λ i j.
        subst In (sym (unit_from_entry (g t) h.0 h.2.0 i j h.1 h.2.1 h.2.2))
        (InSpan-scale (module_of A) m g (F.inv ((g t).0 h.0 h.2.0)) (A.◌⊗◌ (E i h.0) (A.◌⊗◌ (g t) (E h.2.0 j)))
        (ideal.left (E i h.0) (A.◌⊗◌ (g t) (E h.2.0 j)) tt
        (ideal.right (E h.2.0 j) (g t) tt (InSpan-member (module_of A) m t g l)))) in
        InSpan_trans (module_of A) (n * n) m B.vec g x
        (λ s b. subst In (sym
        (matrix_basis-vec F.cring (field_set F) n A H (s / n) (s % n) (row-lt n n s b) (column-lt n n s b))
        ∙ ap B.vec (div-add-mod' s n)) (all (s / n) (s % n)))
        (record { weights = B.coord x; combines = B.expand x })

    pub matrices_simple : ((i : ℕ) → i < m → g i ≡ A.zero) ⊎ ((x : Mat ring n) → In x)
    matrices_simple = ⊎_elim
        (λ (s : (t : ℕ) × (t < m) × HasEntry t). inr (whole s.0 s.1 s.2))
        inl
        (some_or_all m HasEntry (λ t. g t ≡ A.zero) (λ t _. entry_or_zero t))

  -- over a field the n by n matrices are central simple
  pub matrices_central_simple : CentralSimple A
  matrices_central_simple = record { central = matrices_central F.cring (field_set F) n A H; simple = matrices_simple }

  -- and for n other than 0 the algebra is not 0
  pub matrices_one-ne-zero : 0 < n → A.one ≡ A.zero → ⊥
  matrices_one-ne-zero l e =
      F.one-nonzero (sym (delta-same ring 0) ∙ sym (H.one-is 0 0 l l) ∙ ap (λ (x : Mat ring n). x.0 0 0) e
      ∙ H.zero-is 0 0)
