-- An idempotent e of a simple algebra with eAe = Ke: on a basis of Ae the elements act from the left by matrices, each
-- matrix is that of one element, and so the dimension of the algebra is the square of that of Ae.
use Rattle.std.specs.Prelude.{◌≡◌, ℕ, ◌*◌, ◌<◌}
use Rattle.std.proofs.Common.{sym, ◌∙◌, ap, ap₂}
use Rattle.theory_rings.specs.Ring.{FieldOn}
use Rattle.theory_rings.specs.Sum.{sum}
use Rattle.theory_rings.proofs.Rings.Semirings.{semiring, mul_left_comm}
use Rattle.theory_rings.proofs.Rings.Fields.{field_set}
use Rattle.theory_rings.proofs.Sums.Sums.{sum_congr, sum-add, mul-sum}
use Rattle.theory_spaces.specs.Module.{ModuleOn, AlgebraOn, module_of}
use Rattle.theory_spaces.specs.Linear.{comb, Basis, BasisOf}
use Rattle.theory_spaces.specs.Matrix.{Mat, delta}
use Rattle.theory_spaces.specs.AlgebraMap.{IsAlgebraHom}
use Rattle.theory_spaces.specs.MatrixAlgebra.{IsMatrixAlgebra}
use Rattle.theory_spaces.specs.MinimalIdempotent.{IsMinimalIdempotent, InLeftIdeal, OneThrough, IsEndomorphism}
use Rattle.theory_spaces.specs.MinimalIdempotent.{multiplier, LeftMatrices}
use Rattle.theory_spaces.proofs.Linear.Modules.{comb_congr, comb_congr_right, comb-add, comb-scale, comb-comb}
use Rattle.theory_spaces.proofs.Linear.Modules.{comb_injective, comb_in, left_linear, map-comb, linear_ext}
use Rattle.theory_spaces.proofs.Linear.IndependentVectors.{comb-delta}
use Rattle.theory_spaces.proofs.Matrices.Matrices.{Mat-ext, mat, mat-entry, delta_comm, sum-mul_delta}
use Rattle.theory_spaces.proofs.Linear.Dimension.{dimension_unique}
use Rattle.theory_spaces.proofs.Matrices.MatrixAlgebra.{matrix_algebra, matrix_algebra_is, matrix_basis}
use Rattle.theory_spaces.proofs.Algebras.Isomorphisms.{iso_basis}
use Rattle.theory_spaces.proofs.Algebras.MinimalIdempotents.{left_ideal_submodule, mul_idempotent-in, mul-in, faithful}
use Rattle.theory_spaces.proofs.Algebras.MinimalIdempotents.{multiplier-mul}

module _ {K V : Type 0} (F : FieldOn K) (A : AlgebraOn F.ring V) (e : V) (h : IsMinimalIdempotent A e)
    (o : OneThrough A e)
    (k : ℕ) (W : BasisOf (module_of A) k (InLeftIdeal A e)) where
  infixl 65 ◌⊕◌
  infixl 70 ◌⊗◌
  infixl 70 ◌•◌
  open A use {◌⊕◌, ◌⊗◌, ◌•◌}

  abbrev M : ModuleOn F.ring V
  M = module_of A

  -- the weights of x · e
  coordinate : V → ℕ → K
  coordinate x = (W.spans (x ⊗ e) (mul_idempotent-in A e h.idempotent x)).weights

  coordinate-expand : (x : V) → x ⊗ e ≡ comb M k (coordinate x) W.vec
  unfolding coordinate
  coordinate-expand x = (W.spans (x ⊗ e) (mul_idempotent-in A e h.idempotent x)).combines

  coordinate-of : (x : V) (c : ℕ → K) → x ⊗ e ≡ comb M k c W.vec → (i : ℕ) → i < k → coordinate x i ≡ c i
  coordinate-of x c q i l = comb_injective M k W.vec W.independent (coordinate x) c (sym (coordinate-expand x) ∙ q) i l

  coordinate-add : (x y : V) (i : ℕ) → i < k → coordinate (x ⊕ y) i ≡ F.◌⊕◌ (coordinate x i) (coordinate y i)
  coordinate-add x y i l = coordinate-of (x ⊕ y) (λ i. F.◌⊕◌ (coordinate x i) (coordinate y i))
      (A.add-mul x y e ∙ ap₂ (λ a b. a ⊕ b) (coordinate-expand x) (coordinate-expand y)
      ∙ sym (comb-add M k (coordinate x) (coordinate y) W.vec)) i l

  coordinate-scale : (a : K) (x : V) (i : ℕ) → i < k → coordinate (a • x) i ≡ F.◌⊗◌ a (coordinate x i)
  coordinate-scale a x i l = coordinate-of (a • x) (λ i. F.◌⊗◌ a (coordinate x i))
      (A.scale-left a x e ∙ ap (A.◌•◌ a) (coordinate-expand x) ∙ sym (comb-scale M k a (coordinate x) W.vec)) i l

  coordinate-vec : (j : ℕ) → j < k → (i : ℕ) → i < k → coordinate (W.vec j) i ≡ delta F.ring j i
  coordinate-vec j l = coordinate-of (W.vec j) (delta F.ring j) (W.inside j l ∙ sym (comb-delta M k j W.vec l))

  -- column j is the image of vector j
  pub left_matrix : V → Mat F.ring k
  left_matrix x = mat F.ring (field_set F) k (λ i j. coordinate (x ⊗ W.vec j) i)

  left_matrix-entry : (x : V) (i j : ℕ) → i < k → j < k → (left_matrix x).0 i j ≡ coordinate (x ⊗ W.vec j) i
  unfolding left_matrix
  left_matrix-entry x i j a b = mat-entry F.ring (field_set F) k (λ i j. coordinate (x ⊗ W.vec j) i) i j a b

  pub left_matrix-acts : (x : V) (j : ℕ) → j < k → x ⊗ W.vec j ≡ comb M k (λ i. (left_matrix x).0 i j) W.vec
  left_matrix-acts x j l = sym (mul-in A e h.idempotent x (W.vec j) (W.inside j l)) ∙ coordinate-expand (x ⊗ W.vec j)
      ∙ comb_congr M k (coordinate (x ⊗ W.vec j)) (λ i. (left_matrix x).0 i j) W.vec
      (λ i g. sym (left_matrix-entry x i j g l))

  -- the matrix is known by how x acts
  left_matrix-of : (x : V) (c : ℕ → K) (j : ℕ) → j < k → x ⊗ W.vec j ≡ comb M k c W.vec → (i : ℕ) → i < k
      → (left_matrix x).0 i j ≡ c i
  left_matrix-of x c j l q i g =
      comb_injective M k W.vec W.independent (λ i. (left_matrix x).0 i j) c (sym (left_matrix-acts x j l) ∙ q) i g

  module _ (B : AlgebraOn F.ring (Mat F.ring k)) (H : IsMatrixAlgebra F.ring k B) where
    left_matrix_hom : IsAlgebraHom A B left_matrix
    left_matrix_hom = record {
      map-one = Mat-ext F.ring (field_set F) k (left_matrix A.one) B.one (λ i j a b.
          left_matrix-of A.one (delta F.ring j) j b (A.one-mul (W.vec j) ∙ sym (comb-delta M k j W.vec b)) i a
          ∙ delta_comm F.ring j i ∙ sym (H.one-is i j a b));
      map-add = λ x y. Mat-ext F.ring (field_set F) k (left_matrix (x ⊕ y)) (B.◌⊕◌ (left_matrix x) (left_matrix y))
          (λ i j a b.
          left_matrix-of (x ⊕ y) (λ i. F.◌⊕◌ ((left_matrix x).0 i j) ((left_matrix y).0 i j)) j b
          (A.add-mul x y (W.vec j) ∙ ap₂ (λ p q. p ⊕ q) (left_matrix-acts x j b) (left_matrix-acts y j b)
          ∙ sym (comb-add M k (λ i. (left_matrix x).0 i j) (λ i. (left_matrix y).0 i j) W.vec)) i a
          ∙ sym (H.add-is (left_matrix x) (left_matrix y) i j));
      map-mul = λ x y. Mat-ext F.ring (field_set F) k (left_matrix (x ⊗ y)) (B.◌⊗◌ (left_matrix x) (left_matrix y))
          (λ i j a b.
          let X = (left_matrix x).0 in
          let Y = (left_matrix y).0 in
          left_matrix-of (x ⊗ y) (λ i. sum F.monoid k (λ l. F.◌⊗◌ (Y l j) (X i l))) j b
          (A.mul_assoc x y (W.vec j) ∙ ap (λ z. x ⊗ z) (left_matrix-acts y j b)
          ∙ map-comb M M (λ z. x ⊗ z) (left_linear A x) k (λ l. Y l j) W.vec
          ∙ comb_congr_right M k (λ l. Y l j) (λ l. x ⊗ W.vec l) (λ l. comb M k (λ i. X i l) W.vec) (left_matrix-acts x)
          ∙ comb-comb M k k (λ l. Y l j) (λ l i. X i l) W.vec) i a
          ∙ sum_congr F.monoid k (λ l. F.◌⊗◌ (Y l j) (X i l)) (λ l. F.◌⊗◌ (X i l) (Y l j))
          (λ l _. F.mul_comm (Y l j) (X i l))
          ∙ sym (H.mul-is (left_matrix x) (left_matrix y) i j));
      map-scale = λ c x. Mat-ext F.ring (field_set F) k (left_matrix (c • x)) (B.◌•◌ c (left_matrix x)) (λ i j a b.
          left_matrix-of (c • x) (λ i. F.◌⊗◌ c ((left_matrix x).0 i j)) j b
          (A.scale-left c x (W.vec j) ∙ ap (A.◌•◌ c) (left_matrix-acts x j b)
          ∙ sym (comb-scale M k c (λ i. (left_matrix x).0 i j) W.vec)) i a
          ∙ sym (H.scale-is c (left_matrix x) i j));
    }

  left_matrix-injective : (x y : V) → left_matrix x ≡ left_matrix y → x ≡ y
  left_matrix-injective x y q = faithful A e h.idempotent o x y (λ z p.
      linear_ext M M (λ z. x ⊗ z) (λ z. y ⊗ z) (left_linear A x) (left_linear A y) k W.vec
      (λ j l. left_matrix-acts x j l ∙ ap (λ (X : Mat F.ring k). comb M k (λ i. X.0 i j) W.vec) q
      ∙ sym (left_matrix-acts y j l))
      z (W.spans z p))

  -- the map of Ae with a given matrix
  module _ (X : Mat F.ring k) where
    abbrev entries : V → ℕ → K
    entries z i = sum F.monoid k (λ j. F.◌⊗◌ (X.0 i j) (coordinate z j))

    abbrev map_of : V → V
    map_of z = comb M k (entries z) W.vec

    map_of_endomorphism : IsEndomorphism A e map_of
    map_of_endomorphism = record {
      inside = λ z p. comb_in M (InLeftIdeal A e) (left_ideal_submodule A e h.idempotent) k (entries z) W.vec W.inside;
      map-add = λ y z _ _. comb_congr M k (entries (y ⊕ z)) (λ i. F.◌⊕◌ (entries y i) (entries z i)) W.vec (λ i _.
          sum_congr F.monoid k (λ j. F.◌⊗◌ (X.0 i j) (coordinate (y ⊕ z) j))
          (λ j. F.◌⊕◌ (F.◌⊗◌ (X.0 i j) (coordinate y j)) (F.◌⊗◌ (X.0 i j) (coordinate z j)))
          (λ j l. ap (F.◌⊗◌ (X.0 i j)) (coordinate-add y z j l) ∙ F.mul-add (X.0 i j) (coordinate y j) (coordinate z j))
          ∙ sum-add F.monoid k (λ j. F.◌⊗◌ (X.0 i j) (coordinate y j)) (λ j. F.◌⊗◌ (X.0 i j) (coordinate z j)))
          ∙ comb-add M k (entries y) (entries z) W.vec;
      map-scale = λ a z _. comb_congr M k (entries (a • z)) (λ i. F.◌⊗◌ a (entries z i)) W.vec (λ i _.
          sum_congr F.monoid k (λ j. F.◌⊗◌ (X.0 i j) (coordinate (a • z) j))
          (λ j. F.◌⊗◌ a (F.◌⊗◌ (X.0 i j) (coordinate z j)))
          (λ j l. ap (F.◌⊗◌ (X.0 i j)) (coordinate-scale a z j l)
          ∙ mul_left_comm (semiring F.cring) (X.0 i j) a (coordinate z j))
          ∙ sym (mul-sum F.ring k a (λ j. F.◌⊗◌ (X.0 i j) (coordinate z j))))
          ∙ comb-scale M k a (entries z) W.vec;
    }

    pub element_of : V
    element_of = multiplier A e o map_of

    pub left_matrix-element_of : left_matrix element_of ≡ X
    unfolding element_of
    left_matrix-element_of = Mat-ext F.ring (field_set F) k (left_matrix (multiplier A e o map_of)) X (λ i j a b.
        left_matrix-of (multiplier A e o map_of) (λ i. X.0 i j) j b
        (multiplier-mul A e h.idempotent map_of map_of_endomorphism h.corner o (W.vec j) (W.inside j b)
        ∙ comb_congr M k (entries (W.vec j)) (λ i. X.0 i j) W.vec (λ i _.
        sum_congr F.monoid k (λ l. F.◌⊗◌ (X.0 i l) (coordinate (W.vec j) l)) (λ l. F.◌⊗◌ (X.0 i l) (delta F.ring l j))
        (λ l g. ap (F.◌⊗◌ (X.0 i l)) (coordinate-vec j b l g ∙ delta_comm F.ring j l))
        ∙ sum-mul_delta F.ring k (X.0 i) j b)) i a)

  -- the elements are the matrices
  pub left_matrices : (B : AlgebraOn F.ring (Mat F.ring k)) → IsMatrixAlgebra F.ring k B → LeftMatrices A e k W B
  left_matrices B H = record {
    matrix = left_matrix;
    acts = left_matrix-acts;
    isomorphism = record {
      hom = left_matrix_hom B H;
      injective = left_matrix-injective;
      surjective = λ X. (element_of X, left_matrix-element_of X);
    };
  }

  -- the dimension is a square
  pub dimension_square : (n : ℕ) → Basis M n → n ≡ k * k
  dimension_square n C =
      let B = matrix_algebra F.cring (field_set F) k in
      let H = matrix_algebra_is F.cring (field_set F) k in
      let L = left_matrices B H in
      dimension_unique F M n (k * k) C
      (iso_basis A B L.matrix L.isomorphism (k * k) (matrix_basis F.cring (field_set F) k B H))
