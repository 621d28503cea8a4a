-- The multiplications by the elements of an algebra from the left, as matrices: a faithful representation.
use Rattle.std.specs.Prelude.{◌≡◌, ℕ, ◌<◌}
use Rattle.std.proofs.Common.{sym, ◌∙◌, ap, ap₂}
use Rattle.theory_rings.specs.Ring.{RingOn, CommRingOn}
use Rattle.theory_rings.specs.Power.{power}
use Rattle.theory_rings.proofs.Rings.RingLaws.{additive-zero}
use Rattle.theory_rings.proofs.Sums.Sums.{sum_congr, sum_eq_zero, mul-sum}
use Rattle.theory_rings.proofs.Powers.Powers.{map-power}
use Rattle.theory_spaces.specs.Module.{AlgebraOn, module_of}
use Rattle.theory_spaces.specs.Linear.{Basis}
use Rattle.theory_spaces.specs.Matrix.{Matrix, delta, Mat}
use Rattle.theory_spaces.proofs.Linear.Modules.{left_linear, scale-zero, comb_zero}
use Rattle.theory_spaces.proofs.Linear.Spaces.{Basis-coord}
use Rattle.theory_spaces.proofs.Matrices.Matrices.{Mat-ext, mat, mat-entry, matrices, delta_comm}
use Rattle.theory_spaces.proofs.Forms.MapTraces.{coord-map}
use Rattle.theory_spaces.proofs.Linear.IndependentVectors.{comb-delta}

module _ {K V : Type 0} (C : CommRingOn K) (set : IsSet K) (A : AlgebraOn C.ring V) (m : ℕ)
    (B : Basis (module_of A) m) where
  infixl 65 ◌⊕◌
  infixl 70 ◌⊗◌
  infixl 70 ◌•◌
  open A use {◌⊕◌, ◌⊗◌, ◌•◌}

  abbrev M : RingOn (Mat C.ring m)
  M = matrices C.ring set m

  abbrev pub regular_entries : V → Matrix K
  regular_entries x i j = B.coord (x ⊗ B.vec j) i

  pub regular : V → Mat C.ring m
  regular x = mat C.ring set m (regular_entries x)

  pub regular-entry : (x : V) (i j : ℕ) → i < m → j < m → (regular x).0 i j ≡ B.coord (x ⊗ B.vec j) i
  unfolding regular
  regular-entry x i j a b = mat-entry C.ring set m (regular_entries x) i j a b

  pub regular-add : (x y : V) → regular (x ⊕ y) ≡ M.◌⊕◌ (regular x) (regular y)
  regular-add x y = Mat-ext C.ring set m (regular (x ⊕ y)) (M.◌⊕◌ (regular x) (regular y))
      (λ i j a b. regular-entry (x ⊕ y) i j a b
      ∙ ap (λ z. B.coord z i) (A.add-mul x y (B.vec j)) ∙ B.coord-add (x ⊗ B.vec j) (y ⊗ B.vec j) i
      ∙ ap₂ C.◌⊕◌ (sym (regular-entry x i j a b)) (sym (regular-entry y i j a b)))

  pub regular-mul : (x y : V) → regular (x ⊗ y) ≡ M.◌⊗◌ (regular x) (regular y)
  regular-mul x y = Mat-ext C.ring set m (regular (x ⊗ y)) (M.◌⊗◌ (regular x) (regular y))
      (λ i j a b. regular-entry (x ⊗ y) i j a b
      ∙ ap (λ z. B.coord z i) (A.mul_assoc x y (B.vec j))
      ∙ coord-map C (module_of A) m B (λ z. x ⊗ z) (left_linear A x) (y ⊗ B.vec j) i
      ∙ sum_congr C.monoid m (λ k. C.◌⊗◌ (B.coord (y ⊗ B.vec j) k) (B.coord (x ⊗ B.vec k) i))
      (λ k. C.◌⊗◌ ((regular x).0 i k) ((regular y).0 k j))
      (λ k g. C.mul_comm (B.coord (y ⊗ B.vec j) k) (B.coord (x ⊗ B.vec k) i)
      ∙ ap₂ C.◌⊗◌ (sym (regular-entry x i k a g)) (sym (regular-entry y k j g b))))

  -- the coordinates of the vectors of the basis
  basis-coord : (i j : ℕ) → i < m → j < m → B.coord (B.vec j) i ≡ delta C.ring i j
  basis-coord i j a b = ap (λ x. B.coord x i) (sym (comb-delta (module_of A) m j B.vec b))
      ∙ Basis-coord (module_of A) m B (delta C.ring j) i a ∙ delta_comm C.ring j i

  pub regular-one : regular A.one ≡ M.one
  regular-one = Mat-ext C.ring set m (regular A.one) M.one
      (λ i j a b. regular-entry A.one i j a b ∙ ap (λ z. B.coord z i) (A.one-mul (B.vec j)) ∙ basis-coord i j a b
      ∙ sym (mat-entry C.ring set m (delta C.ring) i j a b))

  pub regular-zero : regular A.zero ≡ M.zero
  regular-zero = additive-zero A.additive M.additive regular regular-add

  pub regular-power : (x : V) (k : ℕ) → regular (power A.ring x k) ≡ power M (regular x) k
  regular-power = map-power A.ring M regular regular-one regular-mul

  -- only 0 multiplies everything to 0
  pub regular_faithful : (x : V) → regular x ≡ M.zero → x ≡ A.zero
  regular_faithful x e =
      let column : (j : ℕ) → j < m → x ⊗ B.vec j ≡ A.zero = λ j b.
      B.expand (x ⊗ B.vec j)
      ∙ comb_zero (module_of A) m (B.coord (x ⊗ B.vec j)) B.vec
      (λ i a. sym (regular-entry x i j a b) ∙ ap (λ (f : Mat C.ring m). f.0 i j) e) in
      sym (A.mul-one x) ∙ ap (λ z. x ⊗ z) (B.expand A.one) ∙ mul-sum A.ring m x (λ j. B.coord A.one j • B.vec j)
      ∙ sum_eq_zero A.monoid m (λ j. x ⊗ (B.coord A.one j • B.vec j))
      (λ j b. A.scale-right (B.coord A.one j) x (B.vec j) ∙ ap (λ z. B.coord A.one j • z) (column j b)
      ∙ scale-zero (module_of A) (B.coord A.one j))
