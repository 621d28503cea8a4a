-- The maps y → x·y·w as combinations of products with the vectors of a basis: of the maps y → b i·y, of the maps y → a
-- k·y by a basis a over the centre, and of the coefficients of y by such a basis.
use Rattle.std.specs.Prelude.{◌≡◌, ℕ, ◌*◌, ◌/◌, ◌%◌}
use Rattle.std.proofs.Common.{sym, ◌∙◌, ap, subst}
use Rattle.std.proofs.Math.Path.{fun_ext}
use Rattle.theory_rings.specs.Ring.{FieldOn}
use Rattle.theory_rings.specs.Sum.{sum}
use Rattle.theory_rings.proofs.Sums.Sums.{sum_congr, mul-sum, sum-mul}
use Rattle.theory_spaces.specs.Module.{ModuleOn, AlgebraOn, module_of}
use Rattle.theory_spaces.specs.Linear.{InSpan, Basis, IsLinear}
use Rattle.theory_spaces.proofs.Linear.Modules.{right_linear, linear_comp, map-comb}
use Rattle.theory_spaces.specs.Functions.{maps}
use Rattle.theory_blocks.specs.TwoSidedRank.{BasisOverCentre, two_sided}
use Rattle.theory_blocks.proofs.Families.Pairs.{span_images}
use Rattle.theory_blocks.proofs.Families.Spans.{sum-at}

module _ {K V : Type 0} (F : FieldOn K) (A : AlgebraOn F.ring V) (m : ℕ) (B : Basis (module_of A) m) where
  infixl 70 ◌⊗◌
  infixl 70 ◌•◌
  open A use {ring, monoid, ◌⊗◌, ◌•◌}

  abbrev M : ModuleOn F.ring V
  M = module_of A

  abbrev N : ModuleOn F.ring (V → V)
  N = maps V M

  -- the map y → f y·w
  abbrev pub times : (V → V) → V → V → V
  times f w y = f y ⊗ w

  pub times_linear : (f : V → V) → IsLinear M N (times f)
  times_linear f = record {
    map-add = λ w x. fun_ext (λ y. A.mul-add (f y) w x);
    map-scale = λ a w. fun_ext (λ y. A.scale-right a (f y) w);
  }

  -- the map y → f k y·b j has the number k·m + j
  abbrev pub family : (ℕ → V → V) → ℕ → V → V
  family f t = times (f (t / m)) (B.vec (t % m))

  -- these span the maps y → f 0 y·w 0 + .. + f (n − 1) y·w (n − 1)
  family_span : (n : ℕ) (f : ℕ → V → V) (h : V → V) (w : ℕ → V) → ((y : V) → h y ≡ sum monoid n (λ k. f k y ⊗ w k))
      → InSpan N (n * m) (family f) h
  family_span n f h w e =
      let P : (V → V) → Type 0 = InSpan N (n * m) (family f) in
      subst P (fun_ext (λ y. sum-at M n (λ k. times (f k) (w k)) y ∙ sym (e y)))
      (span_images M N n m (λ k. times (f k)) (λ k. times_linear (f k)) B.vec w
      (λ k _. record { weights = B.coord (w k); combines = B.expand (w k) }))

  -- the map y → a k·y
  abbrev pub left_by : (ℕ → V) → ℕ → V → V
  left_by a k y = a k ⊗ y

  -- the map y → x·y·w
  abbrev pub sandwich : V → V → V → V
  sandwich x w y = (x ⊗ y) ⊗ w

  sandwich_linear : (y w : V) → IsLinear M M (λ x. sandwich x w y)
  sandwich_linear y w = linear_comp M M M (λ x. x ⊗ w) (λ x. x ⊗ y) (right_linear A w) (right_linear A y)

  -- by x = Σ x i·b i it is y → Σ b i·y·(x i·w)
  pub sandwich_in : (x w : V) → InSpan N (m * m) (two_sided F A m B) (sandwich x w)
  sandwich_in x w = family_span m (left_by B.vec) (sandwich x w) (λ i. B.coord x i • w) (λ y.
      ap (λ t. sandwich t w y) (B.expand x)
      ∙ map-comb M M (λ x. sandwich x w y) (sandwich_linear y w) m (B.coord x) B.vec
      ∙ sum_congr monoid m (λ i. B.coord x i • ((B.vec i ⊗ y) ⊗ w)) (λ i. (B.vec i ⊗ y) ⊗ (B.coord x i • w))
      (λ i _. sym (A.scale-right (B.coord x i) (B.vec i ⊗ y) w)))

  module _ (d : ℕ) (D : BasisOverCentre A d) where
    abbrev a : ℕ → V
    a = D.vec

    -- by x = Σ c k·a k with c k in the centre it is y → Σ a k·y·(c k·w)
    pub sandwich_over_centre : (x w : V) → InSpan N (d * m) (family (left_by a)) (sandwich x w)
    sandwich_over_centre x w =
        let s = D.spans x in
        let c = s.weights in
        family_span d (left_by a) (sandwich x w) (λ k. c k ⊗ w) (λ y.
        ap (λ t. sandwich t w y) s.combines ∙ ap (λ t. t ⊗ w) (sum-mul ring d y (λ k. c k ⊗ a k))
        ∙ sum-mul ring d w (λ k. c k ⊗ a k ⊗ y)
        ∙ sum_congr monoid d (λ k. c k ⊗ a k ⊗ y ⊗ w) (λ k. (a k ⊗ y) ⊗ (c k ⊗ w))
        (λ k l. ap (λ t. t ⊗ w) (A.mul_assoc (c k) (a k) y ∙ s.central k l (a k ⊗ y)) ∙ A.mul_assoc (a k ⊗ y) (c k) w))

    -- y = Σ (coefficient k y)·a k
    abbrev pub coefficient : ℕ → V → V
    coefficient k y = (D.spans y).weights k

    -- by y = Σ c k·a k with c k in the centre it is y → Σ c k·(x·a k·w)
    pub sandwich_by_coefficients : (x w : V) → InSpan N (d * m) (family coefficient) (sandwich x w)
    sandwich_by_coefficients x w = family_span d coefficient (sandwich x w) (λ k. (x ⊗ a k) ⊗ w) (λ y.
        let s = D.spans y in
        let c = s.weights in
        ap (λ t. sandwich x w t) s.combines ∙ ap (λ t. t ⊗ w) (mul-sum ring d x (λ k. c k ⊗ a k))
        ∙ sum-mul ring d w (λ k. x ⊗ (c k ⊗ a k))
        ∙ sum_congr monoid d (λ k. x ⊗ (c k ⊗ a k) ⊗ w) (λ k. c k ⊗ (x ⊗ a k ⊗ w))
        (λ k l. ap (λ t. t ⊗ w)
        (sym (A.mul_assoc x (c k) (a k)) ∙ ap (λ t. t ⊗ a k) (sym (s.central k l x)) ∙ A.mul_assoc (c k) x (a k))
        ∙ A.mul_assoc (c k) (x ⊗ a k) w))
