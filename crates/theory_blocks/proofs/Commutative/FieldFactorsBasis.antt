-- The solutions of z^q = z in a commutative subalgebra of finite dimension over a field of q elements have a basis:
-- there z ↦ z^q − z is linear, so that it is known by its values at a basis of the subalgebra, and the solutions are
-- its kernel.
use Rattle.std.specs.Prelude.{◌≡◌, ℕ, zero, suc, ◌<◌, ◌≤◌, ◌^◌, ◌⊎◌}
use Rattle.std.proofs.Common.{sym, ◌∙◌, ap, ap₂, subst, arith, inl, inr}
use mathlib.Core.HLevel.{hedberg}
use Rattle.theory_rings.specs.Ring.{RingOn, FieldOn}
use Rattle.theory_rings.specs.Prime.{IsPrime}
use Rattle.theory_rings.specs.Power.{power, times}
use Rattle.theory_rings.specs.Enumerated.{Enumerated}
use Rattle.theory_rings.proofs.Rings.ZeroTests.{eq_of_sub_eq_zero, sub_eq_zero_of_eq}
use Rattle.theory_rings.proofs.Sums.Sums.{sum_congr, sum-add, sum-neg}
use Rattle.theory_rings.proofs.Powers.Powers.{power-zero}
use Rattle.theory_rings.proofs.FiniteFields.FiniteFields.{power_size}
use Rattle.theory_spaces.specs.Module.{ModuleOn, AlgebraOn, module_of}
use Rattle.theory_spaces.specs.Linear.{comb, Coords, Basis, BasisOf, Extension, IsLinear}
use Rattle.theory_spaces.specs.Subspaces.{Kernel}
use Rattle.theory_spaces.proofs.Linear.Families.{push, push-below}
use Rattle.theory_spaces.proofs.Linear.Modules.{scale-neg, comb_congr, comb_congr_right, comb-add, comb-scale}
use Rattle.theory_spaces.proofs.Linear.Modules.{comb-push_zero, comb_in}
use Rattle.theory_spaces.proofs.Linear.Dimension.{exchange}
use Rattle.theory_spaces.proofs.Linear.Spaces.{coords_of, Basis-coord, extend_basis}
use Rattle.theory_spaces.proofs.Linear.Subspaces.{BasisOf-iff}
use Rattle.theory_spaces.proofs.Linear.Kernels.{rank_nullity}
use Rattle.theory_blocks.specs.FixedPoints.{IsFixed, IsSubalgebra}
use Rattle.theory_blocks.specs.FieldFactors.{IsCommutativeIn}
use Rattle.theory_blocks.proofs.Commutative.FixedPoints.{power-scale, times-one, size_pos}
use Rattle.theory_blocks.proofs.Families.Decisions.{vector_eq_zero_or}
use Rattle.theory_blocks.proofs.Commutative.CommutingPowers.{add-power_of_commute}

-- a space with a basis is a set
pub space_set : {K V : Type 0} (F : FieldOn K) (M : ModuleOn F.ring V) (m : ℕ) → Basis M m → IsSet V
space_set {K} {V} F M m B = hedberg (λ x y. go x y (vector_eq_zero_or F M m B (M.◌⊕◌ x (M.neg y))))
  where
    go : (x y : V) → (M.◌⊕◌ x (M.neg y) ≡ M.zero) ⊎ (M.◌⊕◌ x (M.neg y) ≡ M.zero → ⊥) → Dec (x ≡ y)
    go x y (inl e) = yes (eq_of_sub_eq_zero M.additive x y e)
    go x y (inr n) = no (λ e. n (sub_eq_zero_of_eq M.additive x y e))

-- the combination of differences
comb-sub : {K V : Type 0} {R : RingOn K} (M : ModuleOn R V) (n : ℕ) (c : ℕ → K) (v w : ℕ → V)
    → comb M n c (λ i. M.◌⊕◌ (v i) (M.neg (w i))) ≡ M.◌⊕◌ (comb M n c v) (M.neg (comb M n c w))
comb-sub M n c v w =
    let a = λ (i : ℕ). M.◌•◌ (c i) (v i) in
    let b = λ (i : ℕ). M.◌•◌ (c i) (w i) in
    sum_congr M.monoid n (λ i. M.◌•◌ (c i) (M.◌⊕◌ (v i) (M.neg (w i)))) (λ i. M.◌⊕◌ (a i) (M.neg (b i)))
    (λ i _. M.scale-add (c i) (v i) (M.neg (w i)) ∙ ap (λ y. M.◌⊕◌ (a i) y) (scale-neg M (c i) (w i)))
    ∙ sum-add M.monoid n a (λ i. M.neg (b i)) ∙ ap (λ y. M.◌⊕◌ (comb M n c v) y) (sum-neg M.additive n b)

-- a linear map on a space with a basis that begins with v, by its values w at v; it is 0 at the others
module _ {K V : Type 0} {R : RingOn K} (M : ModuleOn R V) (m k : ℕ) (v w : ℕ → V) (le : k ≤ m)
    (X : Extension M k v m) where
  abbrev by_values : V → V
  by_values x = comb M k (X.basis.coord x) w

  by_values_linear : IsLinear M M by_values
  by_values_linear = record {
    map-add = λ x y. let c = X.basis.coord in
        comb_congr M k (c (M.◌⊕◌ x y)) (λ i. R.◌⊕◌ (c x i) (c y i)) w (λ i _. X.basis.coord-add x y i)
        ∙ comb-add M k (c x) (c y) w;
    map-scale = λ a x. let c = X.basis.coord in
        comb_congr M k (c (M.◌•◌ a x)) (λ i. R.◌⊗◌ a (c x i)) w (λ i _. X.basis.coord-scale a x i)
        ∙ comb-scale M k a (c x) w;
  }

  by_values-comb : (c : ℕ → K) → by_values (comb M k c v) ≡ comb M k c w
  by_values-comb c =
      let B = X.basis in
      let d = push k R.zero c in
      let e : comb M k c v ≡ comb M m d B.vec =
      comb_congr_right M k c v B.vec (λ i l. sym (X.starts i l)) ∙ sym (comb-push_zero M k m c B.vec le) in
      comb_congr M k (B.coord (comb M k c v)) c w
      (λ i l. ap (λ y. B.coord y i) e ∙ Basis-coord M m B d i (omega arith) ∙ push-below k R.zero c i l)

module _ {K V : Type 0} (F : FieldOn K) (E : Enumerated K) (A : AlgebraOn F.ring V) (m : ℕ) (B : Basis (module_of A) m)
    (S : V → Type 0) (h : IsSubalgebra A S) (comm : IsCommutativeIn F A S) where
  infixl 65 ◌⊕◌
  infixl 70 ◌•◌
  open A use {ring, ◌⊕◌, ◌•◌, neg}

  abbrev M : ModuleOn F.ring V
  M = module_of A

  abbrev C : Coords M m
  C = coords_of M m B

  -- the field has q = p^i elements
  module _ (p i : ℕ) (prime : IsPrime p) (char : times F.monoid p F.one ≡ F.zero) (size : E.size ≡ p ^ i) where
    abbrev raised : V → V
    raised x = power ring x E.size

    raised-add : (x y : V) → S x → S y → raised (x ⊕ y) ≡ raised x ⊕ raised y
    raised-add x y s t =
        subst (λ q. power ring (x ⊕ y) q ≡ power ring x q ⊕ power ring y q) (sym size)
        (add-power_of_commute ring (space_set F M m B) x y (comm x y s t) p prime (times-one A p char) i)

    raised-comb : (n : ℕ) (c : ℕ → K) (v : ℕ → V) → ((j : ℕ) → j < n → S (v j))
        → raised (comb M n c v) ≡ comb M n c (λ j. raised (v j))
    raised-comb zero c v g = power-zero ring E.size (size_pos F E A)
    raised-comb (suc n) c v g =
        let below : (j : ℕ) → j < n → S (v j) = λ j l. g j (omega arith) in
        raised-add (comb M n c v) (c n • v n) (comb_in M S h.subspace n c v below)
        (h.subspace.scale-in (c n) (v n) (g n (omega arith)))
        ∙ ap₂ (λ x y. x ⊕ y) (raised-comb n c v below)
        (power-scale A (c n) (v n) E.size ∙ ap (λ a. a • raised (v n)) (power_size F E (c n)))

    pub solution_basis : (k : ℕ) → BasisOf M k S → (r : ℕ) × BasisOf M r (λ z. S z × IsFixed ring E.size z)
    solution_basis k basis =
        let v = basis.vec in
        let w = λ (j : ℕ). raised (v j) ⊕ neg (v j) in
        let le : k ≤ m = exchange F M k m v B.vec basis.independent
        (λ j _. record { weights = B.coord (v j); combines = B.expand (v j) }) in
        let X = extend_basis F M m B k v basis.independent in
        let f = by_values M m k v w le X in
        let value : (z : V) → S z → f z ≡ raised z ⊕ neg z = λ z t.
        let c = basis.spans z t in
        let e = c.combines in
        ap f e ∙ by_values-comb M m k v w le X c.weights ∙ comb-sub M k c.weights (λ j. raised (v j)) v
        ∙ ap₂ (λ x y. x ⊕ neg y) (sym (ap raised e ∙ raised-comb k c.weights v basis.inside)) (sym e) in
        let r = rank_nullity F M M m C f (by_values_linear M m k v w le X) S h.subspace k basis in (
          r.nullity,
          BasisOf-iff M r.nullity (Kernel M M f S) (λ z. S z × IsFixed ring E.size z)
              (λ z t. (t.0, eq_of_sub_eq_zero A.additive (raised z) z (sym (value z t.0) ∙ t.1)))
              (λ z t. (t.0, value z t.0 ∙ sub_eq_zero_of_eq A.additive (raised z) z t.1))
              r.kernel,
        )
