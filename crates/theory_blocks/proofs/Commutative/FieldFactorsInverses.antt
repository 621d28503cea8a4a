-- Inverses in a commutative subalgebra of finite dimension in which 0 alone is nilpotent. There x·x·y is 0 only where
-- x·y is, as the square of x·y is a multiple of it: so the multiples of x and those of x·x have one dimension, and x =
-- x·x·g for some g. Then x·g is an idempotent. Where it is a scalar on an idempotent e that keeps x, x has an inverse
-- there.
use Rattle.std.specs.Prelude.{◌≡◌, ℕ, zero, suc, ◌<◌}
use Rattle.std.proofs.Common.{sym, ◌∙◌, ap, subst, arith, ⊎_elim}
use Rattle.theory_rings.specs.Ring.{RingOn, FieldOn}
use Rattle.theory_rings.specs.Power.{power}
use Rattle.theory_rings.specs.Enumerated.{Enumerated}
use Rattle.theory_rings.proofs.Rings.RingLaws.{mul-zero}
use Rattle.theory_rings.proofs.Rings.ZeroTests.{eq_zero_or}
use Rattle.theory_spaces.specs.Module.{ModuleOn, AlgebraOn, module_of}
use Rattle.theory_spaces.specs.Linear.{Coords, BasisOf, IsLinear}
use Rattle.theory_spaces.specs.Subspaces.{Kernel, Image}
use Rattle.theory_spaces.proofs.Linear.Modules.{zero-scale, span_in, left_linear, linear_comp}
use Rattle.theory_spaces.proofs.Linear.Spaces.{BasisOf-size}
use Rattle.theory_spaces.proofs.Linear.Subspaces.{BasisOf-iff}
use Rattle.theory_spaces.proofs.Linear.Kernels.{rank_nullity}
use Rattle.theory_radical.proofs.Nilpotent.Cores.{power-idempotent}
use Rattle.theory_blocks.specs.FixedPoints.{IsFixed, IsSubalgebra}
use Rattle.theory_blocks.specs.FieldFactors.{IsCommutativeIn, IsReducedIn}
use Rattle.theory_blocks.proofs.Commutative.FixedPoints.{size_pos}
use Rattle.theory_blocks.proofs.Families.Spans.{image_submodule, span_of_independent}

-- the powers of an idempotent, but the first, are itself
power_idempotent : {V : Type 0} (R : RingOn V) (u : V) → R.◌⊗◌ u u ≡ u → (n : ℕ) → 0 < n → power R u n ≡ u
power_idempotent R u e zero l = absurd (omega arith)
power_idempotent R u e (suc n) l = power-idempotent R u e n

module _ {K V : Type 0} (F : FieldOn K) (A : AlgebraOn F.ring V) (S : V → Type 0) (h : IsSubalgebra A S)
    (comm : IsCommutativeIn F A S) where
  infixl 70 ◌⊗◌
  infixl 70 ◌•◌
  open A use {ring, one, ◌⊗◌, ◌•◌}

  abbrev M : ModuleOn F.ring V
  M = module_of A

  module _ (m : ℕ) (C : Coords M m) (reduced : IsReducedIn F A S) (k : ℕ) (B : BasisOf M k S) (x : V) (s : S x) where
    abbrev once : V → V
    once y = x ⊗ y

    abbrev twice : V → V
    twice y = x ⊗ (x ⊗ y)

    twice_linear : IsLinear M M twice
    twice_linear = linear_comp M M M once once (left_linear A x) (left_linear A x)

    once_of_twice : (y : V) → S y → twice y ≡ A.zero → once y ≡ A.zero
    once_of_twice y t e =
        let z = x ⊗ y in
        let square : z ⊗ z ≡ A.zero = ap (λ w. w ⊗ z) (comm x y s t) ∙ A.mul_assoc y x z ∙ ap (λ w. y ⊗ w) e
        ∙ mul-zero ring y in
        reduced z (h.mul-in x y s t) (record { exponent = 2; vanishes = ap (λ w. z ⊗ w) (A.mul-one z) ∙ square })

    pub regular : (g : V) × S g × (x ⊗ (x ⊗ g) ≡ x)
    regular =
        let p = rank_nullity F M M m C once (left_linear A x) S h.subspace k B in
        let r = rank_nullity F M M m C twice twice_linear S h.subspace k B in
        let kernel : BasisOf M r.nullity (Kernel M M once S) =
        BasisOf-iff M r.nullity (Kernel M M twice S) (Kernel M M once S)
        (λ y t. (t.0, once_of_twice y t.0 t.1)) (λ y t. (t.0, ap (λ w. x ⊗ w) t.1 ∙ mul-zero ring x)) r.kernel in
        let same : p.nullity ≡ r.nullity = BasisOf-size F M p.nullity r.nullity (Kernel M M once S) p.kernel kernel in
        let rank : p.rank ≡ r.rank = omega (arith, p.total, r.total) in
        let image : BasisOf M r.rank (Image M M once S) = subst (λ t. BasisOf M t (Image M M once S)) rank p.image in
        let v = r.image.vec in
        span_in M (Image M M twice S) (image_submodule M M twice twice_linear S h.subspace) r.rank v r.image.inside x
        (span_of_independent F M r.rank r.rank v image.vec r.image.independent
        (λ i l. let t = r.image.inside i l in image.spans (v i) (x ⊗ t.0, h.mul-in x t.0 s t.1, t.2)) (omega arith)
        x (image.spans x (one, h.one-in, A.mul-one x)))

  regular_idempotent : (x g : V) → x ⊗ g ≡ g ⊗ x → x ⊗ (x ⊗ g) ≡ x → (x ⊗ g) ⊗ (x ⊗ g) ≡ x ⊗ g
  regular_idempotent x g c r = ap (λ w. w ⊗ (x ⊗ g)) c ∙ A.mul_assoc g x (x ⊗ g) ∙ ap (λ w. g ⊗ w) r ∙ sym c

  -- where x divides a multiple of the idempotent e by a scalar but 0, x has an inverse on e
  inverse_of_multiple : (e x g : V) (c : K) → S e → S g → e ⊗ e ≡ e → x ⊗ e ≡ x → x ⊗ g ≡ c • e → (c ≡ F.zero → ⊥)
      → (y : V) × S y × (e ⊗ y ≡ y) × (x ⊗ y ≡ e)
  inverse_of_multiple e x g c se sg idem keeps m n =
      let b = F.inv c in
      let y = e ⊗ g in (
        b • y,
        h.subspace.scale-in b y (h.mul-in e g se sg),
        A.scale-right b e y ∙ ap (λ w. b • w) (sym (A.mul_assoc e e g) ∙ ap (λ w. w ⊗ g) idem),
        A.scale-right b x y ∙ ap (λ w. b • w) (sym (A.mul_assoc x e g) ∙ ap (λ w. w ⊗ g) keeps ∙ m)
            ∙ sym (A.mul-scale b c e) ∙ ap (λ a. a • e) (F.inv-mul c n) ∙ A.one-scale e,
      )

  -- on an idempotent e where each solution of z^q = z is a scalar, an x = x·x·g other than 0 has an inverse
  pub inverse_on : (E : Enumerated K) (e : V) → S e → e ⊗ e ≡ e
      → ((z : V) → S z → IsFixed ring E.size z → (c : K) × (z ⊗ e ≡ c • e))
      → (x g : V) → S x → S g → x ⊗ (x ⊗ g) ≡ x → e ⊗ x ≡ x → (x ≡ A.zero → ⊥) → (y : V) × S y × (e ⊗ y ≡ y)
      × (x ⊗ y ≡ e)
  inverse_on E e se idem scalar x g sx sg r keeps d =
      let su = h.mul-in x g sx sg in
      let u = x ⊗ g in
      let t = scalar u su (power_idempotent ring u (regular_idempotent x g (comm x g sx sg) r) E.size
      (size_pos F E A)) in
      let c = t.0 in
      let m : x ⊗ g ≡ c • e = sym (comm u e su se ∙ sym (A.mul_assoc e x g) ∙ ap (λ w. w ⊗ g) keeps) ∙ t.1 in
      ⊎_elim
      (λ (z : c ≡ F.zero). absurd
      (d (sym r ∙ ap (λ w. x ⊗ w) (m ∙ ap (λ a. a • e) z ∙ zero-scale M e) ∙ mul-zero ring x)))
      (inverse_of_multiple e x g c se sg idem (comm x e sx se ∙ keeps) m)
      (eq_zero_or F.zero_test c)
