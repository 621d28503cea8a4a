-- An algebra without nilpotent ideals but 0, over a field of q elements, is simple exactly where the solutions of
-- z^q = z in its centre have dimension 1.
use Rattle.std.specs.Prelude.{◌≡◌, ◌↔◌, ◌≤◌, ◌^◌, ℕ, List, length}
use Rattle.std.proofs.Common.{sym, ◌∙◌, ap, arith}
use Rattle.theory_rings.specs.Ops.{Ops, FieldLaws}
use Rattle.theory_rings.specs.Elements.{Elem}
use Rattle.theory_rings.specs.Prime.{IsPrime}
use Rattle.theory_rings.specs.Power.{times}
use Rattle.theory_rings.specs.Enumerated.{Enumerated}
use Rattle.theory_rings.proofs.Rings.RingLaws.{zero-mul}
use Rattle.theory_spaces.specs.Linear.{Basis}
use Rattle.theory_spaces.specs.Module.{module_of}
use Rattle.theory_spaces.proofs.Linear.IndependentVectors.{Independent-ne-zero}
use Rattle.theory_tables.specs.Subspace.{IsReducedBasis, SpansKernel}
use Rattle.theory_tables.specs.Structure.{Structure}
use Rattle.theory_blocks.specs.MaximalIdeals.{MaximalIdealsBySolutions}
use Rattle.theory_blocks.proofs.Ideals.MaximalIdealsFinite.{maximal_ideals_are_finitely_many}
use Rattle.spl_algebra.specs.Subspaces.{SpansCentre}
use Rattle.spl_blocks.specs.Blocks.{IsUnital, HasNoNilpotentIdeal, IsSimple}
use Rattle.spl_blocks.specs.Fixed.{power_equations}
use Rattle.spl_blocks.proofs.Tables.{K, A, A_basis, no_nilpotent, simple_up, simple_down}
use Rattle.spl_blocks.proofs.FixedWeights.{size_unique}

module _ {E : Type 0} (o : Ops E) (L : FieldLaws o) (T : Structure E) (u : IsUnital o T) (positive : 1 ≤ T.dim) where
  -- 1 is not 0
  pub one-ne-zero : (let B = A o L T u in B.one) ≡ (let B = A o L T u in B.zero) → ⊥
  one-ne-zero h =
      let B = A o L T u in
      let F = K o L T u in
      let base : Basis (module_of B) T.dim = A_basis o L T u in
      Independent-ne-zero (module_of B) F.one-nonzero T.dim base.vec base.independent 0 positive
      (sym (B.one-mul (base.vec 0)) ∙ ap (λ y. B.◌⊗◌ y (base.vec 0)) h ∙ zero-mul B.ring (base.vec 0))

  module _ (N : Enumerated (Elem o)) (p e : ℕ) (prime : IsPrime p)
      (char : times (K o L T u).monoid p (K o L T u).one ≡ (K o L T u).zero) (size : N.size ≡ p ^ e)
      (none : HasNoNilpotentIdeal o T) where
    -- the field factors of the centre, with the maximal ideals
    pub factors : MaximalIdealsBySolutions (K o L T u) N (A o L T u)
    factors = maximal_ideals_are_finitely_many (K o L T u) N (A o L T u) T.dim (A_basis o L T u) p e prime char size
        (no_nilpotent o L T u none)

    pub simple_iff : (centre : List (List E)) → IsReducedBasis o T.dim centre → SpansCentre o T centre
        → (weights : List (List E)) → IsReducedBasis o (length centre) weights
        → SpansKernel o T.dim (length centre) (power_equations o T N.size centre) weights
        → (length weights ≡ 1) ↔ IsSimple o T
    simple_iff centre basis members weights wbasis wmembers =
        let d = factors in
        let n = d.factors.count in
        let q : length weights ≡ n = size_unique o L T u N p e prime char size centre basis.shape members weights
        wbasis.shape wmembers basis wbasis n d.dimension in
        let s = d.ideals.simple in (
          λ h. let g = s.1 (omega (arith, h, q)) in simple_up o L T u g.0,
          λ h. let g = s.0 (simple_down o L T u h, one-ne-zero) in omega (arith, g, q),
        )
