-- The dual of the lattice of a basis at a place by the trace form, and where it is the lattice.
use Rattle.std.specs.Prelude.{ℕ, ◌↔◌}
use Rattle.theory_rings.specs.Ring.{FieldOn}
use Rattle.theory_spaces.specs.Module.{ModuleOn, AlgebraOn, module_of}
use Rattle.theory_spaces.specs.Linear.{Basis}
use Rattle.theory_spaces.specs.Matrix.{Matrix}
use Rattle.theory_spaces.specs.Form.{IsBilinear, DualBasis, gram, trace_form}
use Rattle.theory_spaces.specs.Valuation.{ValuationOn}
use Rattle.theory_spaces.proofs.Forms.TraceForms.{trace_form_bilinear}
use Rattle.theory_orders.specs.Uniformizer.{IsIntegral}
use Rattle.theory_orders.specs.Orders.{Same}
use Rattle.theory_orders.specs.Lattices.{Lattice}
use Rattle.theory_orders.specs.Dual.{Dual, IsSelfDual}
use Rattle.theory_spaces.specs.Lattice.{IsSubring}
use Rattle.theory_pairs.specs.OwnDual.{EntriesIn, InvertsGram}
use Rattle.theory_pairs.proofs.DualSpans.{dual_span, entries_of_own_dual, own_dual_of_entries}
use Rattle.theory_spaces.proofs.Linear.LatticeSpans.{integral_subring}

module _ {K V : Type 0} (F : FieldOn K) (Z : ValuationOn F) (A : AlgebraOn F.ring V) (n : ℕ)
    (B v : Basis (module_of A) n) where
  abbrev M : ModuleOn F.ring V
  M = module_of A

  abbrev f : V → V → K
  f = trace_form A n B

  bilinear : IsBilinear M f
  bilinear = trace_form_bilinear F.cring A n B

  abbrev Q : K → Type 0
  Q = IsIntegral F Z

  abbrev subring : IsSubring F.ring Q
  subring = integral_subring F Z

  pub dual_at : (D : DualBasis M f n v) → Same (Dual F Z A n B (Lattice F Z A n v.vec)) (Lattice F Z A n D.basis.vec)
  dual_at = dual_span F M f bilinear n v Q subring

  pub self_dual_iff : (N : Matrix K) → InvertsGram M f n v.vec N
      → IsSelfDual F Z A n B (Lattice F Z A n v.vec) ↔ (EntriesIn Q n (gram M f v.vec) × EntriesIn Q n N)
  self_dual_iff N inverts = (
    entries_of_own_dual F M f bilinear n v Q subring N inverts,
    λ g. own_dual_of_entries F M f bilinear n v Q subring N inverts g.0 g.1,
  )
