use Rattle.theory_spaces.proofs.Linear.LatticeSpans.{integral_subring}
use Rattle.theory_pairs.proofs.dual_laws.valuation_weights.Goals as goal

pub returns : goal.returns
returns g c = let a = g.A.PlacedAlgebra in integral_subring a.field a.valuation
