use Rattle.theory_radical.proofs.Lifts.LiftRings.{isomorphic_lift_rings}
use Rattle.theory_radical.proofs.lift_laws.isomorphic_lift_rings.Goals as goal

pub returns : goal.returns
returns g c = isomorphic_lift_rings g.S.CommutativeRing.ring g.R.CommutativeRing.ring g.T.CommutativeRing.ring
    g.U.CommutativeRing.ring
