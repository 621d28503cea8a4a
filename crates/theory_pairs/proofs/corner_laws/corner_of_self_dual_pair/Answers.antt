use Rattle.theory_pairs.proofs.CornerDuals.{corner_pair}
use Rattle.theory_pairs.proofs.corner_laws.corner_of_self_dual_pair.Goals as goal

pub returns-clause-pair : goal.returns-clause-pair
returns-clause-pair g c =
    let a = g.C.PairWithCorner in
    corner_pair a.field a.degree a.algebra a.idempotent a.squared a.corner a.inclusion a.is_corner a.Weight a.Finite
    a.Infinite a.trace a.pair a.in_finite a.in_infinite

pub returns-clause-integral : goal.returns-clause-integral
returns-clause-integral g c = λ t.
    let a = g.C.PairWithCorner in
    record {
      finite_trace = λ x h. t.finite_trace (a.inclusion x) h;
      infinite_trace = λ x h. t.infinite_trace (a.inclusion x) h;
    }
