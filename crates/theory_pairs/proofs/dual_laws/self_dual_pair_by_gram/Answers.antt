use Rattle.theory_pairs.proofs.PairsByGram.{pair_by_gram, trace_by_gram}
use Rattle.theory_pairs.proofs.dual_laws.self_dual_pair_by_gram.Goals as goal

pub returns-clause-pair : goal.returns-clause-pair
returns-clause-pair g c =
    let t = g.T.TwoBases in
    pair_by_gram t.field t.algebra t.trace t.is_trace t.dimension t.degree t.Weight t.subring t.finite t.infinite

pub returns-clause-integral : goal.returns-clause-integral
returns-clause-integral g c =
    let t = g.T.TwoBases in
    trace_by_gram t.field t.algebra t.trace t.is_trace t.dimension t.degree t.Weight t.subring t.finite t.infinite
