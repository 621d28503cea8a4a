use Rattle.theory_pairs.proofs.PairsByGram.{below_subring}
use Rattle.theory_pairs.proofs.dual_laws.degree_weights.Goals as goal

pub returns : goal.returns
returns g c = let s = g.S.DegreeSpace in below_subring s.field s.degree
