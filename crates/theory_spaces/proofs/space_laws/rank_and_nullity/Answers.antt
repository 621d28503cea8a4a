use Rattle.theory_spaces.proofs.Linear.Kernels.{rank_nullity}
use Rattle.theory_spaces.proofs.space_laws.rank_and_nullity.Goals as goal

pub returns : goal.returns
returns g c = let l = g.L.LinearMap in
    rank_nullity l.field l.source l.target l.size l.coords l.map l.linear l.Inside l.submodule
