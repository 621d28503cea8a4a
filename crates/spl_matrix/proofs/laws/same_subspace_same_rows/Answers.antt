use Rattle.spl_matrix.proofs.ReducedBases.{same_subspace_same_rows}
use Rattle.spl_matrix.proofs.laws.same_subspace_same_rows.Goals as goal

pub returns : goal.returns
returns g c = same_subspace_same_rows (g.F.Field.ops c.args.f.now) (g.met.F.Field.laws c.args.f.now)
