use Rattle.spl_matrix.proofs.ReducedBases.{reduced_basis_is_independent}
use Rattle.spl_matrix.proofs.laws.reduced_basis_is_independent.Goals as goal

pub returns : goal.returns
returns g c = reduced_basis_is_independent (g.F.Field.ops c.args.f.now) (g.met.F.Field.laws c.args.f.now)
