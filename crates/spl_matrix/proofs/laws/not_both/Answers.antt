use Rattle.theory_tables.proofs.Rows.Refutations.{not_both}
use Rattle.spl_matrix.proofs.laws.not_both.Goals as goal

pub returns : goal.returns
returns g c = not_both (g.F.Field.ops c.args.f.now) (g.met.F.Field.laws c.args.f.now)
