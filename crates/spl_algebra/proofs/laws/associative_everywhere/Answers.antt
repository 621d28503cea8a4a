use Rattle.theory_spaces.proofs.Tuples.TupleProducts.{product_assoc}
use Rattle.spl_algebra.proofs.laws.associative_everywhere.Goals as goal

pub returns : goal.returns
returns g c =
    λ A over assoc. product_assoc (g.F.Field.ops c.args.f.now)
    (g.met.F.Field.laws c.args.f.now) A.dim A.constants over.of_elements assoc
