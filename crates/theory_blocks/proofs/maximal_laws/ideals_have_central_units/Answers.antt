use Rattle.theory_blocks.proofs.Ideals.CentralIdempotents.{central_units}
use Rattle.theory_blocks.proofs.maximal_laws.ideals_have_central_units.Goals as goal

pub returns : goal.returns
returns g c = let a = g.A.BasedAlgebra in central_units a.field a.algebra a.dimension a.basis
