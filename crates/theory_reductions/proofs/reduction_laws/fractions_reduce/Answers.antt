use Rattle.theory_reductions.proofs.Reductions.{fractions_reduce}
use Rattle.theory_reductions.proofs.reduction_laws.fractions_reduce.Goals as goal

pub returns : goal.returns
returns g c = let f = g.F.ProgramField in fractions_reduce f.ops f.laws
