use Rattle.theory_spaces.specs.Module.{module_of}
use Rattle.theory_spaces.proofs.Linear.Spaces.{coords_of}
use Rattle.theory_radical.proofs.Nilpotent.Fitting.{fitting}
use Rattle.theory_radical.proofs.nilpotent_laws.fitting_idempotents.Goals as goal

pub returns : goal.returns
returns g c = let a = g.A.BasedAlgebra in
    fitting a.field a.algebra a.dimension (coords_of (module_of a.algebra) a.dimension a.basis)
