use Rattle.std.proofs.Common.{refl}
use Rattle.theory_spaces.specs.Module.{module_of}
use Rattle.theory_division.proofs.Members.{count_of_span, numbered}
use Rattle.theory_division.proofs.division_laws.members_of_a_space.Goals as goal

pub returns-clause-whole : goal.returns-clause-whole
returns-clause-whole g c = λ E. let a = g.A.BasedAlgebra in
    (numbered a.field (module_of a.algebra) E a.dimension a.basis, refl)

pub returns-clause-span : goal.returns-clause-span
returns-clause-span g c = λ E. let a = g.A.BasedAlgebra in count_of_span a.field (module_of a.algebra) E
