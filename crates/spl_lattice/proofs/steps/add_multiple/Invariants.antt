use Rattle.spl_field.specs.SmallField.{small_ops}
use Rattle.spl_lattice.proofs.RowSteps.{RowDoneBelow}
use Rattle.spl_lattice.proofs.steps.add_multiple.Given as goal

abbrev pub invariant-loop-j : goal.invariant-loop-j
invariant-loop-j l = RowDoneBelow (small_ops l.f) l.j l.initial.row l.m l.by l.row
