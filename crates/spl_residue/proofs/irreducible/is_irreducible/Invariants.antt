use Rattle.theory_remainders.proofs.IrreducibleTest.{AreStepsDone}
use Rattle.spl_field.specs.SmallField.{small_ops, small_laws}
use Rattle.spl_residue.proofs.Numbers.{small_numbers}
use Rattle.spl_residue.proofs.irreducible.is_irreducible.Given as goal

abbrev pub invariant-loop : goal.invariant-loop
invariant-loop l = AreStepsDone (small_ops l.f) (small_laws l.f) (small_numbers l.f) l.a l.counter l.power
