use Rattle.spl_field.specs.SmallField.{small_ops}
use Rattle.theory_spaces.specs.Tuples.{IsTuple}
use Rattle.spl_bench.proofs.matrices.vector.Given as goal

abbrev pub invariant-loop : goal.invariant-loop
invariant-loop l = IsTuple (small_ops l.f) l.counter l.items
