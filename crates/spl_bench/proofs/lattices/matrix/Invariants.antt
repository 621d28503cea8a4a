use Rattle.spl_field.specs.SmallField.{small_ops}
use Rattle.theory_rows.specs.Rows.{IsPolynomialMatrix}
use Rattle.spl_bench.proofs.lattices.matrix.Given as goal

abbrev pub invariant-loop : goal.invariant-loop
invariant-loop l = IsPolynomialMatrix (small_ops l.f) l.width l.rows
