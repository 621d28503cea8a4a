use Rattle.spl_field.specs.SmallField.{small_ops}
use Rattle.theory_rows.specs.Rows.{IsPolynomialRow}
use Rattle.spl_bench.proofs.lattices.row.Given as goal

abbrev pub invariant-loop-j : goal.invariant-loop-j
invariant-loop-j l = IsPolynomialRow (small_ops l.f) l.j l.row
