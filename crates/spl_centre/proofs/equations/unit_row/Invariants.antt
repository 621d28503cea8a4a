use Rattle.spl_field.specs.SmallField.{small_ops}
use Rattle.theory_rows.specs.Rows.{IsPolynomialRow}
use Rattle.spl_centre.proofs.equations.unit_row.Given as goal

abbrev pub invariant-loop-k : goal.invariant-loop-k
invariant-loop-k l = IsPolynomialRow (small_ops l.f) l.k l.row
