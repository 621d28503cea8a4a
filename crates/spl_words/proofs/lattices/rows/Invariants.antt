use Rattle.spl_field.specs.SmallField.{small_ops}
use Rattle.theory_rows.specs.Rows.{IsPolynomialMatrix}
use Rattle.spl_words.proofs.lattices.rows.Given as goal

abbrev pub invariant-loop-part : goal.invariant-loop-part
invariant-loop-part l = IsPolynomialMatrix (small_ops l.f) l.width l.rows
