use Rattle.std.proofs.Common.{◌≡◌, length}
use Rattle.spl_field.specs.SmallField.{small_ops}
use Rattle.theory_rows.specs.Rows.{IsPolynomialMatrix}
use Rattle.spl_centre.proofs.equations.equations.Given as goal

abbrev pub invariant-loop-j : goal.invariant-loop-j
invariant-loop-j l = record { shape : IsPolynomialMatrix (small_ops l.f) l.m l.rows; count : length l.rows ≡ l.j }
