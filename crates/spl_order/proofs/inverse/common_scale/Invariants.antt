use Rattle.std.proofs.Common.{◌≢◌, ◌<◌, ℕ, []}
use Rattle.spl_field.specs.SmallField.{small_ops}
use Rattle.theory_fractions.specs.PolynomialLists.{IsPolynomialList}
use Rattle.theory_rows.specs.Rows.{InRowLattice}
use Rattle.spl_order.specs.Values.{scaled_unit}
use Rattle.spl_order.proofs.inverse.common_scale.Given as goal

abbrev pub invariant-loop-i : goal.invariant-loop-i
invariant-loop-i l = record {
  polynomial : IsPolynomialList (small_ops l.f) l.scale;
  nonzero : l.scale ≢ [];
  members : (j : ℕ) → j < l.i → InRowLattice (small_ops l.f) l.basis (scaled_unit l.scale l.n j);
}
