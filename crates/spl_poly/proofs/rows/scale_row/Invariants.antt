use Rattle.std.proofs.Common.{◌≡◌, ◌<◌, ◌≤◌, ℕ, get_or}
use Rattle.spl_field.specs.SmallField.{small_ops}
use Rattle.spl_poly.specs.Operations.{IsOver}
use Rattle.spl_poly.proofs.rows.scale_row.Given as goal

abbrev pub invariant-loop-k : goal.invariant-loop-k
invariant-loop-k l = record {
  over : IsOver (small_ops l.f) l.r;
  done : (k : ℕ) → k < l.k → get_or l.r k 0 ≡ (small_ops l.f).mul l.c (get_or l.initial.r k 0);
  left : (k : ℕ) → l.k ≤ k → get_or l.r k 0 ≡ get_or l.initial.r k 0;
}
