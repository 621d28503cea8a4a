use Rattle.std.proofs.Common.{◌≡◌, ◌+◌, ◌-◌, ◌<◌, ◌≤◌, ℕ, get_or}
use Rattle.spl_field.specs.SmallField.{small_ops}
use Rattle.spl_poly.specs.Operations.{IsOver}
use Rattle.spl_poly.proofs.rows.add_scaled_row.Given as goal

abbrev pub invariant-loop-j : goal.invariant-loop-j
invariant-loop-j l = record {
  over : IsOver (small_ops l.f) l.r;
  kept : (k : ℕ) → k < l.s → get_or l.r k 0 ≡ get_or l.initial.r k 0;
  done : (k : ℕ) → l.s ≤ k → k < l.s + l.j → get_or l.r k 0
      ≡ (small_ops l.f).add (get_or l.initial.r k 0) ((small_ops l.f).mul l.c (get_or l.by (k - l.s) 0));
  left : (k : ℕ) → l.s + l.j ≤ k → get_or l.r k 0 ≡ get_or l.initial.r k 0;
}
