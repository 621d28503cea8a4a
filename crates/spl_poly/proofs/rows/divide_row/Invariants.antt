use Rattle.std.proofs.Common.{◌≡◌, ◌+◌, ◌-◌, ◌<◌, ◌≤◌, ℕ, get_or, length}
use Rattle.theory_rings.specs.Sum.{at}
use Rattle.theory_rings.specs.Polynomial.{convolution_of}
use Rattle.spl_field.specs.SmallField.{small_ops}
use Rattle.spl_poly.specs.Operations.{IsOver}
use Rattle.spl_poly.proofs.rows.divide_row.Given as goal

abbrev pub invariant-loop-s : goal.invariant-loop-s
invariant-loop-s l = record {
  q_over : IsOver (small_ops l.f) l.q;
  r_over : IsOver (small_ops l.f) l.r;
  q_low : (k : ℕ) → k < l.s → get_or l.q k 0 ≡ 0;
  r_high : (k : ℕ) → l.s + (length l.by - 1) ≤ k → get_or l.r k 0 ≡ 0;
  whole : (k : ℕ) → (small_ops l.f).add
      (convolution_of (small_ops l.f) (at (small_ops l.f) l.q) (at (small_ops l.f) l.by) k)
      (at (small_ops l.f) l.r k) ≡ at (small_ops l.f) l.initial.r k;
}
