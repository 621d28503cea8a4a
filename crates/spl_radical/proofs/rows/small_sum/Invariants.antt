use Rattle.std.specs.Prelude.{◌≡◌, ◌*◌, ◌^◌, ◌≤◌, get_or}
use Rattle.theory_rings.specs.Sum.{sum}
use Rattle.theory_rings.specs.Naturals.{nat_monoid}
use Rattle.spl_radical.proofs.rows.small_sum.Given as goal

abbrev pub invariant-loop-r : goal.invariant-loop-r
invariant-loop-r l = record {
  value : l.sum ≡ sum nat_monoid l.r (λ r. get_or l.a r 0 * get_or l.b r 0);
  small : l.sum ≤ l.r * 2 ^ 40;
}
