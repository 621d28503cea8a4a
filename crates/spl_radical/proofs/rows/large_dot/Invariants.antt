use Rattle.std.specs.Prelude.{◌≡◌, ◌*◌, ◌%◌, ◌<◌, ◌^◌, get_or}
use Rattle.theory_rings.specs.Sum.{sum}
use Rattle.theory_rings.specs.Naturals.{nat_monoid}
use Rattle.spl_radical.proofs.rows.large_dot.Given as goal

abbrev pub invariant-loop-r : goal.invariant-loop-r
invariant-loop-r l = record {
  small : l.sum < 2 ^ 100;
  same : l.sum % l.q ≡ sum nat_monoid l.r (λ r. get_or l.a r 0 * get_or l.b r 0) % l.q;
}
