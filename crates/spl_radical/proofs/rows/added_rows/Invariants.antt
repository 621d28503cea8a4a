use Rattle.std.specs.Prelude.{◌≡◌, ◌+◌, ◌*◌, ◌%◌, ◌<◌, ◌^◌, [], get_or}
use Rattle.theory_rings.specs.Sum.{sum}
use Rattle.theory_rings.specs.Naturals.{nat_monoid}
use Rattle.spl_radical.proofs.rows.added_rows.Given as goal

abbrev pub invariant-loop-v : goal.invariant-loop-v
invariant-loop-v l = record {
  small : l.sum < 2 ^ 100;
  same : l.sum % l.q ≡ (l.first + sum nat_monoid l.v (λ v. get_or l.a v 0 * get_or (get_or l.rows v []) l.u 0)) % l.q;
}
