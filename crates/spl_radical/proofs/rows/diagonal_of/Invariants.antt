use Rattle.std.specs.Prelude.{◌≡◌, ◌+◌, ◌*◌, ◌%◌, [], length, get_or}
use Rattle.theory_rings.specs.Sum.{sum, table}
use Rattle.theory_rings.specs.Naturals.{nat_monoid}
use Rattle.spl_radical.proofs.rows.diagonal_of.Given as goal

abbrev pub invariant-loop-t : goal.invariant-loop-t
invariant-loop-t l = l.out ≡ table l.t
    (λ t. sum nat_monoid (length l.rows) (λ i. get_or (get_or l.rows i []) (i * l.w + t) 0) % l.q)
