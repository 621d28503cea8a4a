use Rattle.std.proofs.Common.{◌≡◌, ◌-◌, suc}
use Rattle.theory_rings.specs.Sum.{at, table}
use Rattle.spl_field.specs.SmallField.{small_ops}
use Rattle.spl_fraction.proofs.swap.reversed_list.Given as goal

abbrev pub invariant-loop-k : goal.invariant-loop-k
invariant-loop-k l = l.items.items ≡ table l.k (λ k. at (small_ops l.f) l.a (l.n - suc k))
