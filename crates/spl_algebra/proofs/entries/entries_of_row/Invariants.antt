use Rattle.std.proofs.Common.{◌+◌}
use Rattle.theory_rings.specs.Sum.{at}
use Rattle.spl_algebra.specs.Entries.{ListsNonzero}
use Rattle.spl_algebra.proofs.entries.entries_of_row.Given as goal

abbrev pub invariant-loop-k : goal.invariant-loop-k
invariant-loop-k g l = let o = g.F.Field.ops l.f in
    ListsNonzero o.zero l.k (λ k. at o l.constants (l.start + k)) l.list
