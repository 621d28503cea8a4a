use Rattle.std.proofs.Common.{◌≡◌, get_or}
use Rattle.theory_rings.specs.Sum.{table, at}
use Rattle.theory_spaces.specs.Tuples.{IsTuple}
use Rattle.spl_matrix.proofs.basis.gathered.Given as goal

abbrev pub invariant-loop-s : goal.invariant-loop-s
invariant-loop-s g l = let o = g.F.Field.ops l.f in record {
  elem : IsTuple o l.s l.items;
  value : l.items ≡ table l.s (λ s. at o l.v (get_or l.places s 0));
}
