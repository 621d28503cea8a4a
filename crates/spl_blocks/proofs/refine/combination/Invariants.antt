use Rattle.std.proofs.Common.{◌≡◌}
use Rattle.theory_rings.specs.Sum.{table, sum_of, at}
use Rattle.theory_tables.specs.Matrix.{entry}
use Rattle.theory_tables.specs.Structure.{IsElement}
use Rattle.spl_blocks.proofs.refine.combination.Given as goal

abbrev pub invariant-loop-i : goal.invariant-loop-i
invariant-loop-i g l = let o = g.F.Field.ops l.f in record {
  elem : IsElement o l.a l.sums;
  value : l.sums ≡ table l.a.dim (λ j. sum_of o l.i (λ i. o.mul (at o l.c i) (entry o l.rows i j)));
}
