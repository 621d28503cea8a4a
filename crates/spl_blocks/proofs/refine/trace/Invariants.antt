use Rattle.std.proofs.Common.{◌≡◌, ◌^◌}
use Rattle.theory_tables.specs.Structure.{IsElement}
use Rattle.spl_blocks.specs.Fixed.{power_in}
use Rattle.spl_blocks.specs.Splits.{trace_in}
use Rattle.spl_blocks.proofs.refine.trace.Given as goal

abbrev pub invariant-loop-j : goal.invariant-loop-j
invariant-loop-j g l = let o = g.F.Field.ops l.f in record {
  term_in : IsElement o l.a l.term;
  term : l.term ≡ power_in o l.a l.z (l.q ^ l._j);
  total_in : IsElement o l.a l.total;
  total : l.total ≡ trace_in o l.a l.q l._j l.z;
}
