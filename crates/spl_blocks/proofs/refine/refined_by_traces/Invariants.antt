use Rattle.std.proofs.Common.{◌≡◌, ◌⊎◌, ◌≤◌, length}
use Rattle.theory_rings.specs.Power.{power_of}
use Rattle.theory_spaces.specs.Tuples.{tuple_scale}
use Rattle.theory_tables.specs.Structure.{IsElement}
use Rattle.spl_blocks.specs.Splits.{AreSplit, Refines, AreTracesScalars}
use Rattle.spl_blocks.proofs.refine.refined_by_traces.Given as goal

abbrev pub invariant-loop-i : goal.invariant-loop-i
invariant-loop-i g l = let o = g.F.Field.ops l.f in record {
  elem : IsElement o l.a l.y;
  multiple : l.y ≡ tuple_scale o l.a.dim (power_of o l.x l._i) l.z;
  split : AreSplit o l.a l.list;
  finer : Refines o l.a l.list l.fn.items;
  full : l.n ≤ length l.fn.items → l.n ≤ length l.list;
  done : (l.n ≤ length l.list) ⊎ AreTracesScalars o l.a l.one l.x l.q l.d l.z l._i l.list;
}
