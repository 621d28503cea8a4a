use Rattle.std.specs.List.{All}
use Rattle.theory_rings.specs.Ops.{IsElem}
use Rattle.theory_rings.specs.Sum.{at}
use Rattle.spl_matrix.proofs.Changes.{ChangedBelow}
use Rattle.spl_matrix.proofs.rows.add_multiple.Given as goal

abbrev pub invariant-loop-j : goal.invariant-loop-j
invariant-loop-j g l = let o = g.F.Field.ops l.f in record {
  elems : All (IsElem o) l.row;
  changed : ChangedBelow o.zero l.j l.initial.row l.row
      (λ j. o.add (at o l.initial.row j) (o.mul l.c (at o l.other j)));
}
