use Rattle.std.proofs.Common.{[]}
use Rattle.spl_matrix.specs.Elimination.{cleared_row}
use Rattle.spl_matrix.proofs.Changes.{ChangedBelow}
use Rattle.spl_matrix.proofs.elimination.clear_column.Given as goal

abbrev pub invariant-loop-i : goal.invariant-loop-i
invariant-loop-i g l = let o = g.F.Field.ops l.f in
    ChangedBelow [] l.i l.initial.rows l.rows (cleared_row o l.n l.initial.rows l.r l.col l.lead)
