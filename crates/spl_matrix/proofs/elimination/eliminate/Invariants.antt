use Rattle.std.proofs.Common.{length}
use Rattle.spl_matrix.specs.Elimination.{IsEliminated}
use Rattle.spl_matrix.proofs.elimination.eliminate.Given as goal

abbrev pub invariant-loop-col : goal.invariant-loop-col
invariant-loop-col g l = let o = g.F.Field.ops l.f in
    IsEliminated o (length l.initial.rows) l.n l.col l.initial.rows l.rows l.pivots
