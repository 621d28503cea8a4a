use Rattle.theory_tables.specs.Matrix.{IsMatrix}
use Rattle.spl_words.proofs.lists.rows.Given as goal

abbrev pub invariant-loop-part : goal.invariant-loop-part
invariant-loop-part g l = IsMatrix (g.F.Field.ops l.f) l.width l.rows
