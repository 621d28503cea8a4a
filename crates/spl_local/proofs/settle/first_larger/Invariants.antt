use Rattle.std.proofs.Common.{◌<◌, ℕ, List, get_or}
use Rattle.theory_tables.specs.Subspace.{Rows}
use Rattle.spl_fraction.specs.Fractions.{field_of}
use Rattle.spl_local.specs.Growth.{DoesNotGrowBy}
use Rattle.spl_local.proofs.settle.first_larger.Given as goal

abbrev pub invariant-loop-i : goal.invariant-loop-i
invariant-loop-i l = (j : ℕ) (d : Rows (List ℕ)) → j < l.i
    → DoesNotGrowBy (field_of l.f) l.a l.place l.order (let s = get_or l.ideals j d in s.rows)
