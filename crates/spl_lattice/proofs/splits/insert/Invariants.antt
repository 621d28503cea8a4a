use Rattle.std.proofs.Common.{[], ◌∷◌, ◌++◌, ◌+◌, length}
use Rattle.spl_field.specs.SmallField.{small_ops}
use Rattle.theory_rows.proofs.Lowering.{height}
use Rattle.spl_lattice.proofs.RowReduction.{IsInserting, total}
use Rattle.spl_lattice.proofs.splits.insert.Given as goal

abbrev pub invariant-steps : goal.invariant-steps
invariant-steps l = IsInserting (small_ops l.f) l.w (length l.fn.row)
    ((l.fn.split.basis.items ++ l.fn.split.zeros.items) ++ l.fn.row ∷ [])
    l.split.basis.items l.split.places.items l.split.zeros.items l.rest

abbrev pub decreases-steps : goal.decreases-steps
decreases-steps l = total l.w l.split.basis.items + height l.w l.rest
