use Rattle.std.proofs.Common.{◌++◌, ◌+◌, get_or, []}
use Rattle.theory_rings.specs.Sum.{table}
use Rattle.spl_field.specs.SmallField.{small_ops}
use Rattle.spl_lattice.specs.Reduction.{IsSplitOf}
use Rattle.spl_lattice.proofs.augmented.insert_extended.Given as goal

abbrev pub invariant-loop-i : goal.invariant-loop-i
invariant-loop-i l = IsSplitOf (small_ops l.f) l.w (l.w + l.t)
    ((l.initial.split.basis.items ++ l.initial.split.zeros.items)
    ++ table l.i (λ i. get_or l.rows i [] ++ get_or l.tails i []))
    l.split.basis.items l.split.places.items l.split.zeros.items
