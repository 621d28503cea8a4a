use Rattle.std.proofs.Common.{◌≡◌, ◌++◌, take}
use Rattle.spl_lattice.proofs.augmented.with_copies.Given as goal

abbrev pub invariant-loop-item : goal.invariant-loop-item
invariant-loop-item l = l.row ≡ l.initial.row ++ take l.item-index l.items
