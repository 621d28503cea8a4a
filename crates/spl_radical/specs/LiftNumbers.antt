-- What contracts see of a lift ring.
use Rattle.std.specs.Prelude.{ℕ}
use Rattle.spl_residue.specs.declared.field.ResidueField.{ResidueField}
use Rattle.spl_radical.specs.declared.lift_ring.LiftRing.{LiftRing}

-- the residue field from which it was made
abbrev pub residues_of : LiftRing → ResidueField
residues_of R = R.field.now

-- the l for which its numbers are below p^(l + 1)
abbrev pub level_of : LiftRing → ℕ
level_of R = R.l
