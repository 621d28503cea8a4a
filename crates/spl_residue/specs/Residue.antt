-- What contracts see of a residue field.
use Rattle.std.specs.Prelude.{ℕ, List}
use Rattle.theory_rings.specs.Ops.{Ops}
use Rattle.spl_field.specs.declared.small.SmallField.{SmallField}
use Rattle.spl_residue.specs.ResidueOver.{residues_over}
use Rattle.spl_residue.specs.declared.field.ResidueField.{ResidueField}

-- the field that the coefficients are elements of
abbrev pub field_of : ResidueField → SmallField
field_of k = k.field

-- the irreducible polynomial
abbrev pub polynomial_of : ResidueField → List ℕ
polynomial_of k = k.modulus

-- the operations as total functions, those of the trait
abbrev pub residue_ops : ResidueField → Ops (List ℕ)
residue_ops k = residues_over k.field k.modulus k.irreducible
