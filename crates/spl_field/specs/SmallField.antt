-- What contracts see of a small field.
use Rattle.std.specs.Prelude.{ℕ, List}
use Rattle.theory_rings.specs.Ops.{Ops, FieldLaws}
use Rattle.spl_field.specs.Tables.{table_ops}
use Rattle.spl_field.specs.TableField.{field_laws}
use Rattle.spl_field.specs.declared.small.SmallField.{SmallField}

-- the characteristic
abbrev pub characteristic : SmallField → ℕ
characteristic f = f.p

-- the number of elements, which are the numbers below it
abbrev pub size_of : SmallField → ℕ
size_of f = f.size

-- the numbers of the modulus, lowest first, without the lead 1
abbrev pub modulus_of : SmallField → List ℕ
modulus_of f = f.modulus.items

-- the operations as total functions, those of the trait
abbrev pub small_ops : SmallField → Ops ℕ
small_ops f = table_ops f.size f.sums.items f.negatives.items f.products.items f.inverses.items

-- they are a field
pub small_laws : (f : SmallField) → FieldLaws (small_ops f)
small_laws f =
    field_laws f.p f.least f.modulus.items f.some_number f.size f.power f.sums.items f.negatives.items f.products.items
    f.inverses.items
    f.sums_are f.negatives_below f.negatives_are f.products_are f.inverses_below f.inverses_are
