-- What contracts see of a field of fractions.
use Rattle.spl_field.specs.declared.small.SmallField.{SmallField}
use Rattle.spl_fraction.specs.declared.field.Fractions.{Fractions}

-- the field that the coefficients are elements of
abbrev pub field_of : Fractions → SmallField
field_of f = f.field
