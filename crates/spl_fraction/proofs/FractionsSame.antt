-- Over fields by the same numbers the fractions have the same operations.
use Rattle.std.proofs.Common.{◌≡◌}
use Rattle.theory_fractions.proofs.OperationsSame.{fraction_ops_same}
use Rattle.spl_field.specs.SmallField.{characteristic, modulus_of, small_ops, small_laws}
use Rattle.spl_field.specs.declared.small.SmallField.{SmallField}
use Rattle.spl_field.proofs.EqualFields.{equal_fields}
use Rattle.spl_fraction.specs.FractionsOver.{fractions_over}

pub fractions_same : (f g : SmallField) → characteristic f ≡ characteristic g → modulus_of f ≡ modulus_of g
    → fractions_over f ≡ fractions_over g
fractions_same f g p m =
    fraction_ops_same (small_ops f) (small_ops g) (small_laws f) (small_laws g) (equal_fields f g p m)
