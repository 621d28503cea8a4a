use Rattle.spl_field.specs.SmallField.{small_ops, small_laws}
use Rattle.theory_remainders.proofs.RemainderValues.{are_remainder_ops}
use Rattle.spl_residue.proofs.laws.operations_are_of_remainders.Goals as goal

pub returns : goal.returns
returns c =
    let k = c.args.k.now in are_remainder_ops (small_ops k.field) (small_laws k.field) k.modulus k.irreducible
