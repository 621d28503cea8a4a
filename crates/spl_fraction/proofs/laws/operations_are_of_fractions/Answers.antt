use Rattle.spl_field.specs.SmallField.{small_ops, small_laws}
use Rattle.theory_fractions.proofs.FractionValues.{are_fraction_ops}
use Rattle.spl_fraction.proofs.laws.operations_are_of_fractions.Goals as goal

pub returns : goal.returns
returns c = are_fraction_ops (small_ops c.args.f.now) (small_laws c.args.f.now)
