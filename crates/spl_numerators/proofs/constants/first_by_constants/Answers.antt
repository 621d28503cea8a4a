use Rattle.spl_field.specs.SmallField.{small_ops, small_laws}
use Rattle.spl_numerators.proofs.ConstantFractions.{first_by_extension}
use Rattle.spl_numerators.proofs.constants.first_by_constants.Goals as goal

pub returns : goal.returns
returns c =
    first_by_extension (small_ops c.args.f.now) (small_laws c.args.f.now) c.args.a.now c.args.b.now c.requires
    c.in_ok-first_failed_triple.field-0 c.in_ok-first_failed_triple.ensures
