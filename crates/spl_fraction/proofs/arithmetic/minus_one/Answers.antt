use Rattle.std.proofs.Common.{sym, ◌∙◌}
use Rattle.spl_field.specs.SmallField.{small_ops, small_laws}
use Rattle.theory_fractions.proofs.ProductsOfFractions.{neg_one-ne-zero}
use Rattle.spl_fraction.proofs.arithmetic.minus_one.Goals as goal

pub returns-clause-nonzero : goal.returns-clause-nonzero
returns-clause-nonzero c z =
    neg_one-ne-zero (small_ops c.args.f.now) (small_laws c.args.f.now) (sym c.negative.ensures.same ∙ z)
