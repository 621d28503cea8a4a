use Rattle.std.proofs.Common.{sym, ◌∙◌}
use Rattle.spl_field.specs.SmallField.{small_ops}
use Rattle.theory_fractions.proofs.ProductsOfFractions.{coprime_lists_swap, fraction_same}
use Rattle.spl_fraction.proofs.arithmetic.inverse_of.Goals as goal

pub with_monic_denominator-requires-clause-den_nonzero : goal.with_monic_denominator-requires-clause-den_nonzero
with_monic_denominator-requires-clause-den_nonzero c e =
    c.requires.nonzero (sym c.numerator.ensures.value ∙ sym c.in_ok-den.ensures.value ∙ e)

pub with_monic_denominator-requires-clause-coprime : goal.with_monic_denominator-requires-clause-coprime
with_monic_denominator-requires-clause-coprime c =
    coprime_lists_swap (small_ops c.args.f.now) c.args.a.now.0 c.args.a.now.1 c.in_ok-num.num c.in_ok-den.den
    (c.in_ok-num.ensures.value ∙ c.denominator.ensures.value)
    (c.in_ok-den.ensures.value ∙ c.numerator.ensures.value) c.requires.lowest.coprime

pub returns-clause-inverse : goal.returns-clause-inverse
returns-clause-inverse c =
    fraction_same (small_ops c.args.f.now) c.in_ok-with_monic_denominator.field-0 c.in_ok-num.num c.in_ok-den.den
    c.args.a.now.1 c.args.a.now.0
    (c.in_ok-num.ensures.value ∙ c.denominator.ensures.value) (c.in_ok-den.ensures.value ∙ c.numerator.ensures.value)
    c.in_ok-with_monic_denominator.ensures.value
