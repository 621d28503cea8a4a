use Rattle.std.proofs.Common.{◌∙◌, ap₂}
use Rattle.spl_fraction.proofs.arithmetic.copy_of.Goals as goal

pub returns : goal.returns
returns c =
    c.of.ensures ∙ ap₂ (λ x y. (x, y)) (c.in_ok-numerator.ensures.value ∙ c.numerator.ensures.value)
    (c.in_ok-denominator.ensures.value ∙ c.denominator.ensures.value)
