use Rattle.std.proofs.Common.{sym, ap, ◌∙◌}
use Rattle.spl_fraction.specs.Fractions.{field_of}
use Rattle.spl_poly.specs.Operations.{without_zeros}
use Rattle.spl_text.specs.FractionWords.{text_of}
use Rattle.spl_table.proofs.Constants.{denominator_nonzero, constant_made}
use Rattle.spl_table.proofs.reader.constants.constant_of.Goals as goal

pub returns-in-Some-clause-value : goal.returns-in-Some-clause-value
returns-in-Some-clause-value c =
    let found = rw c.in-Some.is at c.in_ok-fraction.ensures.value in
    let lowest = rw c.in-Some.is at c.in_ok-fraction.ensures.lowest in
    constant_made (field_of c.args.k.now)
    (text_of c.args.value.now) c.in-Some.fraction c.in_ok-numerator.numerator c.in_ok-denominator.denominator
    (c.in_ok-numerator.ensures.value
    ∙ ap without_zeros c.as_slice.ensures) c.in_ok-denominator.ensures.value lowest found.1

pub returns-clause-value : goal.returns-clause-value
returns-clause-value c =
    let none = rw c.in-None.is at c.in_ok-fraction.ensures.value in
    absurd (denominator_nonzero (text_of c.args.value.now) c.requires.form c.requires.denominator
    (sym c.in_ok-denominator.ensures.value ∙ none))
