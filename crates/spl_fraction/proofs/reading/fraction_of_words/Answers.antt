use Rattle.std.proofs.Common.{[], ◌∷◌, sym, ◌∙◌, ap, subst}
use Rattle.spl_field.specs.SmallField.{small_ops, small_laws}
use Rattle.spl_text.specs.FractionWords.{text_of}
use Rattle.theory_fractions.specs.Fraction.{IsLowestTerms}
use Rattle.spl_fraction.specs.CanonicalWords.{words_of}
use Rattle.theory_fractions.proofs.Reducing.{lowest_over_one}
use Rattle.spl_fraction.proofs.CanonicalTexts.{words_of_one, words_of_both, numerator_back, match_option_map}
use Rattle.spl_fraction.proofs.reading.fraction_of_words.Goals as goal

pub returns-in_ok-one-in-None : goal.returns-in_ok-one-in-None
returns-in_ok-one-in-None c =
    let o = small_ops c.args.f.now in
    let value = rw c.in-Some.is at c.in_ok-num.ensures.value in
    let over = rw c.in-Some.is at c.in_ok-num.ensures.over in
    let trimmed = rw c.in-Some.is at c.in_ok-num.ensures.trimmed in
    let made = c.of.ensures ∙ ap (λ y. (c.in-Some.num, y)) c.in_ok-one-in-None.ensures in (
      subst (λ w. IsLowestTerms o w.0 w.1) (sym made)
          (lowest_over_one o (small_laws c.args.f.now) c.in-Some.num record { over = over; trimmed = trimmed }),
      words_of_one c.args.f.now (text_of c.args.words.now) c.requires c.in-None.is
          ∙ ap words_of (ap (λ x. (x, 1 ∷ [])) (sym value) ∙ sym made),
    )

pub returns-in_ok-over_numbers-in-Some-denominator : goal.returns-in_ok-over_numbers-in-Some-denominator
returns-in_ok-over_numbers-in-Some-denominator c =
    let o = small_ops c.args.f.now in
    let t = text_of c.args.words.now in
    let value = rw c.in-Some.is at c.in_ok-num.ensures.value in
    match_option_map c.in_ok-over_numbers-in-Some-denominator.field-0
    (λ none w h e.
    let back = numerator_back c.args.f.now t w e h in
    none w.1 (subst (λ u. IsLowestTerms o u w.1) (sym back.1 ∙ sym value) h)
    (sym c.in-Some-denominator.is ∙ ap (λ x. x.denominator) e))
    (λ w made. (
      made.0,
      words_of_both c.args.f.now t c.in-Some-denominator.numbers w.0 w.1 c.requires c.in-Some-denominator.is
          (made.1 ∙ value) made.2,
    ))
    c.in_ok-over_numbers-in-Some-denominator.ensures
