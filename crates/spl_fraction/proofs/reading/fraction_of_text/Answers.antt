use Rattle.spl_text.specs.FractionWords.{text_of}
use Rattle.spl_fraction.proofs.CanonicalTexts.{no_text, same_words, canonical_of_words, match_option_map, eq_none}
use Rattle.spl_fraction.proofs.reading.fraction_of_text.Goals as goal

pub returns-in_default : goal.returns-in_default
returns-in_default c w h =
    let none = rw (eq_none c.in_ok-words.field-0 c.in_default.not-Some) at c.in_ok-words.ensures in
    no_text c.args.f.now c.args.text.now none w h

pub returns : goal.returns
returns c =
    let t = text_of c.in-Some.words in
    let read = rw c.in-Some.is at c.in_ok-words.ensures in
    match_option_map c.in_ok-fraction_of_words.field-0
    (λ none w h. none w h.lowest (same_words c.args.f.now c.args.text.now t w read.0 read.1 h))
    (λ w made. canonical_of_words c.args.f.now c.args.text.now t w read.1 made.1 made.0)
    c.in_ok-fraction_of_words.ensures
