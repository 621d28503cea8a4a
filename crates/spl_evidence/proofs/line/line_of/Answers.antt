use Rattle.std.proofs.Common.{◌≡◌, ◌++◌, refl, sym, ap, ◌∙◌}
use Rattle.spl_evidence.specs.Line.{word_text}
use Rattle.spl_evidence.proofs.LineParts.{no_numbers, no_fractions, no_lists, line_made, form_made, text_made}
use Rattle.spl_evidence.proofs.ReadLines.{not_false}
use Rattle.spl_evidence.proofs.line.line_of.Goals as goal

pub returns-in_default-2 : goal.returns-in_default-2
returns-in_default-2 c =
    let w = c.args.word in
    let text = c.args.text.now in
    let rest = c.in-Some.arguments.now in
    let cut : text ≡ word_text w ++ rest = c.in-Some.ensures ∙ ap (λ t. t ++ rest) c.text.ensures in
    let none = rw c.in_default-2.is at c.in_ok-numbers.ensures in
    no_numbers c.args.m w text rest cut
    (λ ns after many each ends. none ns after (many ∙ sym c.number_count.ensures) each ends)

pub returns-in_default-3 : goal.returns-in_default-3
returns-in_default-3 c =
    let w = c.args.word in
    let text = c.args.text.now in
    let rest = c.in-Some.arguments.now in
    let cut : text ≡ word_text w ++ rest = c.in-Some.ensures ∙ ap (λ t. t ++ rest) c.text.ensures in
    let x = rw c.in-Some-2.is at c.in_ok-numbers.ensures in
    let none = rw c.in_default-3.is at c.in_ok-elements.ensures in
    no_fractions c.args.m w text rest cut c.in-Some-2.numbers c.in-Some-2.fractions.now (x.0 ∙ c.number_count.ensures)
    x.1 x.2 x.3 (λ ts number all. none ts (number ∙ sym c.fraction_count.ensures) all)

pub returns : goal.returns
returns c =
    let w = c.args.word in
    let text = c.args.text.now in
    let rest = c.in-Some.arguments.now in
    let cut : text ≡ word_text w ++ rest = c.in-Some.ensures ∙ ap (λ t. t ++ rest) c.text.ensures in
    let x = rw c.in-Some-2.is at c.in_ok-numbers.ensures in
    let y = rw c.in-Some-3.is at c.in_ok-elements.ensures in
    let ns = c.in-Some-2.numbers in
    let after = c.in-Some-2.fractions.now in
    let many = x.0 ∙ c.number_count.ensures in
    let number = y.1 ∙ c.fraction_count.ensures in
    let lists = (c.has_lists.ensures y.0 y.2 y.3).0 c.if-not-has_lists.false in (
      line_made c.args.m w text rest cut ns after many x.1 x.2 x.3 y.0 number y.2 y.3 lists,
      refl {a = w},
      form_made c.args.m w text rest cut ns after many x.1 x.2 x.3 y.0 number y.2 y.3 lists,
      text_made c.args.m w text rest cut ns after many x.1 x.2 x.3 y.0 number y.2 y.3 lists,
      record { word = refl; numbers = refl; fractions = y.3; elements = y.4 },
    )

pub returns-then-not-has_lists : goal.returns-then-not-has_lists
returns-then-not-has_lists c =
    let w = c.args.word in
    let text = c.args.text.now in
    let rest = c.in-Some.arguments.now in
    let cut : text ≡ word_text w ++ rest = c.in-Some.ensures ∙ ap (λ t. t ++ rest) c.text.ensures in
    let x = rw c.in-Some-2.is at c.in_ok-numbers.ensures in
    no_lists c.args.m w text rest cut c.in-Some-2.numbers c.in-Some-2.fractions.now (x.0 ∙ c.number_count.ensures)
    x.1 x.2 x.3
    (λ ts all e lists. not_false c.has_lists.result c.if-not-has_lists.true ((c.has_lists.ensures ts all e).1 lists))
