use Rattle.spl_fraction.specs.Fractions.{field_of}
use Rattle.std.proofs.Common.{◌≡◌, ◌≢◌, [], sym, ◌∙◌}
use Rattle.spl_evidence.proofs.Readers.LineTerms.{one_word_none, not_canonical, words_one, zero_multiplier}
use Rattle.spl_evidence.proofs.Readers.LineTerms.{nonzero_multiplier}
use Rattle.spl_evidence.proofs.ReadLines.{not_false}
use Rattle.spl_evidence.proofs.terms.multiplier_of.Goals as goal

pub returns-in_default : goal.returns-in_default
returns-in_default c =
    λ ts same forms e canonical nonzero.
    one_word_none (field_of c.args.f.now) ts c.args.text.now c.in_default.ensures same e

pub returns-in_default-2 : goal.returns-in_default-2
returns-in_default-2 c =
    let none = rw c.in_default-2.is at c.in_ok-x.ensures.value in
    λ ts same forms e canonical nonzero.
    not_canonical (field_of c.args.f.now) ts c.args.text.now c.in-Some.word.now c.in-Some.ensures same e none canonical

pub returns-then-is_zero : goal.returns-then-is_zero
returns-then-is_zero c =
    let x = c.in-Some-2.x in
    let is = rw c.in-Some-2.is at c.in_ok-x.ensures.value in
    let elem = rw c.in-Some-2.is at c.in_ok-x.ensures.elem in
    let none : x.0 ≡ [] = sym c.numerator.ensures.value ∙ c.is_zero.ensures.0 c.if-is_zero.true in
    λ ts same forms e canonical nonzero.
    nonzero
    (zero_multiplier (field_of c.args.f.now) ts c.args.text.now c.in-Some.word.now c.in-Some.ensures same e x elem is
    forms none)

pub returns : goal.returns
returns c =
    let f = field_of c.args.f.now in
    let x = c.in-Some-2.x in
    let is = rw c.in-Some-2.is at c.in_ok-x.ensures.value in
    let elem = rw c.in-Some-2.is at c.in_ok-x.ensures.elem in
    let some : x.0 ≢ [] = λ e.
    not_false c.is_zero.result c.if-is_zero.false (c.is_zero.ensures.1 (c.numerator.ensures.value ∙ e)) in
    λ ts same forms e. (
      elem,
      words_one f ts c.args.text.now c.in-Some.word.now c.in-Some.ensures same e x elem is forms,
      nonzero_multiplier f ts c.args.text.now c.in-Some.word.now c.in-Some.ensures same e x elem is forms some,
    )
