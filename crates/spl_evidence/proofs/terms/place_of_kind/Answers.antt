use Rattle.std.proofs.Common.{◌≡◌, ◌≢◌, [], sym, ap, ◌∙◌}
use Rattle.spl_fraction.specs.Fractions.{field_of}
use Rattle.spl_fraction.specs.declared.place.Place.TheVariants.{Infinity}
use Rattle.spl_evidence.specs.Line.{Line, fraction_count}
use Rattle.spl_evidence.specs.Evidence.{place_line}
use Rattle.spl_evidence.specs.declared.word.Word.TheVariants.{Ramified, RamifiedInfinity}
use Rattle.spl_evidence.proofs.ReadLines.{not_false}
use Rattle.spl_evidence.proofs.Readers.LineSteps.{no_items}
use Rattle.spl_evidence.proofs.Readers.LineTerms.{plain_terms}
use Rattle.spl_evidence.proofs.Readers.PlaceTerms.{lists_behind, one_behind, monic_behind, finite_told}
use Rattle.spl_evidence.proofs.Readers.PlaceTerms.{infinity_line_is}
use Rattle.spl_evidence.proofs.terms.place_of_kind.Goals as goal

pub returns-then-is_infinity : goal.returns-then-is_infinity
returns-then-is_infinity c =
    let f = field_of c.args.f.now in
    λ m l form word e none.
    let is : l ≡ place_line Infinity =
    infinity_line_is f m l form (sym word ∙ c.is_infinity.ensures.0 c.if-is_infinity.true) in
    (plain_terms f l (ap (λ (k : Line). k.fractions) is), (tt, is))

pub returns-then-not-is_ramified : goal.returns-then-not-is_ramified
returns-then-not-is_ramified c =
    let f = field_of c.args.f.now in
    let other : c.args.word ≢ Ramified = λ e.
    not_false c.is_ramified.result c.if-not-is_ramified.true (c.is_ramified.ensures.1 e) in
    let finite : c.args.word ≢ RamifiedInfinity = λ e.
    not_false c.is_infinity.result c.if-is_infinity.false (c.is_infinity.ensures.1 e) in
    λ m l form word e none.
    let empty : l.fractions ≡ [] =
    no_items l.fractions (form.fraction_count ∙ ap (fraction_count m) (sym word) ∙ none other) in
    (plain_terms f l empty, (empty, other, finite))

pub returns-in_default : goal.returns-in_default
returns-in_default c =
    let f = field_of c.args.f.now in
    let is = c.is_ramified.ensures.0 c.if-not-is_ramified.false in
    let none = rw c.in_default.is at c.in_ok-place.ensures in
    λ m l form word e no_fractions terms.
    let at = sym word ∙ is in
    none l.fractions (one_behind f m l form at) form.fractions (lists_behind f m l form at) e terms.canonical
    (monic_behind f m l form at terms)

pub returns : goal.returns
returns c =
    let f = field_of c.args.f.now in
    let is = c.is_ramified.ensures.0 c.if-not-is_ramified.false in
    let some = rw c.in-Some.is at c.in_ok-place.ensures in
    λ m l form word e no_fractions.
    let at = sym word ∙ is in
    finite_told f m l form at c.in-Some.place
    (some l.fractions (one_behind f m l form at) form.fractions (lists_behind f m l form at) e)
