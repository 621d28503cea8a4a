use Rattle.std.proofs.Common.{ℕ, List, sym, ap, subst, ◌∙◌}
use Rattle.spl_fraction.specs.Fractions.{field_of}
use Rattle.spl_fraction.specs.declared.place.Place.TheVariants.{Finite}
use Rattle.spl_evidence.specs.Evidence.{IsMonicOfPositiveDegree}
use Rattle.spl_evidence.proofs.ReadLines.{not_false}
use Rattle.spl_evidence.proofs.Readers.LineTerms.{one_word_none, not_canonical}
use Rattle.spl_evidence.proofs.Readers.PlaceTerms.{not_monic, polynomial_elem, polynomial_words}
use Rattle.spl_evidence.proofs.terms.finite_place_of.Goals as goal

pub returns-in_default : goal.returns-in_default
returns-in_default c =
    λ ts same forms lists e canonical monic.
    one_word_none (field_of c.args.f.now) ts c.args.text.now c.in_default.ensures same e

pub returns-in_default-2 : goal.returns-in_default-2
returns-in_default-2 c =
    let none = rw c.in_default-2.is at c.in_ok-fraction.ensures.value in
    λ ts same forms lists e canonical monic.
    not_canonical (field_of c.args.f.now) ts c.args.text.now c.in-Some.word.now c.in-Some.ensures same e none canonical

pub returns-then-not-is_monic_of_positive_degree : goal.returns-then-not-is_monic_of_positive_degree
returns-then-not-is_monic_of_positive_degree c =
    let x = c.in-Some-2.fraction in
    let is = rw c.in-Some-2.is at c.in_ok-fraction.ensures.value in
    let elem = rw c.in-Some-2.is at c.in_ok-fraction.ensures.elem in
    let none : IsMonicOfPositiveDegree x.0 → ⊥ = λ monic.
    not_false c.is_monic_of_positive_degree.result c.if-not-is_monic_of_positive_degree.true
    (c.is_monic_of_positive_degree.ensures.1
    (subst IsMonicOfPositiveDegree (sym (c.as_slice.ensures ∙ c.numerator.ensures.value)) monic)) in
    λ ts same forms lists e canonical monic.
    not_monic (field_of c.args.f.now) ts c.args.text.now c.in-Some.word.now c.in-Some.ensures same e x elem is forms
    none monic

pub returns : goal.returns
returns c =
    let f = field_of c.args.f.now in
    let x = c.in-Some-2.fraction in
    let is = rw c.in-Some-2.is at c.in_ok-fraction.ensures.value in
    let elem = rw c.in-Some-2.is at c.in_ok-fraction.ensures.elem in
    let monic : IsMonicOfPositiveDegree x.0 =
    subst IsMonicOfPositiveDegree (c.as_slice.ensures ∙ c.numerator.ensures.value)
    (c.is_monic_of_positive_degree.ensures.0 c.if-not-is_monic_of_positive_degree.false) in
    λ ts same forms lists e. (
      x.0,
      ap (λ (p : List ℕ). Finite p) (c.in_ok-poly.ensures.value ∙ c.numerator-2.ensures.value),
      polynomial_elem f ts c.args.text.now c.in-Some.word.now c.in-Some.ensures same e x elem is forms lists,
      monic,
      polynomial_words f ts c.args.text.now c.in-Some.word.now c.in-Some.ensures same e x elem is forms lists,
    )
