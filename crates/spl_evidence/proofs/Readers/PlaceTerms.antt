-- The terms of the line of a place: its polynomial is the one that was read, or none of a place.
use Rattle.std.proofs.Common.{◌≡◌, ℕ, ◌<◌, List, [], ◌∷◌, length, None, sym, ap, subst, ◌∙◌, arith}
use Rattle.std.specs.List.{AllByRecursion}
use Rattle.std.proofs.lemmas.List.Elements.{All-nil, All-cons}
use Rattle.theory_rings.specs.Ops.{Ops, IsElem}
use Rattle.theory_rings.specs.Sum.{at}
use Rattle.theory_rings.specs.Polynomial.{degree}
use Rattle.theory_fractions.specs.Fraction.{Pair}
use Rattle.spl_field.specs.SmallField.{small_ops}
use Rattle.spl_field.specs.declared.small.SmallField.{SmallField}
use Rattle.spl_text.specs.Text.{FractionText, IsFractionText}
use Rattle.spl_fraction.specs.FractionsOver.{fractions_over}
use Rattle.spl_fraction.specs.CanonicalText.{IsCanonicalText}
use Rattle.spl_fraction.specs.CanonicalWords.{words_of, denominator_of}
use Rattle.spl_fraction.specs.declared.place.Place.{Place}
use Rattle.spl_fraction.specs.declared.place.Place.TheVariants.{Finite, Infinity}
use Rattle.spl_evidence.specs.Line.{Line, HasForm, HasLists, number_count, fraction_count, fractions_text}
use Rattle.spl_evidence.specs.Evidence.{IsMonicOfPositiveDegree, PlaceFits, place_line}
use Rattle.spl_evidence.specs.Refusal.{IsAllowed, HasTerms}
use Rattle.spl_evidence.specs.declared.word.Word.TheVariants.{Ramified, RamifiedInfinity}
use Rattle.spl_evidence.proofs.RightLines.ElementWords.{lowest, monic_numbers, numbers_monic}
use Rattle.spl_evidence.proofs.Readers.LineSteps.{no_items, line_is}
use Rattle.spl_evidence.proofs.Readers.LineTerms.{words_one, element_terms}

module _ (f : SmallField) where
  abbrev K : Ops (Pair ℕ)
  K = fractions_over f

  -- a monic denominator that is left out is 1
  denominator_one : (v : List ℕ) → 0 < length v → at (small_ops f) v (degree v) ≡ 1 → denominator_of v ≡ None
      → v ≡ 1 ∷ []
  denominator_one [] some monic none = absurd (omega arith)
  denominator_one (c ∷ []) some monic none = ap (λ y. y ∷ []) monic
  denominator_one (c ∷ d ∷ ds) some monic none = absurd cc

  -- ---- a list that was read behind a space

  module _ (ts : List FractionText) (text word : List ℕ) (cut : text ≡ 32 ∷ word) (same : length ts ≡ 1)
      (spelled : text ≡ fractions_text ts) (x : Pair ℕ) (elem : IsElem K x)
      (is : IsCanonicalText (small_ops f) word x) (forms : AllByRecursion IsFractionText ts) where
    words : ts ≡ words_of x ∷ []
    words = words_one f ts text word cut same spelled x elem is forms

    pub not_monic : (IsMonicOfPositiveDegree x.0 → ⊥) → AllByRecursion (λ t. IsMonicOfPositiveDegree t.numerator) ts → ⊥
    not_monic none each =
        let one : AllByRecursion (λ t. IsMonicOfPositiveDegree t.numerator) (words_of x ∷ []) =
        subst (AllByRecursion (λ t. IsMonicOfPositiveDegree t.numerator)) words each in
        none (numbers_monic x.0 one.0)

    module _ (lists : AllByRecursion (λ t. t.denominator ≡ None) ts) where
      over_one : x ≡ (x.0, 1 ∷ [])
      over_one =
          let one : AllByRecursion (λ t. t.denominator ≡ None) (words_of x ∷ []) =
          subst (AllByRecursion (λ t. t.denominator ≡ None)) words lists in
          let low = lowest f x elem in
          ap (λ v. (x.0, v)) (denominator_one x.1 low.denominator_nonzero low.monic one.0)

      pub polynomial_elem : IsElem K (x.0, 1 ∷ [])
      polynomial_elem = subst (IsElem K) over_one elem

      pub polynomial_words : ts ≡ words_of (x.0, 1 ∷ []) ∷ []
      polynomial_words = words ∙ ap (λ y. words_of y ∷ []) over_one

  -- ---- the line of a place

  module _ (m : ℕ) (l : Line) (form : HasForm m l) where
    pub lists_behind : l.word ≡ Ramified → AllByRecursion (λ t. t.denominator ≡ None) l.fractions
    lists_behind is = subst (λ w. HasLists w l.fractions) is form.lists

    pub one_behind : l.word ≡ Ramified → length l.fractions ≡ 1
    one_behind is = form.fraction_count ∙ ap (fraction_count m) is

    pub monic_behind : l.word ≡ Ramified → HasTerms f l
        → AllByRecursion (λ t. IsMonicOfPositiveDegree t.numerator) l.fractions
    monic_behind is terms = subst (λ w. IsAllowed w l.fractions) is terms.allowed

    finite_line_is : l.word ≡ Ramified → (p : List ℕ) → l.fractions ≡ words_of (p, 1 ∷ []) ∷ []
        → l ≡ place_line (Finite p)
    finite_line_is is p words =
        line_is l Ramified [] (words_of (p, 1 ∷ []) ∷ []) is
        (no_items l.numbers (form.number_count ∙ ap number_count is)) words

    finite_terms : l.word ≡ Ramified → (p : List ℕ) → PlaceFits K (Finite p)
        → l.fractions ≡ words_of (p, 1 ∷ []) ∷ [] → HasTerms f l
    finite_terms is p fits words =
        let monic : IsAllowed Ramified (words_of (p, 1 ∷ []) ∷ []) = (monic_numbers p fits.1, tt) in
        element_terms f l ((p, 1 ∷ []) ∷ []) (All-cons (IsElem K) (p, 1 ∷ []) [] fits.0 (All-nil (IsElem K))) words
        (subst (λ w. IsAllowed w l.fractions) (sym is) (subst (IsAllowed Ramified) (sym words) monic))

    -- the place of the polynomial that was read
    pub finite_told : l.word ≡ Ramified → (place : Place)
        → (p : List ℕ) × (place ≡ Finite p) × IsElem K (p, 1 ∷ []) × IsMonicOfPositiveDegree p
        × (l.fractions ≡ words_of (p, 1 ∷ []) ∷ [])
        → HasTerms f l × (PlaceFits K place × (l ≡ place_line place))
    finite_told is place (p, same, elem, monic, words) = (
      finite_terms is p (elem, monic) words,
      (
        subst (PlaceFits K) (sym same) (elem, monic),
        finite_line_is is p words ∙ ap place_line (sym same),
      ),
    )

    pub infinity_line_is : l.word ≡ RamifiedInfinity → l ≡ place_line Infinity
    infinity_line_is is =
        line_is l RamifiedInfinity [] [] is (no_items l.numbers (form.number_count ∙ ap number_count is))
        (no_items l.fractions (form.fraction_count ∙ ap (fraction_count m) is))
