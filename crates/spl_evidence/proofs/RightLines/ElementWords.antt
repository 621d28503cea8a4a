-- The words of elements and of tuples: their form, their range, and that they are canonical.
use Rattle.std.proofs.Common.{◌≡◌, ℕ, suc, ◌*◌, ◌<◌, List, [], ◌∷◌, length, map, refl, sym, ap, ◌∙◌, arith}
use Rattle.std.specs.List.{flat_map, All, AllByRecursion}
use Rattle.std.proofs.lemmas.Bool.{ltb-true}
use Rattle.std.proofs.lemmas.List.Elements.{All-head, All-tail, All-append}
use Rattle.std.proofs.lemmas.List.{length-append}
use Rattle.theory_rings.specs.Ops.{Ops, IsElem, FieldLaws}
use Rattle.theory_spaces.specs.Tuples.{IsTuple}
use Rattle.theory_fractions.specs.Fraction.{Pair, IsLowestTerms}
use Rattle.theory_fractions.proofs.ElementClauses.{lowest_of_elem, zero_is}
use Rattle.spl_field.specs.SmallField.{small_ops, size_of, small_laws}
use Rattle.spl_field.specs.declared.small.SmallField.{SmallField}
use Rattle.theory_fractions.specs.PolynomialLists.{IsOver}
use Rattle.spl_text.specs.Text.{FractionText, IsFractionText, lists_of, fraction_text}
use Rattle.spl_fraction.specs.FractionsOver.{fractions_over, fractions_laws}
use Rattle.spl_fraction.specs.CanonicalText.{canonical_text}
use Rattle.spl_fraction.specs.CanonicalWords.{words_of, numbers_of}
use Rattle.spl_fraction.proofs.CanonicalTexts.{text_words, is_fraction_text, canonical_unique, numbers_over}
use Rattle.spl_evidence.specs.Evidence.{IsMonicOfPositiveDegree}
use Rattle.spl_evidence.specs.Refusal.{IsCanonical, zero_text}

-- the numbers of a polynomial that isn't 0 are its coefficients
pub monic_numbers : (c : List ℕ) → IsMonicOfPositiveDegree c → IsMonicOfPositiveDegree (numbers_of c)
monic_numbers [] is = absurd (omega (arith, is.positive))
monic_numbers (c ∷ cs) is = is

pub numbers_monic : (c : List ℕ) → IsMonicOfPositiveDegree (numbers_of c) → IsMonicOfPositiveDegree c
numbers_monic [] is = absurd (omega (arith, is.positive))
numbers_monic (c ∷ cs) is = is

module _ (f : SmallField) where
  abbrev K : Ops (Pair ℕ)
  K = fractions_over f

  pub lowest : (x : Pair ℕ) → IsElem K x → IsLowestTerms (small_ops f) x.0 x.1
  lowest x h = lowest_of_elem (small_ops f) (small_laws f) x h

  -- ---- the words of fractions

  pub words_unique : (x y : Pair ℕ) → IsElem K x → IsElem K y → words_of x ≡ words_of y → x ≡ y
  words_unique x y hx hy e =
      canonical_unique f (canonical_text x) x y record { lowest = lowest x hx; text = refl } record {
        lowest = lowest y hy;
        text = text_words x ∙ ap fraction_text e ∙ sym (text_words y);
      }

  pub zero_words : words_of K.zero ≡ zero_text
  zero_words = ap words_of (zero_is (small_ops f) (small_laws f))

  pub zero_elem : IsElem K K.zero
  zero_elem = let L : FieldLaws K = fractions_laws f in L.zero-elem

  below_size : (c : List ℕ) → IsOver (small_ops f) c → AllByRecursion (λ i. i < size_of f) c
  below_size [] h = tt
  below_size (i ∷ c) h = (ltb-true _ _ (h 0 0 (omega arith)), below_size c (λ k d below. h (suc k) d (omega arith)))

  pub words_elements : (x : Pair ℕ) → IsElem K x
      → AllByRecursion (AllByRecursion (λ i. i < size_of f)) (lists_of (words_of x))
  words_elements x h =
      let low = lowest x h in
      go x.0 x.1 (below_size (numbers_of x.0) (numbers_over f x.0 low.numerator_over)) low.denominator_over
    where
      go : (u v : List ℕ) → AllByRecursion (λ i. i < size_of f) (numbers_of u) → IsOver (small_ops f) v
          → AllByRecursion (AllByRecursion (λ i. i < size_of f)) (lists_of (words_of (u, v)))
      go u [] first over = (first, tt)
      go u (c ∷ []) first over = (first, tt)
      go u (c ∷ d ∷ ds) first over = (first, (below_size (c ∷ d ∷ ds) over, tt))

  -- a property of the words of each element holds of the words of a tuple
  pub each_word : (P : FractionText → Type 0) → ((x : Pair ℕ) → IsElem K x → P (words_of x)) → (a : List (Pair ℕ))
      → All (IsElem K) a → AllByRecursion P (map words_of a)
  each_word P of [] h = tt
  each_word P of (x ∷ a) h = (of x (All-head (IsElem K) x a h), each_word P of a (All-tail (IsElem K) x a h))

  pub length-words : (a : List (Pair ℕ)) → length (map words_of a) ≡ length a
  length-words [] = refl
  length-words (x ∷ a) = ap suc (length-words a)

  pub word_forms : (a : List (Pair ℕ)) → All (IsElem K) a → AllByRecursion IsFractionText (map words_of a)
  word_forms a h = each_word IsFractionText (λ x e. is_fraction_text f x (lowest x e)) a h

  pub word_ranges : (a : List (Pair ℕ)) → All (IsElem K) a
      → AllByRecursion (λ t. AllByRecursion (AllByRecursion (λ i. i < size_of f)) (lists_of t)) (map words_of a)
  word_ranges a h =
      each_word (λ t. AllByRecursion (AllByRecursion (λ i. i < size_of f)) (lists_of t)) words_elements a h

  pub word_terms : (a : List (Pair ℕ)) → All (IsElem K) a → AllByRecursion (IsCanonical f) (map words_of a)
  word_terms a h = each_word (IsCanonical f) (λ x e. (x, e, refl)) a h

  pub flat_over : (n : ℕ) (rows : List (List (Pair ℕ))) → All (IsTuple K n) rows
      → All (IsElem K) (flat_map (λ row. row) rows) × (length (flat_map (λ row. row) rows) ≡ length rows * n)
  flat_over n [] h = (λ k d below. absurd (omega arith), omega arith)
  flat_over n (row ∷ rows) h =
      let first = All-head (IsTuple K n) row rows h in
      let more = flat_over n rows (All-tail (IsTuple K n) row rows h) in (
        All-append (IsElem K) row (flat_map (λ r. r) rows) first.of_elements more.0,
        omega (arith, length-append row (flat_map (λ r. r) rows), first.right_length, more.1),
      )
