-- Canonical fractions behind one another, a space before each: those that were read.
use Rattle.std.proofs.Common.{◌≡◌, ◌≢◌, ◌⊎◌, ℕ, suc, ◌<◌, List, [], ◌∷◌, ◌++◌, length, map, refl, sym, ap, subst}
use Rattle.std.proofs.Common.{◌∙◌, inl, inr, arith}
use Rattle.std.specs.List.{flat_map, All, AllByRecursion}
use Rattle.std.proofs.lemmas.List.Elements.{All-push}
use Rattle.theory_rings.specs.Ops.{Ops, IsElem}
use Rattle.theory_fractions.specs.Fraction.{Pair}
use Rattle.theory_fractions.proofs.ElementClauses.{lowest_of_elem}
use Rattle.spl_field.specs.SmallField.{small_ops, small_laws}
use Rattle.spl_field.specs.declared.small.SmallField.{SmallField}
use Rattle.spl_text.specs.Text.{Lacks, FractionText, IsFractionText, fraction_text}
use Rattle.spl_text.proofs.Fractions.{fraction_unique}
use Rattle.spl_fraction.specs.FractionsOver.{fractions_over}
use Rattle.spl_fraction.specs.CanonicalText.{IsCanonicalText}
use Rattle.spl_fraction.specs.CanonicalWords.{words_of}
use Rattle.spl_fraction.proofs.CanonicalTexts.{text_words, is_fraction_text}
use Rattle.spl_evidence.specs.Reading.{EndsWord}
use Rattle.spl_evidence.specs.Refusal.{IsCanonical}
use Rattle.spl_evidence.proofs.SpacedWords.{SoFar, SoFar-none, SoFar-push, no_word, no_item, fraction_lacks}

map-push : (a : List (Pair ℕ)) (x : Pair ℕ) → map words_of (a ++ x ∷ []) ≡ map words_of a ++ words_of x ∷ []
map-push [] x = refl
map-push (y ∷ a) x = ap (λ t. words_of y ∷ t) (map-push a x)

pub length-map : (a : List (Pair ℕ)) → length (map words_of a) ≡ length a
length-map [] = refl
length-map (x ∷ a) = ap (λ n. suc n) (length-map a)

module _ (f : SmallField) where
  abbrev K : Ops (Pair ℕ)
  K = fractions_over f

  pub form : (t : FractionText) → IsCanonical f t → IsFractionText t
  form t h =
      subst IsFractionText (sym h.2)
      (is_fraction_text f h.0 (lowest_of_elem (small_ops f) (small_laws f) h.0 h.1))

  pub canonical_lacks : (t : FractionText) → IsCanonical f t → Lacks 32 (fraction_text t)
  canonical_lacks t h = fraction_lacks t (form t h)

  pub canonical_words_unique : (t u : FractionText) → IsCanonical f t → IsCanonical f u
      → fraction_text t ≡ fraction_text u → t ≡ u
  canonical_words_unique t u h g e = fraction_unique t u (form t h) (form u g) e

  -- these fractions were read
  pub record TermsSoFar (whole rest : List ℕ) (a : List (Pair ℕ)) : Type 0 where
    pub words : SoFar fraction_text (IsCanonical f) canonical_lacks canonical_words_unique whole rest (map words_of a)
    pub elems : All (IsElem K) a

  pub TermsSoFar-none : (whole : List ℕ) → TermsSoFar whole whole []
  TermsSoFar-none whole = record {
    words = SoFar-none fraction_text (IsCanonical f) canonical_lacks canonical_words_unique whole;
    elems = λ k d below. absurd (omega arith);
  }

  module _ (whole rest : List ℕ) (a : List (Pair ℕ)) (so_far : TermsSoFar whole rest a) where
    pub TermsSoFar-push : (word after : List ℕ) (x : Pair ℕ) → rest ≡ 32 ∷ (word ++ after) → EndsWord after
        → IsElem K x → IsCanonicalText (small_ops f) word x → TermsSoFar whole after (a ++ x ∷ [])
    TermsSoFar-push word after x next ends elem is = record {
      words = subst (SoFar fraction_text (IsCanonical f) canonical_lacks canonical_words_unique whole after)
          (sym (map-push a x))
          (SoFar-push fraction_text (IsCanonical f) canonical_lacks canonical_words_unique whole rest word after
          (map words_of a) (words_of x) so_far.words next ends (x, elem, refl) (is.text ∙ text_words x));
      elems = All-push (IsElem K) a x so_far.elems elem;
    }

    pub terms_no_word : ((s : List ℕ) → rest ≢ 32 ∷ s) → (ts : List FractionText) (r : List ℕ) → length a < length ts
        → AllByRecursion (IsCanonical f) ts → EndsWord r → whole ≢ flat_map (λ t. 32 ∷ fraction_text t) ts ++ r
    terms_no_word none ts r more each ends =
        no_word fraction_text (IsCanonical f) canonical_lacks canonical_words_unique whole rest (map words_of a)
        so_far.words none ts r (omega (arith, more, length-map a)) each ends

    pub terms_no_fraction : (word after : List ℕ) → Lacks 32 word → EndsWord after → rest ≡ 32 ∷ (word ++ after)
        → ((x : Pair ℕ) → IsCanonicalText (small_ops f) word x → ⊥) → (ts : List FractionText) (r : List ℕ)
        → length a < length ts → AllByRecursion (IsCanonical f) ts → EndsWord r
        → whole ≢ flat_map (λ t. 32 ∷ fraction_text t) ts ++ r
    terms_no_fraction word after lacks ea here none ts r more each ends =
        no_item fraction_text (IsCanonical f) canonical_lacks canonical_words_unique whole rest word after
        (map words_of a) so_far.words lacks ea here
        (λ t h e. none h.0 record {
          lowest = lowest_of_elem (small_ops f) (small_laws f) h.0 h.1;
          text = e ∙ ap fraction_text h.2 ∙ sym (text_words h.0);
        }) ts r (omega (arith, more, length-map a)) each ends

    pub ends_of : (length a ≡ 0) ⊎ EndsWord rest
    ends_of = go so_far.words.ends
      where
        go : (length (map words_of a) ≡ 0) ⊎ EndsWord rest → (length a ≡ 0) ⊎ EndsWord rest
        go (inl none) = inl (sym (length-map a) ∙ none)
        go (inr ends) = inr ends
