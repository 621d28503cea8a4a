-- The line that a word, numbers and fractions make, and that no other part makes one.
use Rattle.std.proofs.Common.{◌≡◌, ◌≢◌, ◌⊎◌, ℕ, List, [], ◌∷◌, ◌++◌, length, sym, ap, subst, ◌∙◌, inl, inr, arith}
use Rattle.std.specs.List.{AllByRecursion}
use Rattle.std.proofs.lemmas.List.{append_cancel_left}
use Rattle.spl_text.specs.Text.{IsNumber, FractionText, IsFractionText}
use Rattle.spl_evidence.specs.Line.{Line, word_text, number_count, fraction_count, numbers_text, fractions_text}
use Rattle.spl_evidence.specs.Line.{line_text, HasLists, HasForm}
use Rattle.spl_evidence.specs.Reading.{EndsWord}
use Rattle.spl_evidence.specs.declared.word.Word.{Word}
use Rattle.spl_evidence.proofs.LineTexts.{numbers_and_rest, EndsWord-fractions}

-- behind one word stand the numbers and the fractions of one line
behind_word : (w : Word) (l : Line) (text rest : List ℕ) → text ≡ word_text w ++ rest → l.word ≡ w
    → text ≡ line_text l → rest ≡ numbers_text l.numbers ++ fractions_text l.fractions
behind_word w l text rest cut same e =
    append_cancel_left (word_text w) rest (numbers_text l.numbers ++ fractions_text l.fractions)
    (sym cut ∙ e ∙ ap (λ v. word_text v ++ (numbers_text l.numbers ++ fractions_text l.fractions)) same)

module _ (m : ℕ) (w : Word) (text rest : List ℕ) (cut : text ≡ word_text w ++ rest) where
  pub no_numbers : ((ns : List ℕ) (after : List ℕ) → length ns ≡ number_count w → AllByRecursion IsNumber ns
      → EndsWord after → rest ≢ numbers_text ns ++ after)
      → (l : Line) → l.word ≡ w → HasForm m l → text ≢ line_text l
  no_numbers none l same h e =
      none l.numbers (fractions_text l.fractions) (h.number_count ∙ ap number_count same) h.numbers
      (EndsWord-fractions l.fractions) (behind_word w l text rest cut same e)

  module _ (ns after : List ℕ) (many : length ns ≡ number_count w) (each : AllByRecursion IsNumber ns)
      (ends : (length ns ≡ 0) ⊎ EndsWord after) (spelled : rest ≡ numbers_text ns ++ after) where
    -- the fractions stand behind these numbers
    behind_numbers : (l : Line) → l.word ≡ w → HasForm m l → text ≡ line_text l → after ≡ fractions_text l.fractions
    behind_numbers l same h e =
        let whole = sym spelled ∙ behind_word w l text rest cut same e in
        let count : length ns ≡ length l.numbers = many ∙ sym (h.number_count ∙ ap number_count same) in
        go ns l.numbers count each h.numbers ends whole
      where
        go : (xs ys : List ℕ) → length xs ≡ length ys → AllByRecursion IsNumber xs → AllByRecursion IsNumber ys
            → (length xs ≡ 0) ⊎ EndsWord after
            → numbers_text xs ++ after ≡ numbers_text ys ++ fractions_text l.fractions
            → after ≡ fractions_text l.fractions
        go xs ys same p q (inr ea) e =
            (numbers_and_rest xs ys after (fractions_text l.fractions) same p q ea
            (EndsWord-fractions l.fractions) e).1
        go [] [] same p q (inl none) e = e
        go [] (y ∷ ys) same p q (inl none) e = absurd (omega arith)
        go (x ∷ xs) ys same p q (inl none) e = absurd (omega arith)

    pub no_fractions : ((ts : List FractionText) → length ts ≡ fraction_count m w → AllByRecursion IsFractionText ts
        → after ≢ fractions_text ts) → (l : Line) → l.word ≡ w → HasForm m l → text ≢ line_text l
    no_fractions none l same h e =
        none l.fractions (h.fraction_count ∙ ap (fraction_count m) same) h.fractions (behind_numbers l same h e)

    pub no_lists : ((ts : List FractionText) → AllByRecursion IsFractionText ts → after ≡ fractions_text ts
        → HasLists w ts → ⊥) → (l : Line) → l.word ≡ w → HasForm m l → text ≢ line_text l
    no_lists none l same h e =
        none l.fractions h.fractions (behind_numbers l same h e) (subst (λ v. HasLists v l.fractions) same h.lists)

    module _ (ts : List FractionText) (number : length ts ≡ fraction_count m w)
        (all : AllByRecursion IsFractionText ts) (last : after ≡ fractions_text ts) (lists : HasLists w ts) where
      abbrev pub line_made : Line
      line_made = record { word = w; numbers = ns; fractions = ts }

      pub form_made : HasForm m line_made
      form_made = record {
        number_count = many;
        numbers = each;
        fraction_count = number;
        fractions = all;
        lists = lists;
      }

      pub text_made : text ≡ line_text line_made
      text_made = cut ∙ ap (λ t. word_text w ++ t) (spelled ∙ ap (λ t. numbers_text ns ++ t) last)
