-- The lines of tuples that fit are right, and nothing is due behind the line `end`.
use Rattle.std.proofs.Common.{◌≡◌, ℕ, suc, ◌+◌, ◌*◌, ◌<◌, ◌≤◌, List, [], ◌∷◌, ◌++◌}
use Rattle.std.proofs.Common.{length, map, Option, Some, refl, sym, subst, ◌∙◌, arith}
use Rattle.std.specs.Prelude.{Contains}
use Rattle.std.specs.List.{All}
use Rattle.std.proofs.lemmas.List.Elements.{All-head, All-tail}
use Rattle.theory_rings.specs.Ops.{Ops}
use Rattle.theory_spaces.specs.Tuples.{IsTuple}
use Rattle.theory_fractions.specs.Fraction.{Pair}
use Rattle.spl_field.specs.declared.small.SmallField.{SmallField}
use Rattle.spl_text.specs.Text.{IsNumber}
use Rattle.spl_fraction.specs.FractionsOver.{fractions_over}
use Rattle.spl_text.specs.Text.{FractionText}
use Rattle.spl_fraction.specs.CanonicalWords.{words_of}
use Rattle.spl_evidence.specs.Line.{Line, HasLists, number_count}
use Rattle.spl_evidence.specs.Evidence.{fractions_line, tuple_line, end_line}
use Rattle.spl_evidence.specs.Reading.{TakesTuple}
use Rattle.spl_evidence.specs.Refusal.{NumbersAreInOrder, behind, up_to, end_at, due_words, IsDue, NothingIsDue, IsRight}
use Rattle.spl_evidence.specs.Refusal.{AreRight, behind_all}
use Rattle.spl_evidence.specs.declared.word.Word.{Word}
use Rattle.spl_evidence.specs.declared.word.Word.TheVariants.{Tuple, End}
use Rattle.spl_evidence.specs.declared.word.Before.{Before}
use Rattle.spl_evidence.proofs.RightLines.DueWords.{due_more, due_next, due_end, not_past, not_behind_end}
use Rattle.spl_evidence.proofs.RightLines.ElementWords.{length-words, word_forms, word_ranges, word_terms}

module _ (f : SmallField) where
  abbrev K : Ops (Pair ℕ)
  K = fractions_over f

  module _ (n : ℕ) (few : IsNumber (n * n)) where
    pub number : (i : ℕ) → i ≤ n * n → IsNumber i
    number i h = omega arith

    -- the lines are right, and nothing is due behind them
    abbrev pub IsWhole : Option Before → List Line → Type 0
    IsWhole before ls = AreRight f n before ls × NothingIsDue (n * n) (behind_all f n before ls)

    pub whole-cons : (before : Option Before) (l : Line) (ls : List Line) → IsRight f n before l
        → IsWhole (behind before l) ls → IsWhole before (l ∷ ls)
    whole-cons before l ls right whole = ((right, whole.0), whole.1)

    pub end_right : (b : Before) → IsDue (n * n) (Some b) End → IsRight f n (Some b) end_line
    end_right b due = record {
      form = record { number_count = refl; numbers = tt; fraction_count = refl; fractions = tt; lists = tt };
      due = due;
      range = record { numbers = tt; elements = tt };
      order = tt;
      terms = record { canonical = tt; allowed = tt };
    }

    -- ---- tuples

    -- a tuple alone follows the word
    pub record IsTupleWord (w : Word) : Type 0 where
      pub takes : TakesTuple (n * n) w
      pub no_numbers : number_count w ≡ 0
      pub lists : (ts : List FractionText) → HasLists w ts
      pub order : (b : Before) (ts : List FractionText)
          → NumbersAreInOrder n b (record { word = w; numbers = []; fractions = ts })

    pub tuple_right : (w : Word) → IsTupleWord w → (b : Before) (a : List (Pair ℕ)) → IsDue (n * n) (Some b) w
        → IsTuple K (n * n) a → IsRight f n (Some b) (fractions_line w a)
    tuple_right w is b a due h = record {
      form = record {
        number_count = sym is.no_numbers;
        numbers = tt;
        fraction_count = length-words f a ∙ h.right_length ∙ sym is.takes.count;
        fractions = word_forms f a h.of_elements;
        lists = is.lists (map words_of a);
      };
      due = due;
      range = record { numbers = tt; elements = word_ranges f a h.of_elements };
      order = is.order b (map words_of a);
      terms = record { canonical = word_terms f a h.of_elements; allowed = is.takes.allowed (map words_of a) };
    }

    -- in these kinds tuples are due
    module _ (kind : Word) (tuples : ℕ) where
      abbrev pub at : ℕ → Word → ℕ → ℕ → Before
      at count last j k =
          record { kind = kind; tuples = tuples; count = count; last = last; j = j; k = k }

      -- lines of one word, and those behind them
      pub rows_whole : (w : Word) → IsTupleWord w → (count most : ℕ) (last : Word) (j k : ℕ)
          → (xs : List (List (Pair ℕ))) (tail : List Line) → count + length xs ≡ most
          → ((i : ℕ) (v : Word) (a b : ℕ) → count ≤ i → i < most → IsDue (n * n) (Some (at i v a b)) w)
          → ((v : Word) (a b : ℕ) → IsWhole (Some (at most v a b)) tail) → All (IsTuple K (n * n)) xs
          → IsWhole (Some (at count last j k)) (map (fractions_line w) xs ++ tail)
      rows_whole w is count most last j k [] tail same due rest h =
          let all : most ≡ count = omega arith in
          subst (λ c. IsWhole (Some (at c last j k)) tail) all (rest last j k)
      rows_whole w is count most last j k (x ∷ xs) tail same due rest h =
          whole-cons (Some (at count last j k)) (fractions_line w x) (map (fractions_line w) xs ++ tail)
          (tuple_right w is (at count last j k) x (due count last j k (omega arith) (omega arith))
          (All-head (IsTuple K (n * n)) x xs h))
          (rows_whole w is (suc count) most w 0 0 xs tail (omega arith)
          (λ i v a b low high. due i v a b (omega arith) high) rest (All-tail (IsTuple K (n * n)) x xs h))

      module _ (are : (count : ℕ) (last : Word) (j k : ℕ)
          → due_words (n * n) (Some (at count last j k)) ≡ up_to count tuples Tuple (end_at count tuples)) where
        pub tuple_due : (count : ℕ) (last : Word) (j k : ℕ) → count < tuples
            → IsDue (n * n) (Some (at count last j k)) Tuple
        tuple_due count last j k below =
            rw (are count last j k) (due_more count tuples Tuple (end_at count tuples) below)

        pub end_due : (count : ℕ) (last : Word) (j k : ℕ) → count ≡ tuples
            → IsDue (n * n) (Some (at count last j k)) End
        end_due count last j k same =
            rw (are count last j k)
            (due_next count tuples Tuple End (end_at count tuples) (omega arith) (due_end count tuples same))

        pub nothing_due : (count : ℕ) (last : Word) (j k : ℕ) → tuples < count
            → NothingIsDue (n * n) (Some (at count last j k))
        nothing_due count last j k past w due =
            not_past count tuples Tuple w (end_at count tuples) (omega arith)
            (not_behind_end count tuples w (λ e. omega arith))
            (subst (λ ws. Contains ws w) (are count last j k) due)

        pub tuples_whole : (count : ℕ) (last : Word) (j k : ℕ) (xs : List (List (Pair ℕ))) → count + length xs ≡ tuples
            → All (IsTuple K (n * n)) xs → IsWhole (Some (at count last j k)) (map tuple_line xs ++ end_line ∷ [])
        tuples_whole count last j k xs same h =
            rows_whole Tuple tuple_word count tuples last j k xs (end_line ∷ []) same
            (λ i v a b low high. tuple_due i v a b high)
            (λ v a b. whole-cons (Some (at tuples v a b)) end_line []
            (end_right (at tuples v a b) (end_due tuples v a b refl))
            (tt, nothing_due (suc tuples) End 0 0 (omega arith))) h
          where
            tuple_word : IsTupleWord Tuple
            tuple_word = record {
              takes = record { count = refl; allowed = λ ts. tt };
              no_numbers = refl;
              lists = λ ts. tt;
              order = λ b ts. tt;
            }
