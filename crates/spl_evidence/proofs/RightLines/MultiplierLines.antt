-- The lines of multipliers that fit are right.
use Rattle.std.proofs.Common.{◌≡◌, ◌≢◌, ℕ, suc, ◌*◌, ◌≤◌, List, [], ◌∷◌, ◌++◌}
use Rattle.std.proofs.Common.{length, get_or, map, Some, refl, sym, ap, subst, ◌∙◌, arith}
use Rattle.std.specs.Prelude.{Contains}
use Rattle.std.specs.List.{AllByRecursion}
use Rattle.theory_rings.specs.Ops.{Ops, IsElem}
use Rattle.theory_fractions.specs.Fraction.{Pair}
use Rattle.theory_tables.specs.Claims.{AreMultipliers, PairBefore}
use Rattle.spl_field.specs.declared.small.SmallField.{SmallField}
use Rattle.spl_text.specs.Text.{IsNumber, IsFractionText}
use Rattle.spl_fraction.specs.FractionsOver.{fractions_over}
use Rattle.spl_fraction.specs.CanonicalWords.{words_of}
use Rattle.spl_fraction.proofs.CanonicalTexts.{is_fraction_text}
use Rattle.spl_evidence.specs.Evidence.{multiplier_line, end_line}
use Rattle.spl_evidence.specs.Refusal.{due_sides, IsDue, NumbersAreInOrder, zero_text, IsRight}
use Rattle.spl_evidence.specs.declared.word.Word.{Word}
use Rattle.spl_evidence.specs.declared.word.Word.TheVariants.{NoIdentity as NoIdentityWord, Left, Right, End}
use Rattle.spl_evidence.specs.declared.word.Before.{Before}
use Rattle.spl_evidence.proofs.RightLines.DueWords.{first_of, none_of, second_of, third_of}
use Rattle.spl_evidence.proofs.RightLines.ElementWords.{lowest, zero_words, zero_elem, words_elements, words_unique}
use Rattle.spl_evidence.proofs.RightLines.TupleLines.{number, whole-cons, end_right, IsWhole}

module _ (f : SmallField) where
  abbrev K : Ops (Pair ℕ)
  K = fractions_over f

  module _ (n : ℕ) (few : IsNumber (n * n)) where
    AreMultipliers-tail : (x : ℕ × ℕ × Pair ℕ) (xs : List (ℕ × ℕ × Pair ℕ)) → AreMultipliers K (n * n) (x ∷ xs)
        → AreMultipliers K (n * n) xs
    AreMultipliers-tail x xs h = record {
      first_low = λ s below. h.first_low (suc s) (omega arith);
      first_high = λ s below. h.first_high (suc s) (omega arith);
      second_low = λ s below. h.second_low (suc s) (omega arith);
      second_high = λ s below. h.second_high (suc s) (omega arith);
      of_field = λ s below. h.of_field (suc s) (omega arith);
      nonzero = λ s below. h.nonzero (suc s) (omega arith);
      order = λ s t before below. h.order (suc s) (suc t) (omega arith) (omega arith);
    }

    -- the second pair is greater than the first
    second_goes_up : (a b : ℕ) (x : Pair ℕ) (xs : List (ℕ × ℕ × Pair ℕ)) → AreMultipliers K (n * n) ((a, b, x) ∷ xs)
        → (y : ℕ × ℕ × Pair ℕ) (ys : List (ℕ × ℕ × Pair ℕ)) → xs ≡ y ∷ ys → PairBefore a b y.0 y.1
    second_goes_up a b x xs h y ys e =
        subst
        (λ (l : List (ℕ × ℕ × Pair ℕ)). PairBefore a b (get_or l 0 (0, 0, K.zero)).0 (get_or l 0 (0, 0, K.zero)).1) e
        (h.order 0 1 (omega arith) (omega (arith, ap length e)))

    pub not_zero_words : (x : Pair ℕ) → IsElem K x → x ≢ K.zero → words_of x ∷ [] ≢ zero_text ∷ []
    not_zero_words x h other e =
        let same : words_of x ≡ zero_text = ap (λ l. get_or l 0 zero_text) e in
        other (words_unique f x K.zero h (zero_elem f) (same ∙ sym (zero_words f)))

    unfoldable pub at_side : ℕ → Word → ℕ → ℕ → Before
    at_side count last j k =
        record { kind = NoIdentityWord; tuples = 0; count = count; last = last; j = j; k = k }

    one_form : (side : Word) (a b : ℕ) (x : Pair ℕ) (xs : List (ℕ × ℕ × Pair ℕ))
        → AreMultipliers K (n * n) ((a, b, x) ∷ xs)
        → AllByRecursion IsNumber (a ∷ b ∷ []) × AllByRecursion IsFractionText (words_of x ∷ [])
    one_form side a b x xs h =
        let first : a ≤ n * n = h.first_high 0 (omega arith) in
        let second : b ≤ n * n = h.second_high 0 (omega arith) in
        let elem : IsElem K x = h.of_field 0 (omega arith) in
        ((number f n few a first, (number f n few b second, tt)), (is_fraction_text f x (lowest f x elem), tt))

    one_range : (a b : ℕ) (x : Pair ℕ) (xs : List (ℕ × ℕ × Pair ℕ)) → AreMultipliers K (n * n) ((a, b, x) ∷ xs)
        → AllByRecursion (λ i. (1 ≤ i) × (i ≤ n * n)) (a ∷ b ∷ [])
    one_range a b x xs h = (
      (h.first_low 0 (omega arith), h.first_high 0 (omega arith)),
      ((h.second_low 0 (omega arith), h.second_high 0 (omega arith)), tt),
    )

    left_right : (b : Before) (i j : ℕ) (x : Pair ℕ) (xs : List (ℕ × ℕ × Pair ℕ)) → IsDue (n * n) (Some b) Left
        → NumbersAreInOrder n b (multiplier_line Left (i, j, x)) → AreMultipliers K (n * n) ((i, j, x) ∷ xs)
        → IsRight f n (Some b) (multiplier_line Left (i, j, x))
    left_right b i j x xs due order h =
        let elem : IsElem K x = h.of_field 0 (omega arith) in
        record {
          form = record {
            number_count = refl;
            numbers = (one_form Left i j x xs h).0;
            fraction_count = refl;
            fractions = (one_form Left i j x xs h).1;
            lists = tt;
          };
          due = due;
          range = record { numbers = one_range i j x xs h; elements = (words_elements f x elem, tt) };
          order = order;
          terms = record {
            canonical = ((x, elem, refl), tt);
            allowed = not_zero_words x elem (h.nonzero 0 (omega arith));
          };
        }

    right_right : (b : Before) (i j : ℕ) (x : Pair ℕ) (xs : List (ℕ × ℕ × Pair ℕ)) → IsDue (n * n) (Some b) Right
        → NumbersAreInOrder n b (multiplier_line Right (i, j, x)) → AreMultipliers K (n * n) ((i, j, x) ∷ xs)
        → IsRight f n (Some b) (multiplier_line Right (i, j, x))
    right_right b i j x xs due order h =
        let elem : IsElem K x = h.of_field 0 (omega arith) in
        record {
          form = record {
            number_count = refl;
            numbers = (one_form Right i j x xs h).0;
            fraction_count = refl;
            fractions = (one_form Right i j x xs h).1;
            lists = tt;
          };
          due = due;
          range = record { numbers = one_range i j x xs h; elements = (words_elements f x elem, tt) };
          order = order;
          terms = record {
            canonical = ((x, elem, refl), tt);
            allowed = not_zero_words x elem (h.nonzero 0 (omega arith));
          };
        }

    side_end_whole : (count : ℕ) (last : Word) (j k : ℕ) → Contains (due_sides last) End
        → IsWhole f n few (Some (at_side count last j k)) (end_line ∷ [])
    unfolding at_side
    side_end_whole count last j k due =
        whole-cons f n few (Some (at_side count last j k)) end_line [] (end_right f n few (at_side count last j k) due)
        (tt, λ w h. none_of w h)

    rights_after : (count j k : ℕ) (xs : List (ℕ × ℕ × Pair ℕ)) → AreMultipliers K (n * n) xs
        → ((y : ℕ × ℕ × Pair ℕ) (ys : List (ℕ × ℕ × Pair ℕ)) → xs ≡ y ∷ ys → PairBefore j k y.0 y.1)
        → IsWhole f n few (Some (at_side count Right j k)) (map (multiplier_line Right) xs ++ end_line ∷ [])
    unfolding at_side
    rights_after count j k [] h first = side_end_whole count Right j k (second_of Right End [])
    rights_after count j k ((a, b, x) ∷ xs) h first =
        whole-cons f n few (Some (at_side count Right j k)) (multiplier_line Right (a, b, x))
        (map (multiplier_line Right) xs ++ end_line ∷ [])
        (right_right (at_side count Right j k) a b x xs (first_of Right (End ∷ [])) (λ e. first (a, b, x) xs refl) h)
        (rights_after (suc count) a b xs (AreMultipliers-tail (a, b, x) xs h) (second_goes_up a b x xs h))

    rights_behind_kind : (xs : List (ℕ × ℕ × Pair ℕ)) → AreMultipliers K (n * n) xs
        → IsWhole f n few (Some (at_side 0 NoIdentityWord 0 0)) (map (multiplier_line Right) xs ++ end_line ∷ [])
    unfolding at_side
    rights_behind_kind [] h = side_end_whole 0 NoIdentityWord 0 0 (third_of Left Right End [])
    rights_behind_kind ((a, b, x) ∷ xs) h =
        whole-cons f n few (Some (at_side 0 NoIdentityWord 0 0)) (multiplier_line Right (a, b, x))
        (map (multiplier_line Right) xs ++ end_line ∷ [])
        (right_right (at_side 0 NoIdentityWord 0 0) a b x xs (second_of Left Right (End ∷ [])) (λ e. absurd cc) h)
        (rights_after 1 a b xs (AreMultipliers-tail (a, b, x) xs h) (second_goes_up a b x xs h))

    rights_behind_left : (count j k : ℕ) (xs : List (ℕ × ℕ × Pair ℕ)) → AreMultipliers K (n * n) xs
        → IsWhole f n few (Some (at_side count Left j k)) (map (multiplier_line Right) xs ++ end_line ∷ [])
    unfolding at_side
    rights_behind_left count j k [] h = side_end_whole count Left j k (third_of Left Right End [])
    rights_behind_left count j k ((a, b, x) ∷ xs) h =
        whole-cons f n few (Some (at_side count Left j k)) (multiplier_line Right (a, b, x))
        (map (multiplier_line Right) xs ++ end_line ∷ [])
        (right_right (at_side count Left j k) a b x xs (second_of Left Right (End ∷ [])) (λ e. absurd cc) h)
        (rights_after (suc count) a b xs (AreMultipliers-tail (a, b, x) xs h) (second_goes_up a b x xs h))

    lefts_after : (count j k : ℕ) (xs ys : List (ℕ × ℕ × Pair ℕ)) → AreMultipliers K (n * n) xs
        → AreMultipliers K (n * n) ys
        → ((z : ℕ × ℕ × Pair ℕ) (zs : List (ℕ × ℕ × Pair ℕ)) → xs ≡ z ∷ zs → PairBefore j k z.0 z.1)
        → IsWhole f n few (Some (at_side count Left j k))
        (map (multiplier_line Left) xs ++ (map (multiplier_line Right) ys ++ end_line ∷ []))
    unfolding at_side
    lefts_after count j k [] ys h g first = rights_behind_left count j k ys g
    lefts_after count j k ((a, b, x) ∷ xs) ys h g first =
        whole-cons f n few (Some (at_side count Left j k)) (multiplier_line Left (a, b, x))
        (map (multiplier_line Left) xs ++ (map (multiplier_line Right) ys ++ end_line ∷ []))
        (left_right (at_side count Left j k) a b x xs (first_of Left (Right ∷ End ∷ []))
        (λ e. first (a, b, x) xs refl) h)
        (lefts_after (suc count) a b xs ys (AreMultipliers-tail (a, b, x) xs h) g (second_goes_up a b x xs h))

    pub sides_whole : (xs ys : List (ℕ × ℕ × Pair ℕ)) → AreMultipliers K (n * n) xs → AreMultipliers K (n * n) ys
        → IsWhole f n few (Some (at_side 0 NoIdentityWord 0 0))
        (map (multiplier_line Left) xs ++ (map (multiplier_line Right) ys ++ end_line ∷ []))
    unfolding at_side
    sides_whole [] ys h g = rights_behind_kind ys g
    sides_whole ((a, b, x) ∷ xs) ys h g =
        whole-cons f n few (Some (at_side 0 NoIdentityWord 0 0)) (multiplier_line Left (a, b, x))
        (map (multiplier_line Left) xs ++ (map (multiplier_line Right) ys ++ end_line ∷ []))
        (left_right (at_side 0 NoIdentityWord 0 0) a b x xs (first_of Left (Right ∷ End ∷ [])) (λ e. absurd cc) h)
        (lefts_after 1 a b xs ys (AreMultipliers-tail (a, b, x) xs h) g (second_goes_up a b x xs h))
