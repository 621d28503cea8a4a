-- The lines of matrices and of the tuples of matrix units that fit are right.
use Rattle.std.proofs.Common.{◌≡◌, ℕ, zero, suc, ◌+◌, ◌-◌, ◌*◌, ◌/◌, ◌%◌, ◌<◌, ◌≤◌, List, [], ◌∷◌, ◌++◌}
use Rattle.std.proofs.Common.{length, Some, refl, sym, ap, subst, ◌∙◌, arith}
use Rattle.std.specs.List.{flat_map, All}
use Rattle.std.proofs.lemmas.List.Elements.{All-head, All-tail}
use Rattle.std.proofs.lemmas.Nat.{div-add-mod'}
use Rattle.std.proofs.Math.Nat.{mod-lt, div-lt_iff_lt-mul}
use Rattle.theory_rings.specs.Ops.{Ops}
use Rattle.theory_spaces.specs.Tuples.{IsTuple}
use Rattle.theory_fractions.specs.Fraction.{Pair}
use Rattle.theory_tables.specs.Split.{IsSquare}
use Rattle.spl_field.specs.declared.small.SmallField.{SmallField}
use Rattle.spl_text.specs.Text.{IsNumber}
use Rattle.spl_fraction.specs.FractionsOver.{fractions_over}
use Rattle.spl_evidence.specs.Line.{Line}
use Rattle.spl_evidence.specs.Evidence.{map_line, map_lines, unit_line, unit_lines, end_line}
use Rattle.spl_evidence.specs.Refusal.{up_to, end_at, IsRight}
use Rattle.spl_evidence.specs.declared.word.Word.{Word}
use Rattle.spl_evidence.specs.declared.word.Word.TheVariants.{Split as SplitWord, Map, Unit as UnitTuple, End}
use Rattle.spl_evidence.specs.declared.word.Before.{Before}
use Rattle.spl_evidence.proofs.RightLines.DueWords.{due_more, due_next, due_end, not_past, not_behind_end}
use Rattle.spl_evidence.proofs.RightLines.ElementWords.{flat_over, length-words, word_forms, word_ranges, word_terms}
use Rattle.spl_evidence.proofs.RightLines.TupleLines.{number, whole-cons, end_right, IsWhole}

module _ (f : SmallField) where
  abbrev K : Ops (Pair ℕ)
  K = fractions_over f

  module _ (n : ℕ) (few : IsNumber (n * n)) where
    unfoldable pub at_split : ℕ → Word → ℕ → ℕ → Before
    at_split count last j k =
        record { kind = SplitWord; tuples = 0; count = count; last = last; j = j; k = k }

    map_right : (count : ℕ) (last : Word) (j k : ℕ) (x : List (List (Pair ℕ))) → count < n * n → IsSquare K n x
        → IsRight f n (Some (at_split count last j k)) (map_line (count + 1) x)
    unfolding at_split
    map_right count last j k x below h =
        let flat = flat_over f n x h.shape in
        let many : length (flat_map (λ row. row) x) ≡ n * n = flat.1 ∙ ap (λ i. i * n) h.height in
        let entries = flat_map (λ row. row) x in
        record {
          form = record {
            number_count = refl;
            numbers = (number f n few (count + 1) (omega arith), tt);
            fraction_count = length-words f entries ∙ many;
            fractions = word_forms f entries flat.0;
            lists = tt;
          };
          due = due_more count (n * n) Map (up_to count (n * n + n * n) UnitTuple (end_at count (n * n + n * n))) below;
          range = record { numbers = ((omega arith, omega arith), tt); elements = word_ranges f entries flat.0 };
          order = refl;
          terms = record { canonical = word_terms f entries flat.0; allowed = tt };
        }

    pub maps_whole : (count : ℕ) (last : Word) (j k : ℕ) (xs : List (List (List (Pair ℕ)))) (tail : List Line)
        → count + length xs ≡ n * n → All (IsSquare K n) xs
        → ((last : Word) (j k : ℕ) → IsWhole f n few (Some (at_split (n * n) last j k)) tail)
        → IsWhole f n few (Some (at_split count last j k)) (map_lines count xs ++ tail)
    unfolding at_split
    maps_whole count last j k [] tail same h rest =
        let all : n * n ≡ count = omega arith in
        subst (λ c. IsWhole f n few (Some (at_split c last j k)) tail) all (rest last j k)
    maps_whole count last j k (x ∷ xs) tail same h rest =
        whole-cons f n few (Some (at_split count last j k)) (map_line (count + 1) x) (map_lines (suc count) xs ++ tail)
        (map_right count last j k x (omega arith) (All-head (IsSquare K n) x xs h))
        (maps_whole (suc count) Map (count + 1) 0 xs tail (omega arith) (All-tail (IsSquare K n) x xs h) rest)

    pub row_below : (count : ℕ) → count < n * n → (count / n < n) × (count % n < n)
    row_below count below =
        let some : 0 < n = positive n below in
        ((div-lt_iff_lt-mul some).1 below, mod-lt count some)
      where
        positive : (h : ℕ) → count < h * h → 0 < h
        positive zero bound = absurd (omega arith)
        positive (suc h) bound = omega arith

    unit_right : (place : ℕ) (last : Word) (j k : ℕ) (a : List (Pair ℕ)) → place < n * n → IsTuple K (n * n) a
        → IsRight f n (Some (at_split (n * n + place) last j k)) (unit_line (place / n + 1) (place % n + 1) a)
    unfolding at_split
    unit_right place last j k a below h =
        let count = n * n + place in
        let inside = row_below place below in
        let row : place / n < n = inside.0 in
        let column : place % n < n = inside.1 in
        let least : n ≤ n * n = le_square n in
        record {
          form = record {
            number_count = refl;
            numbers = (
              number f n few (place / n + 1) (omega arith),
              (number f n few (place % n + 1) (omega arith), tt),
            );
            fraction_count = length-words f a ∙ h.right_length;
            fractions = word_forms f a h.of_elements;
            lists = tt;
          };
          due = due_next count (n * n) Map UnitTuple (up_to count (n * n + n * n) UnitTuple
              (end_at count (n * n + n * n))) (omega arith)
              (due_more count (n * n + n * n) UnitTuple (end_at count (n * n + n * n)) (omega arith));
          range = record {
            numbers = ((omega arith, omega arith), ((omega arith, omega arith), tt));
            elements = word_ranges f a h.of_elements;
          };
          order = unit_order place;
          terms = record { canonical = word_terms f a h.of_elements; allowed = tt };
        }
      where
        le_square : (h : ℕ) → h ≤ h * h
        le_square zero = omega arith
        le_square (suc h) = omega arith

        unit_order : (p : ℕ) → (p / n + 1 - 1) * n + (p % n + 1) + n * n ≡ n * n + p + 1
        unit_order p =
            let back : p / n + 1 - 1 ≡ p / n = omega arith in
            rw back (omega (arith, div-add-mod' p n))

    pub units_whole : (place : ℕ) (last : Word) (j k : ℕ) (xs : List (List (Pair ℕ))) → place + length xs ≡ n * n
        → All (IsTuple K (n * n)) xs
        → IsWhole f n few (Some (at_split (n * n + place) last j k)) (unit_lines n place xs ++ end_line ∷ [])
    unfolding at_split
    units_whole place last j k [] same h =
        let count = n * n + place in
        whole-cons f n few (Some (at_split count last j k)) end_line []
        (end_right f n few (at_split count last j k)
        (due_next count (n * n) Map End (up_to count (n * n + n * n) UnitTuple (end_at count (n * n + n * n)))
        (omega arith)
        (due_next count (n * n + n * n) UnitTuple End (end_at count (n * n + n * n)) (omega arith)
        (due_end count (n * n + n * n) (omega arith))))) (
          tt,
          λ w due.
              not_past (suc count) (n * n) Map w
              (up_to (suc count) (n * n + n * n) UnitTuple (end_at (suc count) (n * n + n * n))) (omega arith)
              (not_past (suc count) (n * n + n * n) UnitTuple w (end_at (suc count) (n * n + n * n)) (omega arith)
              (not_behind_end (suc count) (n * n + n * n) w (λ e. omega arith))) due,
        )
    units_whole place last j k (a ∷ xs) same h =
        let next : suc (n * n + place) ≡ n * n + suc place = omega arith in
        whole-cons f n few (Some (at_split (n * n + place) last j k)) (unit_line (place / n + 1) (place % n + 1) a)
        (unit_lines n (suc place) xs ++ end_line ∷ [])
        (unit_right place last j k a (omega arith) (All-head (IsTuple K (n * n)) a xs h))
        (subst (λ c. IsWhole f n few (Some (at_split c UnitTuple (place / n + 1) (place % n + 1)))
        (unit_lines n (suc place) xs ++ end_line ∷ [])) (sym next)
        (units_whole (suc place) UnitTuple (place / n + 1) (place % n + 1) xs (omega arith)
        (All-tail (IsTuple K (n * n)) a xs h)))
