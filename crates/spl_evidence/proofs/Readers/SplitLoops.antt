-- Matrices, and the tuples of matrix units, behind one another.
use Rattle.std.proofs.Common.{◌≡◌, ℕ, suc, ◌+◌, ◌-◌, ◌*◌, ◌/◌, ◌%◌, ◌<◌, ◌≤◌, List, [], ◌∷◌, ◌++◌, length, get_or, map}
use Rattle.std.proofs.Common.{refl, sym, ap, ap₂, subst, ◌∙◌, arith}
use Rattle.std.specs.List.{All, AllByRecursion, flat_map}
use Rattle.std.proofs.Math.Nat.{mul-le-mul_right}
use Rattle.std.proofs.lemmas.List.{length-append}
use Rattle.std.proofs.lemmas.List.Elements.{All-push}
use Rattle.std.proofs.lemmas.Nat.{div-mul-add, mod-mul-add}
use Rattle.theory_rings.specs.Ops.{Ops}
use Rattle.theory_spaces.specs.Tuples.{IsTuple}
use Rattle.theory_fractions.specs.Fraction.{Pair}
use Rattle.theory_tables.specs.Split.{IsSquare}
use Rattle.spl_field.specs.declared.small.SmallField.{SmallField}
use Rattle.spl_fraction.specs.FractionsOver.{fractions_over}
use Rattle.spl_fraction.specs.CanonicalWords.{words_of}
use Rattle.spl_evidence.specs.Line.{Line, number_count}
use Rattle.spl_evidence.specs.Evidence.{map_line, map_lines, unit_line, unit_lines}
use Rattle.spl_evidence.specs.Refusal.{greatest, due_words, IsInOrder}
use Rattle.spl_evidence.specs.Reading.{Reads, StandsBehind, HasRoom}
use Rattle.spl_evidence.specs.declared.word.Word.TheVariants.{Split, Map, Unit as UnitTuple}
use Rattle.spl_evidence.specs.declared.reader.Reader.{Reader}
use Rattle.spl_evidence.proofs.Spellings.{map_lines-push, unit_lines-push}
use Rattle.spl_evidence.proofs.Readers.Passing.{Reads-append}
use Rattle.spl_evidence.proofs.Readers.LineSteps.{line_is, only_due, two_items, one_item}
use Rattle.spl_evidence.proofs.Readers.Standing.{room_behind, stands_next, line_right, map_in_split, unit_in_split}

pub length-maps : (count : ℕ) (xs : List (List (List (Pair ℕ)))) → length (map_lines count xs) ≡ length xs
length-maps count [] = refl
length-maps count (x ∷ xs) = ap suc (length-maps (suc count) xs)

pub length-units : (n count : ℕ) (xs : List (List (Pair ℕ))) → length (unit_lines n count xs) ≡ length xs
length-units n count [] = refl
length-units n count (x ∷ xs) = ap suc (length-units n (suc count) xs)

pub square_small : (n : ℕ) → n ≤ 5 → n * n ≤ 25
square_small n small = omega (arith, mul-le-mul_right n small)

module _ (f : SmallField) (n : ℕ) where
  abbrev K : Ops (Pair ℕ)
  K = fractions_over f

  -- ---- matrices

  map_line_is : (a b : Reader) (l : Line) (count : ℕ) (x : List (List (Pair ℕ))) → StandsBehind Split 0 count a.before
      → count < n * n → Reads f n a (l ∷ []) b → l.fractions ≡ map words_of (flat_map (λ row. row) x)
      → l ≡ map_line (count + 1) x
  map_line_is a b l count x stands below p words =
      let right = line_right f n a b l p in
      let due = map_in_split (n * n) count a.before stands below in
      let word : l.word ≡ Map = only_due (due_words (n * n) a.before) Map l.word due right.due in
      let number = get_or l.numbers 0 0 in
      let shape : l ≡ map_line number x = line_is l Map (number ∷ []) (map words_of (flat_map (λ row. row) x)) word
      (one_item l.numbers (right.form.number_count ∙ ap number_count word)) words in
      let at_before : IsInOrder n a.before (map_line number x) = subst (IsInOrder n a.before) shape right.order in
      let next : number ≡ count + 1 = subst (λ z. IsInOrder n z (map_line number x)) stands.is at_before in
      shape ∙ ap (λ i. map_line i x) next

  -- so many matrices were read
  pub record MapsRead (old : Reader) (count : ℕ) (xs : List (List (List (Pair ℕ)))) (new : Reader) : Type 0 where
    pub many : length xs ≡ count
    pub squares : All (IsSquare K n) xs
    pub reads : Reads f n old (map_lines 0 xs) new
    pub stands : StandsBehind Split 0 count new.before

  module _ (old : Reader) (count : ℕ) (xs : List (List (List (Pair ℕ)))) (a : Reader)
      (so_far : MapsRead old count xs a) where
    pub maps_number : a.number ≡ old.number + count
    maps_number = so_far.reads.number ∙ ap (λ k. old.number + k) (length-maps 0 xs ∙ so_far.many)

    pub maps_room : old.number + count < 4294967295 → HasRoom a
    maps_room high =
        room_behind a Split 0 count so_far.stands (omega (arith, maps_number, high)) (omega (arith, high))

    pub MapsRead-push : count < n * n → (b : Reader) (x : List (List (Pair ℕ))) → IsSquare K n x
        → (l : Line) × Reads f n a (l ∷ []) b × (l.fractions ≡ map words_of (flat_map (λ row. row) x))
        → MapsRead old (count + 1) (xs ++ x ∷ []) b
    MapsRead-push below b x square (l, p, words) =
        let at : count + 1 ≡ 0 + length xs + 1 = omega (arith, so_far.many) in
        let is : l ≡ map_line (0 + length xs + 1) x =
        map_line_is a b l count x so_far.stands below p words ∙ ap (λ i. map_line i x) at in
        let one : Reads f n a (map_line (0 + length xs + 1) x ∷ []) b = subst (λ k. Reads f n a (k ∷ []) b) is p in
        record {
          many = omega (arith, length-append xs (x ∷ []), so_far.many);
          squares = All-push (IsSquare K n) xs x so_far.squares square;
          reads = subst (λ ls. Reads f n old ls b) (sym (map_lines-push 0 xs x))
              (Reads-append f n old a b (map_lines 0 xs) (map_line (0 + length xs + 1) x ∷ []) so_far.reads one);
          stands = stands_next f n Split 0 count a b l so_far.stands p;
        }

  -- ---- unit tuples

  place_of : (r s place : ℕ) → 1 ≤ r → 1 ≤ s → s ≤ n → (r - 1) * n + s + n * n ≡ n * n + place + 1
      → (r ≡ place / n + 1) × (s ≡ place % n + 1)
  place_of r s place low least most e =
      let at : (r - 1) * n + (s - 1) ≡ place = omega (arith, e, least) in
      let inside : s - 1 < n = omega (arith, least, most) in
      let row : place / n ≡ r - 1 = subst (λ p. p / n ≡ r - 1) at (div-mul-add (r - 1) n (s - 1) inside) in
      let column : place % n ≡ s - 1 = subst (λ p. p % n ≡ s - 1) at (mod-mul-add (r - 1) n (s - 1) inside) in
      (omega (arith, row, low), omega (arith, column, least))

  unit_line_is : (a b : Reader) (l : Line) (place : ℕ) (t : List (Pair ℕ))
      → StandsBehind Split 0 (n * n + place) a.before → place < n * n → Reads f n a (l ∷ []) b
      → l.fractions ≡ map words_of t → l ≡ unit_line (place / n + 1) (place % n + 1) t
  unit_line_is a b l place t stands below p words =
      let right = line_right f n a b l p in
      let due = unit_in_split (n * n) (n * n + place) a.before stands (omega arith) (omega (arith, below)) in
      let word : l.word ≡ UnitTuple = only_due (due_words (n * n) a.before) UnitTuple l.word due right.due in
      let r = get_or l.numbers 0 0 in
      let s = get_or l.numbers 1 0 in
      let numbers : l.numbers ≡ r ∷ s ∷ [] =
      two_items l.numbers (right.form.number_count ∙ ap number_count word) in
      let shape : l ≡ unit_line r s t = line_is l UnitTuple (r ∷ s ∷ []) (map words_of t) word numbers words in
      let at_before : IsInOrder n a.before (unit_line r s t) = subst (IsInOrder n a.before) shape right.order in
      let next : (r - 1) * n + s + n * n ≡ n * n + place + 1 =
      subst (λ z. IsInOrder n z (unit_line r s t)) stands.is at_before in
      let range : AllByRecursion (λ i. (1 ≤ i) × (i ≤ greatest n UnitTuple)) (r ∷ s ∷ []) =
      subst (λ w. AllByRecursion (λ i. (1 ≤ i) × (i ≤ greatest n w)) (r ∷ s ∷ [])) word
      (subst (AllByRecursion (λ i. (1 ≤ i) × (i ≤ greatest n l.word))) numbers right.range.numbers) in
      let at = place_of r s place range.0.0 range.1.0.0 range.1.0.1 next in
      shape ∙ ap₂ (λ i j. unit_line i j t) at.0 at.1

  -- so many unit tuples were read
  pub record UnitsRead (old : Reader) (place : ℕ) (xs : List (List (Pair ℕ))) (new : Reader) : Type 0 where
    pub many : length xs ≡ place
    pub tuples : All (IsTuple K (n * n)) xs
    pub reads : Reads f n old (unit_lines n 0 xs) new
    pub stands : StandsBehind Split 0 (n * n + place) new.before

  module _ (old : Reader) (place : ℕ) (xs : List (List (Pair ℕ))) (a : Reader)
      (so_far : UnitsRead old place xs a) where
    pub units_number : a.number ≡ old.number + place
    units_number = so_far.reads.number ∙ ap (λ k. old.number + k) (length-units n 0 xs ∙ so_far.many)

    pub units_room : old.number + place < 4294967295 → n * n + place < 4294967295 → HasRoom a
    units_room high few =
        room_behind a Split 0 (n * n + place) so_far.stands (omega (arith, units_number, high)) few

    pub UnitsRead-push : place < n * n → (b : Reader) (t : List (Pair ℕ)) → IsTuple K (n * n) t
        → (l : Line) × Reads f n a (l ∷ []) b × (l.fractions ≡ map words_of t)
        → UnitsRead old (place + 1) (xs ++ t ∷ []) b
    UnitsRead-push below b t tuple (l, p, words) =
        let at : place ≡ 0 + length xs = omega (arith, so_far.many) in
        let line = unit_line ((0 + length xs) / n + 1) ((0 + length xs) % n + 1) t in
        let is : l ≡ line = unit_line_is a b l place t so_far.stands below p words
        ∙ ap (λ i. unit_line (i / n + 1) (i % n + 1) t) at in
        let one : Reads f n a (line ∷ []) b = subst (λ k. Reads f n a (k ∷ []) b) is p in
        let more : n * n + place + 1 ≡ n * n + (place + 1) = omega arith in
        record {
          many = omega (arith, length-append xs (t ∷ []), so_far.many);
          tuples = All-push (IsTuple K (n * n)) xs t so_far.tuples tuple;
          reads = subst (λ ls. Reads f n old ls b) (sym (unit_lines-push n 0 xs t))
              (Reads-append f n old a b (unit_lines n 0 xs) (line ∷ []) so_far.reads one);
          stands = subst (λ count. StandsBehind Split 0 count b.before) more
              (stands_next f n Split 0 (n * n + place) a b l so_far.stands p);
        }
