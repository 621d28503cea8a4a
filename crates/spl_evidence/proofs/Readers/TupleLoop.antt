-- Tuples behind one another.
use Rattle.std.proofs.Common.{◌≡◌, ℕ, ◌+◌, ◌*◌, ◌<◌, List, [], ◌∷◌, ◌++◌, length, map, Option, refl, sym, ap}
use Rattle.std.proofs.Common.{subst, ◌∙◌, arith}
use Rattle.std.specs.List.{All}
use Rattle.std.proofs.lemmas.List.{length-append, length-map, map-append}
use Rattle.std.proofs.lemmas.List.Elements.{All-push}
use Rattle.theory_rings.specs.Ops.{Ops}
use Rattle.theory_spaces.specs.Tuples.{IsTuple}
use Rattle.theory_fractions.specs.Fraction.{Pair}
use Rattle.spl_field.specs.declared.small.SmallField.{SmallField}
use Rattle.spl_fraction.specs.FractionsOver.{fractions_over}
use Rattle.spl_fraction.specs.CanonicalWords.{words_of}
use Rattle.spl_evidence.specs.Line.{Line, number_count}
use Rattle.spl_fraction.specs.declared.place.Place.{Place}
use Rattle.spl_evidence.specs.Evidence.{fractions_line, place_line}
use Rattle.spl_evidence.specs.Refusal.{due_words, behind_all}
use Rattle.spl_evidence.specs.Reading.{Reads, StandsBehind, HasRoom, HasRoomFor, AreDue}
use Rattle.spl_evidence.specs.declared.word.Word.{Word}
use Rattle.spl_evidence.specs.declared.word.Word.TheVariants.{Ideal, Tuple, Order, Radical}
use Rattle.spl_evidence.specs.declared.word.Before.{Before}
use Rattle.spl_evidence.specs.declared.reader.Reader.{Reader}
use Rattle.spl_evidence.proofs.Readers.Passing.{Reads-none, Reads-append}
use Rattle.spl_evidence.proofs.Readers.LineSteps.{no_items, line_is, only_due}
use Rattle.spl_evidence.proofs.Readers.Standing.{stands_after, room_after, line_right, tuple_in_ideal, order_at_place}
use Rattle.spl_evidence.proofs.Readers.Standing.{radical_at_place}

module _ (f : SmallField) (n : ℕ) where
  abbrev K : Ops (Pair ℕ)
  K = fractions_over f

  -- so many lines of the word were read
  pub record TuplesRead (w : Word) (old : Reader) (count : ℕ) (xs : List (List (Pair ℕ))) (new : Reader) : Type 0 where
    pub many : length xs ≡ count
    pub tuples : All (IsTuple K (n * n)) xs
    pub reads : Reads f n old (map (fractions_line w) xs) new

  pub TuplesRead-none : (w : Word) (old : Reader) → TuplesRead w old 0 [] old
  TuplesRead-none w old = record {
    many = refl;
    tuples = λ k d below. absurd (omega arith);
    reads = Reads-none f n old;
  }

  module _ (w : Word) (no_numbers : number_count w ≡ 0) where
    -- a line of the word, where no other is due
    tuple_line_is : (a b : Reader) (l : Line) (t : List (Pair ℕ)) → due_words (n * n) a.before ≡ w ∷ []
        → Reads f n a (l ∷ []) b → l.fractions ≡ map words_of t → l ≡ fractions_line w t
    tuple_line_is a b l t due p words =
        let right = line_right f n a b l p in
        let word : l.word ≡ w = only_due (due_words (n * n) a.before) w l.word due right.due in
        line_is l w [] (map words_of t) word
        (no_items l.numbers (right.form.number_count ∙ ap number_count word ∙ no_numbers)) words

    module _ (old : Reader) (most count : ℕ) (xs : List (List (Pair ℕ))) (a : Reader)
        (so_far : TuplesRead w old count xs a) (below : count < most) where
      few : length (map (fractions_line w) xs) < most
      few = omega (arith, length-map xs (fractions_line w), so_far.many, below)

      pub tuples_room : HasRoomFor most old → HasRoom a
      tuples_room room = room_after f n old a (map (fractions_line w) xs) most room so_far.reads few

      pub tuples_due : AreDue f n w most old.before → due_words (n * n) a.before ≡ w ∷ []
      tuples_due due = ap (due_words (n * n)) so_far.reads.before ∙ due (map (fractions_line w) xs) few

      pub TuplesRead-push : AreDue f n w most old.before → (b : Reader) (t : List (Pair ℕ)) → IsTuple K (n * n) t
          → (l : Line) × Reads f n a (l ∷ []) b × (l.fractions ≡ map words_of t)
          → TuplesRead w old (count + 1) (xs ++ t ∷ []) b
      TuplesRead-push due b t tuple (l, p, words) =
          let one : Reads f n a (fractions_line w t ∷ []) b =
          subst (λ k. Reads f n a (k ∷ []) b) (tuple_line_is a b l t (tuples_due due) p words) p in
          record {
            many = omega (arith, length-append xs (t ∷ []), so_far.many);
            tuples = All-push (IsTuple K (n * n)) xs t so_far.tuples tuple;
            reads = subst (λ ls. Reads f n old ls b) (sym (map-append (fractions_line w) xs (t ∷ [])))
                (Reads-append f n old a b (map (fractions_line w) xs) (fractions_line w t ∷ []) so_far.reads one);
          }

  -- ---- behind the line of an ideal

  pub ideal_due : (count : ℕ) (before : Option Before) → StandsBehind Ideal count 0 before
      → AreDue f n Tuple count before
  ideal_due count before s ls below =
      tuple_in_ideal (n * n) count (0 + length ls) (behind_all f n before ls)
      (stands_after f n Ideal count 0 before ls s) (omega (arith, below))

  -- behind lines of tuples
  pub stands_behind_tuples : (w kind : Word) (tuples first all : ℕ) (a b : Reader) (xs : List (List (Pair ℕ)))
      → StandsBehind kind tuples first a.before → Reads f n a (map (fractions_line w) xs) b → first + length xs ≡ all
      → StandsBehind kind tuples all b.before
  stands_behind_tuples w kind tuples first all a b xs s reads many =
      subst (StandsBehind kind tuples all) (sym reads.before)
      (subst (λ i. StandsBehind kind tuples i (behind_all f n a.before (map (fractions_line w) xs)))
      (ap (λ i. first + i) (length-map xs (fractions_line w)) ∙ many)
      (stands_after f n kind tuples first a.before (map (fractions_line w) xs) s))

  pub number_behind_tuples : (w : Word) (count : ℕ) (a b : Reader) (xs : List (List (Pair ℕ)))
      → Reads f n a (map (fractions_line w) xs) b → length xs ≡ count → b.number ≡ a.number + count
  number_behind_tuples w count a b xs reads many =
      reads.number ∙ ap (λ i. a.number + i) (length-map xs (fractions_line w) ∙ many)

  -- ---- behind the line of a place

  pub order_due : (place : Place) (before : Option Before) → StandsBehind (place_line place).word 0 0 before
      → AreDue f n Order (n * n) before
  order_due place before s ls below =
      order_at_place (n * n) place (0 + length ls) (behind_all f n before ls)
      (stands_after f n (place_line place).word 0 0 before ls s) (omega (arith, below))

  pub radical_due : (place : Place) (before : Option Before)
      → StandsBehind (place_line place).word 0 (n * n) before → AreDue f n Radical (n * n) before
  radical_due place before s ls below =
      radical_at_place (n * n) place (n * n + length ls) (behind_all f n before ls)
      (stands_after f n (place_line place).word 0 (n * n) before ls s) (omega arith) (omega (arith, below))
