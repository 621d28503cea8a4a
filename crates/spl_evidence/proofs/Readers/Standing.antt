-- Where a reader stands behind the line of a kind: what is due there, and that one line more can be counted.
use Rattle.std.proofs.Common.{◌≡◌, ℕ, suc, ◌+◌, ◌<◌, ◌≤◌, cond, List, [], ◌∷◌, length, Option, Some, None}
use Rattle.std.proofs.Common.{refl, sym, ap, subst, ◌∙◌, arith}
use Rattle.std.specs.Prelude.{Contains}
use Rattle.std.proofs.lemmas.Bool.{lt-ltb, le-ltb, eq-eqb}
use Rattle.spl_fraction.specs.declared.place.Place.{Place}
use Rattle.spl_fraction.specs.declared.place.Place.TheVariants.{Finite, Infinity}
use Rattle.spl_field.specs.declared.small.SmallField.{SmallField}
use Rattle.spl_evidence.specs.Line.{Line}
use Rattle.spl_evidence.specs.Evidence.{place_line, end_line}
use Rattle.spl_evidence.specs.Refusal.{number_at, behind, behind_all, due_words, due_at_place, up_to, end_at}
use Rattle.spl_evidence.specs.Refusal.{IsDue, NothingIsDue, IsRight}
use Rattle.spl_evidence.specs.Reading.{Reads, StandsBehind, HasRoom, HasRoomFor}
use Rattle.spl_evidence.specs.declared.word.Word.{Word}
use Rattle.spl_evidence.specs.declared.word.Word.TheVariants.{Ideal, Split, Tuple, Map, Unit as UnitTuple}
use Rattle.spl_evidence.specs.declared.word.Word.TheVariants.{Order, Radical, End}
use Rattle.spl_evidence.specs.declared.word.Before.{Before}
use Rattle.spl_evidence.specs.declared.reader.Reader.{Reader}
use Rattle.spl_evidence.proofs.RightLines.DueWords.{not_past, not_behind_end}

abbrev count_of : Option Before → ℕ
count_of None = 0
count_of (Some b) = b.count

pub room_behind : (r : Reader) (kind : Word) (tuples count : ℕ) → StandsBehind kind tuples count r.before
    → r.number < 4294967295 → count < 4294967295 → HasRoom r
room_behind r kind tuples count s high few = record {
  number = high;
  count = λ b e.
      let same : count ≡ b.count = ap count_of (sym s.is ∙ e) in
      subst (λ k. k < 4294967295) same few;
}

pub StandsBehind-next : (kind : Word) (tuples count : ℕ) (before next : Option Before) (l : Line)
    → StandsBehind kind tuples count before → next ≡ behind before l → StandsBehind kind tuples (count + 1) next
StandsBehind-next kind tuples count before next l s e = record {
  last = l.word;
  j = number_at l 0;
  k = number_at l 1;
  is = e ∙ ap (λ b. behind b l) s.is
      ∙ ap (λ i. Some (record {
        kind = kind;
        tuples = tuples;
        count = i;
        last = l.word;
        j = number_at l 0;
        k = number_at l 1;
      })) one_more;
}
  where
    one_more : suc count ≡ count + 1
    one_more = omega arith

-- a reader that passed lines
pub stands_after : (f : SmallField) (n : ℕ) (kind : Word) (tuples count : ℕ) (before : Option Before) (ls : List Line)
    → StandsBehind kind tuples count before → StandsBehind kind tuples (count + length ls) (behind_all f n before ls)
stands_after f n kind tuples count before [] s =
    let e : count ≡ count + 0 = omega arith in subst (λ i. StandsBehind kind tuples i before) e s
stands_after f n kind tuples count before (l ∷ ls) s =
    let e : count + 1 + length ls ≡ count + suc (length ls) = omega arith in
    subst (λ i. StandsBehind kind tuples i (behind_all f n before (l ∷ ls))) e
    (stands_after f n kind tuples (count + 1) (behind before l) ls
    (StandsBehind-next kind tuples count before (behind before l) l s refl))

-- one more is counted with each line
count_behind : (before : Option Before) (l : Line) → count_of (behind before l) ≤ count_of before + 1
count_behind None l = omega arith
count_behind (Some b) l = omega arith

count_after : (f : SmallField) (n : ℕ) (before : Option Before) (ls : List Line)
    → count_of (behind_all f n before ls) ≤ count_of before + length ls
count_after f n before [] = omega arith
count_after f n before (l ∷ ls) = omega (arith, count_behind before l, count_after f n (behind before l) ls)

pub room_for : (r : Reader) (kind : Word) (tuples count lines : ℕ) → StandsBehind kind tuples count r.before
    → r.number + lines ≤ 4294967295 → count + lines ≤ 4294967295 → HasRoomFor lines r
room_for r kind tuples count lines s high few = record {
  number = high;
  count = λ b e.
      let same : count ≡ b.count = ap count_of (sym s.is ∙ e) in
      subst (λ k. k + lines ≤ 4294967295) same few;
}

-- a reader that passed some of so many lines
pub room_after : (f : SmallField) (n : ℕ) (a b : Reader) (ls : List Line) (lines : ℕ) → HasRoomFor lines a
    → Reads f n a ls b → length ls < lines → HasRoom b
room_after f n a b ls lines room reads below = record {
  number = omega (arith, room.number, reads.number, below);
  count = λ c e.
      let same : c.count ≡ count_of (behind_all f n a.before ls) = ap count_of (sym e ∙ reads.before) in
      omega (arith, same, count_after f n a.before ls, few a.before refl, below);
}
  where
    few : (before : Option Before) → a.before ≡ before → count_of before + lines ≤ 4294967295
    few None e = omega (arith, room.number)
    few (Some c) e = room.count c e

-- a reader that passed one line
pub stands_next : (f : SmallField) (n : ℕ) (kind : Word) (tuples count : ℕ) (a b : Reader) (l : Line)
    → StandsBehind kind tuples count a.before → Reads f n a (l ∷ []) b
    → StandsBehind kind tuples (count + 1) b.before
stands_next f n kind tuples count a b l s p = StandsBehind-next kind tuples count a.before b.before l s p.before

pub line_right : (f : SmallField) (n : ℕ) (a b : Reader) (l : Line) → Reads f n a (l ∷ []) b
    → IsRight f n a.before l
line_right f n a b l p = p.right.0

module _ (m : ℕ) where
  -- ---- among the tuples of an ideal

  pub tuple_in_ideal : (tuples count : ℕ) (before : Option Before) → StandsBehind Ideal tuples count before
      → count < tuples → due_words m before ≡ Tuple ∷ []
  tuple_in_ideal tuples count before s below =
      ap (due_words m) s.is ∙ ap (λ b. cond b (Tuple ∷ []) (end_at count tuples)) (lt-ltb count tuples below)

  pub end_in_ideal : (tuples : ℕ) (before : Option Before) → StandsBehind Ideal tuples tuples before
      → due_words m before ≡ End ∷ []
  end_in_ideal tuples before s =
      ap (due_words m) s.is
      ∙ ap (λ b. cond b (Tuple ∷ []) (end_at tuples tuples)) (le-ltb tuples tuples (omega arith))
      ∙ ap (λ b. cond b (End ∷ []) []) (eq-eqb tuples tuples refl)

  pub nothing_behind_ideal : (tuples : ℕ) (before : Option Before) → StandsBehind Ideal tuples tuples before
      → NothingIsDue m (behind before end_line)
  nothing_behind_ideal tuples before s w due =
      not_past (suc tuples) tuples Tuple w (end_at (suc tuples) tuples) (omega arith)
      (not_behind_end (suc tuples) tuples w (λ e. omega arith))
      (subst (λ b. IsDue m (behind b end_line) w) s.is due)

  -- ---- among the tuples of a place

  due_behind_place : (place : Place) (count : ℕ) (before : Option Before)
      → StandsBehind (place_line place).word 0 count before → due_words m before ≡ due_at_place m count
  due_behind_place (Finite p) count before s = ap (due_words m) s.is
  due_behind_place Infinity count before s = ap (due_words m) s.is

  pub order_at_place : (place : Place) (count : ℕ) (before : Option Before)
      → StandsBehind (place_line place).word 0 count before → count < m → due_words m before ≡ Order ∷ []
  order_at_place place count before s below =
      due_behind_place place count before s
      ∙ ap (λ b. cond b (Order ∷ []) (up_to count (m + m) Radical (end_at count (m + m)))) (lt-ltb count m below)

  pub radical_at_place : (place : Place) (count : ℕ) (before : Option Before)
      → StandsBehind (place_line place).word 0 count before → m ≤ count → count < m + m
      → due_words m before ≡ Radical ∷ []
  radical_at_place place count before s past below =
      due_behind_place place count before s
      ∙ ap (λ b. cond b (Order ∷ []) (up_to count (m + m) Radical (end_at count (m + m)))) (le-ltb count m past)
      ∙ ap (λ b. cond b (Radical ∷ []) (end_at count (m + m))) (lt-ltb count (m + m) below)

  pub end_at_place : (place : Place) (before : Option Before) → StandsBehind (place_line place).word 0 (m + m) before
      → due_words m before ≡ End ∷ []
  end_at_place place before s =
      let count = m + m in
      due_behind_place place count before s
      ∙ ap (λ b. cond b (Order ∷ []) (up_to count count Radical (end_at count count))) (le-ltb count m (omega arith))
      ∙ ap (λ b. cond b (Radical ∷ []) (end_at count count)) (le-ltb count count (omega arith))
      ∙ ap (λ b. cond b (End ∷ []) []) (eq-eqb count count refl)

  pub nothing_behind_place : (place : Place) (before : Option Before)
      → StandsBehind (place_line place).word 0 (m + m) before → NothingIsDue m (behind before end_line)
  nothing_behind_place place before s w due =
      let count = m + m + 1 in
      let next = StandsBehind-next (place_line place).word 0 (m + m) before (behind before end_line) end_line s refl in
      not_past count m Order w (up_to count (m + m) Radical (end_at count (m + m))) (omega arith)
      (not_past count (m + m) Radical w (end_at count (m + m)) (omega arith)
      (not_behind_end count (m + m) w (λ e. omega arith)))
      (subst (λ ws. Contains ws w) (due_behind_place place count (behind before end_line) next) due)

  -- ---- among the matrices and unit tuples

  pub map_in_split : (count : ℕ) (before : Option Before) → StandsBehind Split 0 count before → count < m
      → due_words m before ≡ Map ∷ []
  map_in_split count before s below =
      ap (due_words m) s.is
      ∙ ap (λ b. cond b (Map ∷ []) (up_to count (m + m) UnitTuple (end_at count (m + m)))) (lt-ltb count m below)

  pub unit_in_split : (count : ℕ) (before : Option Before) → StandsBehind Split 0 count before → m ≤ count
      → count < m + m → due_words m before ≡ UnitTuple ∷ []
  unit_in_split count before s past below =
      ap (due_words m) s.is
      ∙ ap (λ b. cond b (Map ∷ []) (up_to count (m + m) UnitTuple (end_at count (m + m)))) (le-ltb count m past)
      ∙ ap (λ b. cond b (UnitTuple ∷ []) (end_at count (m + m))) (lt-ltb count (m + m) below)
