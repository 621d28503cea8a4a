-- Multipliers of the two sides behind one another.
use Rattle.std.proofs.Common.{◌≡◌, ◌≢◌, ◌⊎◌, ℕ, zero, suc, ◌+◌, ◌*◌, ◌<◌, ◌≤◌, List, [], ◌∷◌, ◌++◌, length, get_or, map}
use Rattle.std.proofs.Common.{Some, refl, sym, ap, subst, ◌∙◌, inl, inr, arith, append_assoc, append-nil}
use Rattle.std.specs.Prelude.{Contains}
use Rattle.std.proofs.Math.Nat.{mul-le-mul_right}
use Rattle.std.proofs.lemmas.List.{length-append, map-append}
use Rattle.theory_rings.specs.Ops.{Ops, IsElem}
use Rattle.theory_fractions.specs.Fraction.{Pair}
use Rattle.theory_tables.specs.Claims.{AreMultipliers, PairBefore}
use Rattle.spl_field.specs.declared.small.SmallField.{SmallField}
use Rattle.spl_fraction.specs.FractionsOver.{fractions_over}
use Rattle.spl_fraction.specs.CanonicalWords.{words_of}
use Rattle.spl_evidence.specs.Line.{Line}
use Rattle.spl_evidence.specs.Evidence.{multiplier_line, end_line}
use Rattle.spl_evidence.specs.Refusal.{behind, due_sides, due_words, IsDue, NothingIsDue, zero_text, IsInOrder, IsRight}
use Rattle.spl_evidence.specs.Reading.{Reads, HasRoom}
use Rattle.spl_evidence.specs.declared.word.Word.{Word}
use Rattle.spl_evidence.specs.declared.word.Word.TheVariants.{NoIdentity, Left, Right, End}
use Rattle.spl_evidence.specs.declared.reader.Reader.{Reader}
use Rattle.spl_evidence.proofs.RightLines.DueWords.{none_of, third_of, second_of}
use Rattle.spl_evidence.proofs.RightLines.ElementWords.{zero_words}
use Rattle.spl_evidence.proofs.Readers.Passing.{Reads-none, Reads-append}
use Rattle.spl_evidence.proofs.Readers.LineSteps.{IsSide}
use Rattle.spl_evidence.proofs.Readers.Standing.{room_behind, line_right}
use Rattle.spl_evidence.proofs.Readers.SplitLoops.{square_small}
use Rattle.spl_evidence.proofs.Readers.Multipliers.{last_of, last-push, AreMultipliers-push, few_multipliers}

length-lines : {X Y : Type 0} (g : X → Y) (xs : List X) → length (map g xs) ≡ length xs
length-lines g [] = refl
length-lines g (x ∷ xs) = ap suc (length-lines g xs)

length-sides : {X Y : Type 0} (g h : X → Y) (xs ys : List X)
    → length (map g xs ++ map h ys) ≡ length xs + length ys
length-sides g h xs ys = omega (arith, length-append (map g xs) (map h ys), length-lines g xs, length-lines h ys)

-- behind a right multiplier no left one is due
no_left : Contains (Right ∷ End ∷ []) Left → ⊥
no_left h = at h.0 h.1 h.2
  where
    at : (i : ℕ) → i < 2 → get_or (Right ∷ End ∷ []) i Left ≡ Left → ⊥
    at zero below e = absurd cc
    at (suc zero) below e = absurd cc
    at (suc (suc i)) below e = absurd (omega arith)

-- a list with no item has no last one
no_last : {X : Type 0} (xs : List X) → xs ≡ [] → 0 < length xs → ⊥
no_last xs e some = let none : length xs ≡ 0 = ap length e in absurd (omega arith)

module _ (f : SmallField) (n : ℕ) where
  abbrev K : Ops (Pair ℕ)
  K = fractions_over f

  abbrev Item : Type 0
  Item = ℕ × ℕ × Pair ℕ

  abbrev pub side_lines : List Item → List Item → List Line
  side_lines left right = map (multiplier_line Left) left ++ map (multiplier_line Right) right

  abbrev EndsAt : List Item → ℕ → ℕ → Type 0
  EndsAt xs j k = ((last_of K (n * n) xs).0 ≡ j) × ((last_of K (n * n) xs).1 ≡ k)

  -- the last line is the first of all, or that of the last left multiplier, or that of the last right one
  abbrev IsLast : Word → List Item → List Item → ℕ → ℕ → Type 0
  IsLast w left right j k =
      ((w ≡ NoIdentity) × (left ≡ []) × (right ≡ []))
      ⊎ (((w ≡ Left) × EndsAt left j k × (right ≡ [])) ⊎ ((w ≡ Right) × EndsAt right j k))

  -- these multipliers were read
  pub record SidesRead (old : Reader) (left right : List Item) (new : Reader) : Type 0 where
    pub reads : Reads f n old (side_lines left right) new
    pub lefts : AreMultipliers K (n * n) left
    pub rights : AreMultipliers K (n * n) right
    pub last : Word
    pub j : ℕ
    pub k : ℕ
    pub is : new.before ≡ Some (record {
      kind = NoIdentity;
      tuples = 0;
      count = length left + length right;
      last = last;
      j = j;
      k = k;
    })
    pub ends : IsLast last left right j k

  no_multipliers : AreMultipliers K (n * n) []
  no_multipliers = record {
    first_low = λ s below. absurd (omega arith);
    first_high = λ s below. absurd (omega arith);
    second_low = λ s below. absurd (omega arith);
    second_high = λ s below. absurd (omega arith);
    of_field = λ s below. absurd (omega arith);
    nonzero = λ s below. absurd (omega arith);
    order = λ s t before below. absurd (omega arith);
  }

  pub SidesRead-none : (a : Reader) → a.before ≡ Some (record {
    kind = NoIdentity;
    tuples = 0;
    count = 0;
    last = NoIdentity;
    j = 0;
    k = 0;
  }) → SidesRead a [] [] a
  SidesRead-none a e = record {
    reads = Reads-none f n a;
    lefts = no_multipliers;
    rights = no_multipliers;
    last = NoIdentity;
    j = 0;
    k = 0;
    is = e;
    ends = inl (refl, refl, refl);
  }

  module _ (old : Reader) (left right : List Item) (a : Reader) (so_far : SidesRead old left right a) where
    -- the words that are due
    due_is : due_words (n * n) a.before ≡ due_sides so_far.last
    due_is = ap (due_words (n * n)) so_far.is

    pub sides_due : (w : Word) → IsDue (n * n) a.before w → (w ≡ Left) ⊎ (w ≡ Right) ⊎ (w ≡ End)
    sides_due w due = go so_far.ends (subst (λ ws. Contains ws w) due_is due)
      where
        three : Contains (Left ∷ Right ∷ End ∷ []) w → (w ≡ Left) ⊎ (w ≡ Right) ⊎ (w ≡ End)
        three h = at h.0 h.1 h.2
          where
            at : (i : ℕ) → i < 3 → get_or (Left ∷ Right ∷ End ∷ []) i w ≡ w → (w ≡ Left) ⊎ (w ≡ Right) ⊎ (w ≡ End)
            at zero below e = inl (sym e)
            at (suc zero) below e = inr (inl (sym e))
            at (suc (suc zero)) below e = inr (inr (sym e))
            at (suc (suc (suc i))) below e = absurd (omega arith)

        two : Contains (Right ∷ End ∷ []) w → (w ≡ Left) ⊎ (w ≡ Right) ⊎ (w ≡ End)
        two h = at h.0 h.1 h.2
          where
            at : (i : ℕ) → i < 2 → get_or (Right ∷ End ∷ []) i w ≡ w → (w ≡ Left) ⊎ (w ≡ Right) ⊎ (w ≡ End)
            at zero below e = inr (inl (sym e))
            at (suc zero) below e = inr (inr (sym e))
            at (suc (suc i)) below e = absurd (omega arith)

        go : IsLast so_far.last left right so_far.j so_far.k → Contains (due_sides so_far.last) w
            → (w ≡ Left) ⊎ (w ≡ Right) ⊎ (w ≡ End)
        go (inl e) h = three (subst (λ v. Contains (due_sides v) w) e.0 h)
        go (inr (inl e)) h = three (subst (λ v. Contains (due_sides v) w) e.0 h)
        go (inr (inr e)) h = two (subst (λ v. Contains (due_sides v) w) e.0 h)

    pub end_is_due : IsDue (n * n) a.before End
    end_is_due = subst (λ ws. Contains ws End) (sym due_is) (go so_far.ends)
      where
        go : IsLast so_far.last left right so_far.j so_far.k → Contains (due_sides so_far.last) End
        go (inl e) = subst (λ v. Contains (due_sides v) End) (sym e.0) (third_of Left Right End [])
        go (inr (inl e)) = subst (λ v. Contains (due_sides v) End) (sym e.0) (third_of Left Right End [])
        go (inr (inr e)) = subst (λ v. Contains (due_sides v) End) (sym e.0) (second_of Right End [])

    pub nothing_behind_end : (b : Reader) → Reads f n a (end_line ∷ []) b → NothingIsDue (n * n) b.before
    nothing_behind_end b p w due =
        none_of w (subst (λ z. Contains (due_words (n * n) z) w) (p.before ∙ ap (λ z. behind z end_line) so_far.is) due)

    pub sides_room : n ≤ 5 → old.number ≤ 4000000010 → HasRoom a
    sides_room small high =
        let m = square_small n small in
        let most : n * n * (n * n) ≤ 25 * (n * n) = mul-le-mul_right (n * n) m in
        let all : n * n * (n * n) ≤ 625 = omega (arith, most, m) in
        let few = few_multipliers K (n * n) left so_far.lefts in
        let fewer = few_multipliers K (n * n) right so_far.rights in
        let lines = length-sides (multiplier_line Left) (multiplier_line Right) left right in
        room_behind a NoIdentity 0 (length left + length right)
        (record { last = so_far.last; j = so_far.j; k = so_far.k; is = so_far.is })
        (omega (arith, so_far.reads.number, lines, few, fewer, all, high)) (omega (arith, few, fewer, all))

    -- ---- one multiplier more

    module _ (b : Reader) (w : Word) (j k : ℕ) (x : Pair ℕ) (p : Reads f n a (multiplier_line w (j, k, x) ∷ []) b)
        (elem : IsElem K x) where
      right_line : IsRight f n a.before (multiplier_line w (j, k, x))
      right_line = line_right f n a b (multiplier_line w (j, k, x)) p

      before_is : (count : ℕ) → suc (length left + length right) ≡ count → b.before ≡ Some (record {
        kind = NoIdentity;
        tuples = 0;
        count = count;
        last = w;
        j = j;
        k = k;
      })
      before_is count e =
          p.before ∙ ap (λ z. behind z (multiplier_line w (j, k, x))) so_far.is
          ∙ ap (λ i. Some (record { kind = NoIdentity; tuples = 0; count = i; last = w; j = j; k = k })) e

      order : IsInOrder n (Some (record {
        kind = NoIdentity;
        tuples = 0;
        count = length left + length right;
        last = so_far.last;
        j = so_far.j;
        k = so_far.k;
      })) (multiplier_line w (j, k, x))
      order = subst (λ z. IsInOrder n z (multiplier_line w (j, k, x))) so_far.is right_line.order

      due : Contains (due_sides so_far.last) w
      due = subst (λ ws. Contains ws w) due_is right_line.due

      nonzero_word : words_of x ∷ [] ≢ zero_text ∷ [] → x ≢ K.zero
      nonzero_word other e = other (ap (λ t. t ∷ []) (ap words_of e ∙ zero_words f))

    -- the last of a list that the pair follows
    follows : (xs : List Item) (j k : ℕ) → EndsAt xs so_far.j so_far.k → PairBefore so_far.j so_far.k j k
        → PairBefore (last_of K (n * n) xs).0 (last_of K (n * n) xs).1 j k
    follows xs j k e h =
        subst (λ i. PairBefore i (last_of K (n * n) xs).1 j k) (sym e.0)
        (subst (λ i. PairBefore so_far.j i j k) (sym e.1) h)

    ends_at : (xs : List Item) (x : Item) → EndsAt (xs ++ x ∷ []) x.0 x.1
    ends_at xs x = (ap (λ y. y.0) (last-push K (n * n) xs x), ap (λ y. y.1) (last-push K (n * n) xs x))

    pub SidesRead-left : (b : Reader) (j k : ℕ) (x : Pair ℕ) → Reads f n a (multiplier_line Left (j, k, x) ∷ []) b
        → IsElem K x → SidesRead old (left ++ (j, k, x) ∷ []) right b
    SidesRead-left b j k x p elem =
        let line = right_line b Left j k x p elem in
        let range = line.range.numbers in
        let count : suc (length left + length right) ≡ length (left ++ (j, k, x) ∷ []) + length right =
        omega (arith, length-append left ((j, k, x) ∷ [])) in
        let none = no_right so_far.ends (due b Left j k x p elem) in
        record {
          reads = subst (λ ls. Reads f n old ls b) (lines right none)
              (Reads-append f n old a b (side_lines left right) (multiplier_line Left (j, k, x) ∷ []) so_far.reads p);
          lefts = AreMultipliers-push K (n * n) left so_far.lefts (j, k, x) range.0 range.1.0 elem
              (nonzero_word b Left j k x p elem line.terms.allowed)
              (λ some. goes_up so_far.ends (due b Left j k x p elem) (order b Left j k x p elem) some);
          rights = so_far.rights;
          last = Left;
          j = j;
          k = k;
          is = before_is b Left j k x p elem (length (left ++ (j, k, x) ∷ []) + length right) count;
          ends = inr (inl (refl, ends_at left (j, k, x), none));
        }
      where
        no_right : IsLast so_far.last left right so_far.j so_far.k → Contains (due_sides so_far.last) Left → right ≡ []
        no_right (inl e) h = e.2
        no_right (inr (inl e)) h = e.2
        no_right (inr (inr e)) h = absurd (no_left (subst (λ v. Contains (due_sides v) Left) e.0 h))

        goes_up : IsLast so_far.last left right so_far.j so_far.k
            → Contains (due_sides so_far.last) Left → (so_far.last ≡ Left → PairBefore so_far.j so_far.k j k)
            → 0 < length left → PairBefore (last_of K (n * n) left).0 (last_of K (n * n) left).1 j k
        goes_up (inl e) d h some = absurd (no_last left e.1 some)
        goes_up (inr (inl e)) d h some = follows left j k e.1 (h e.0)
        goes_up (inr (inr e)) d h some = absurd (no_left (subst (λ v. Contains (due_sides v) Left) e.0 d))

        lines : (r : List Item) → r ≡ [] → side_lines left r ++ multiplier_line Left (j, k, x) ∷ []
            ≡ side_lines (left ++ (j, k, x) ∷ []) r
        lines [] e =
            ap (λ t. t ++ multiplier_line Left (j, k, x) ∷ []) (append-nil (map (multiplier_line Left) left))
            ∙ sym (map-append (multiplier_line Left) left ((j, k, x) ∷ []))
            ∙ sym (append-nil (map (multiplier_line Left) (left ++ (j, k, x) ∷ [])))
        lines (y ∷ r) e = absurd cc

    pub SidesRead-right : (b : Reader) (j k : ℕ) (x : Pair ℕ) → Reads f n a (multiplier_line Right (j, k, x) ∷ []) b
        → IsElem K x → SidesRead old left (right ++ (j, k, x) ∷ []) b
    SidesRead-right b j k x p elem =
        let line = right_line b Right j k x p elem in
        let range = line.range.numbers in
        let count : suc (length left + length right) ≡ length left + length (right ++ (j, k, x) ∷ []) =
        omega (arith, length-append right ((j, k, x) ∷ [])) in
        let lefts = map (multiplier_line Left) left in
        let rights = map (multiplier_line Right) right in
        let lines : side_lines left right ++ multiplier_line Right (j, k, x) ∷ []
        ≡ side_lines left (right ++ (j, k, x) ∷ []) =
        append_assoc lefts rights (multiplier_line Right (j, k, x) ∷ [])
        ∙ ap (λ t. lefts ++ t) (sym (map-append (multiplier_line Right) right ((j, k, x) ∷ []))) in
        record {
          reads = subst (λ ls. Reads f n old ls b) lines
              (Reads-append f n old a b (side_lines left right) (multiplier_line Right (j, k, x) ∷ []) so_far.reads p);
          lefts = so_far.lefts;
          rights = AreMultipliers-push K (n * n) right so_far.rights (j, k, x) range.0 range.1.0 elem
              (nonzero_word b Right j k x p elem line.terms.allowed)
              (λ some. goes_up so_far.ends (order b Right j k x p elem) some);
          last = Right;
          j = j;
          k = k;
          is = before_is b Right j k x p elem (length left + length (right ++ (j, k, x) ∷ [])) count;
          ends = inr (inr (refl, ends_at right (j, k, x)));
        }
      where
        goes_up : IsLast so_far.last left right so_far.j so_far.k
            → (so_far.last ≡ Right → PairBefore so_far.j so_far.k j k) → 0 < length right
            → PairBefore (last_of K (n * n) right).0 (last_of K (n * n) right).1 j k
        goes_up (inl e) h some = absurd (no_last right e.2 some)
        goes_up (inr (inl e)) h some = absurd (no_last right e.2 some)
        goes_up (inr (inr e)) h some = follows right j k e.1 (h e.0)

    -- the multiplier of either side
    pub SidesRead-push : (b : Reader) (w : Word) (j k : ℕ) (x : Pair ℕ) (l r : List Item)
        → Reads f n a (multiplier_line w (j, k, x) ∷ []) b → IsElem K x → IsSide w
        → (w ≡ Left → (l ≡ left ++ (j, k, x) ∷ []) × (r ≡ right))
        → (w ≢ Left → (l ≡ left) × (r ≡ right ++ (j, k, x) ∷ [])) → SidesRead old l r b
    SidesRead-push b w j k x l r p elem (inl e) h g =
        let same = h e in
        rw (same.0, same.1)
        (SidesRead-left b j k x (subst (λ v. Reads f n a (multiplier_line v (j, k, x) ∷ []) b) e p) elem)
    SidesRead-push b w j k x l r p elem (inr e) h g =
        let other : w ≢ Left = λ d. let both : Right ≡ Left = sym e ∙ d in absurd cc in
        let same = g other in
        rw (same.0, same.1)
        (SidesRead-right b j k x (subst (λ v. Reads f n a (multiplier_line v (j, k, x) ∷ []) b) e p) elem)
