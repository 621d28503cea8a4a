-- Filling the places of the constants, one entry after the other.
use Rattle.std.proofs.Common.{◌≡◌, ◌≢◌, ℕ, zero, suc, ◌+◌, ◌-◌, ◌*◌, ◌<◌, ◌≤◌, ◌==◌, ◌&&◌, Bool, true, false, cond, eqb}
use Rattle.std.proofs.Common.{List, [], ◌∷◌, ◌++◌, length, replicate, Option, Some, None, refl, sym, ap, subst}
use Rattle.std.proofs.Common.{◌∙◌, inl, inr, append_assoc, append-nil, arith}
use Rattle.std.specs.Prelude.{codes}
use Rattle.std.specs.List.{flat_map}
use Rattle.std.proofs.Math.Nat.{mul-le-mul}
use Rattle.std.proofs.lemmas.Bool.{eqb-true, eq-eqb, and_parts, cases_lt, false_from_ne_true}
use Rattle.std.proofs.lemmas.List.{length-append, get_or_append_left, get_or-append_right, get_or-replicate}
use Rattle.std.proofs.lemmas.List.{length-replicate, get_or_at}
use Rattle.std.proofs.lemmas.List.Concat.{flat_map-append}
use Rattle.theory_rings.specs.Ops.{Ops}
use Rattle.spl_text.specs.Text.{line}
use Rattle.theory_fractions.specs.Fraction.{Pair}
use Rattle.spl_table.specs.TableText.{Entry, Head, entry_line, dimension_of, constant_at, IsInRange, IsRightEntry}
use Rattle.spl_table.specs.TableText.{AreRightEntries}
use Rattle.spl_table.specs.Refusal.{last_of, LineFault}
use Rattle.spl_table.specs.Table.{IsConstant}
use Rattle.spl_table.specs.Reading.{IfRefused, entry_text, place, place_of, IsPrevious, Fills, SoFar, AreEntries}
use Rattle.spl_table.specs.Reading.{IsFaultAfter}
use Rattle.spl_table.specs.declared.refusal.Kind.{Kind}
use Rattle.spl_table.specs.declared.refusal.TableFault.{TableFault}
use Rattle.spl_table.specs.declared.refusal.TableFault.TheVariants.{Refused, Memory}
use Rattle.spl_table.proofs.Places.{place-lt, place_of-lt, place_injective, after_next}

pub length_push : {X : Type 0} (xs : List X) (x : X) (new : List X) → new ≡ xs ++ x ∷ [] → length new ≡ length xs + 1
length_push xs x new e = ap length e ∙ omega (arith, length-append xs (x ∷ []))

replicate-push : {X : Type 0} (n : ℕ) (z : X) → replicate n z ++ z ∷ [] ≡ replicate (suc n) z
replicate-push zero z = refl
replicate-push (suc n) z = ap (λ t. z ∷ t) (replicate-push n z)

-- one zero more
pub zeros_more : {X : Type 0} (old items new : List X) (z x : X)
    → items ≡ old ++ replicate (length items - length old) z → length old ≤ length items → x ≡ z → new ≡ items ++ x ∷ []
    → new ≡ old ++ replicate (length new - length old) z
zeros_more old items new z x is more same push =
    let longer = length_push items x new push in
    let count : suc (length items - length old) ≡ length new - length old = omega arith in
    push ∙ ap (λ y. items ++ y ∷ []) same ∙ ap (λ t. t ++ z ∷ []) is
    ∙ append_assoc old (replicate (length items - length old) z) (z ∷ [])
    ∙ ap (λ t. old ++ t) (replicate-push (length items - length old) z ∙ ap (λ n. replicate n z) count)

-- ---- the constants of entries

-- the entry has this triple
abbrev names : Entry → ℕ → ℕ → ℕ → Bool
names e i j k = (e.i == i) && (e.j == j) && (e.k == k)

names_parts : (e : Entry) (i j k : ℕ) → names e i j k ≡ true → (e.i ≡ i) × (e.j ≡ j) × (e.k ≡ k)
names_parts e i j k h =
    let a = and_parts (eqb e.i i && eqb e.j j) (eqb e.k k) h in
    let b = and_parts (eqb e.i i) (eqb e.j j) a.0 in
    (eqb-true _ _ b.0, eqb-true _ _ b.1, eqb-true _ _ a.1)

names_own : (e : Entry) (i j k : ℕ) → e.i ≡ i → e.j ≡ j → e.k ≡ k → names e i j k ≡ true
names_own e i j k a b c = rw (eq-eqb e.i i a, eq-eqb e.j j b, eq-eqb e.k k c) refl

-- another entry at the end gives its triple its value, where no entry before had the triple
constant_at-push : (es : List Entry) (e : Entry) (i j k : ℕ) → names e i j k ≡ true → constant_at es i j k ≡ None
    → constant_at (es ++ e ∷ []) i j k ≡ Some e.value
constant_at-push [] e i j k here none = rw here refl
constant_at-push (f ∷ es) e i j k here none = go (names f i j k) none (constant_at-push es e i j k here)
  where
    go : (b : Bool) → cond b (Some f.value) (constant_at es i j k) ≡ None
        → (constant_at es i j k ≡ None → constant_at (es ++ e ∷ []) i j k ≡ Some e.value)
        → cond b (Some f.value) (constant_at (es ++ e ∷ []) i j k) ≡ Some e.value
    go true h more = absurd cc
    go false h more = more h

-- and leaves each other triple its value
constant_at-push_other : (es : List Entry) (e : Entry) (i j k : ℕ) → names e i j k ≡ false
    → constant_at (es ++ e ∷ []) i j k ≡ constant_at es i j k
constant_at-push_other [] e i j k other = rw other refl
constant_at-push_other (f ∷ es) e i j k other =
    ap (cond (names f i j k) (Some f.value)) (constant_at-push_other es e i j k other)

module _ (o : Ops ℕ) (h : Head) where
  Fills-none : Fills o h [] []
  Fills-none = record { at = λ i j k il jl kl below. absurd (omega arith); later = λ i j k il jl kl past. refl }

  zeros : ℕ → List (Pair ℕ)
  zeros n = replicate n ([], 1 ∷ [])

  Fills-zeros : (entries : List Entry) (constants : List (Pair ℕ)) (n : ℕ) → Fills o h entries constants
      → Fills o h entries (constants ++ zeros n)
  unfolding zeros
  Fills-zeros entries constants n fills = record {
    at = λ i j k il jl kl below. elim (cases_lt (place (dimension_of h) i j k) (length constants)) [
      | inl before ↦ rw (get_or_append_left constants (zeros n) ([], []) (place (dimension_of h) i j k) before)
          (fills.at i j k il jl kl before)
      | inr past ↦
          let inside : place (dimension_of h) i j k - length constants < n =
          omega (
            arith,
            below,
            past,
            length-append constants (zeros n),
            length-replicate {A = Pair ℕ} n ([], 1 ∷ []),
          ) in
          rw (
            fills.later i j k il jl kl past,
            get_or-append_right constants (zeros n) (length constants) (place (dimension_of h) i j k)
                ([], []) refl past,
          )
          (get_or-replicate n (place (dimension_of h) i j k - length constants) ([], 1 ∷ []) ([], []) inside)
    ];
    later = λ i j k il jl kl past. fills.later i j k il jl kl (omega (arith, past, length-append constants (zeros n)));
  }

  -- the triple of the entry, counted from 0, and no other
  named : (e : Entry) (i j k : ℕ) → IsInRange h e → j < dimension_of h → k < dimension_of h
      → place (dimension_of h) i j k ≡ place_of (dimension_of h) e → names e (i + 1) (j + 1) (k + 1) ≡ true
  named e i j k range jl kl same =
      let i_low : 1 ≤ e.i = range.i_low in
      let j_low : 1 ≤ e.j = range.j_low in
      let k_low : 1 ≤ e.k = range.k_low in
      let j_high : e.j ≤ dimension_of h = range.j_high in
      let k_high : e.k ≤ dimension_of h = range.k_high in
      let parts = place_injective (dimension_of h) i j k (e.i - 1) (e.j - 1) (e.k - 1) jl kl (omega arith)
      (omega arith) same in
      let first : i ≡ e.i - 1 = parts.0 in
      let middle : j ≡ e.j - 1 = parts.1 in
      let last : k ≡ e.k - 1 = parts.2 in
      names_own e (i + 1) (j + 1) (k + 1) (omega arith) (omega arith) (omega arith)

  unnamed : (e : Entry) (i j k : ℕ) → place (dimension_of h) i j k ≢ place_of (dimension_of h) e
      → names e (i + 1) (j + 1) (k + 1) ≡ false
  unnamed e i j k other = false_from_ne_true _ (λ same.
      let parts = names_parts e (i + 1) (j + 1) (k + 1) same in
      let a : e.i ≡ i + 1 = parts.0 in
      let b : e.j ≡ j + 1 = parts.1 in
      let c : e.k ≡ k + 1 = parts.2 in
      let first : e.i - 1 ≡ i = omega arith in
      let middle : e.j - 1 ≡ j = omega arith in
      let last : e.k - 1 ≡ k = omega arith in
      other (rw (first, middle, last) refl))

  Fills-push : (entries : List Entry) (constants : List (Pair ℕ)) (e : Entry) (w : Pair ℕ) → IsInRange h e
      → place_of (dimension_of h) e ≡ length constants → IsConstant o (Some e.value) w
      → Fills o h entries constants → Fills o h (entries ++ e ∷ []) (constants ++ w ∷ [])
  Fills-push entries constants e w range at_end is fills = record {
    at = λ i j k il jl kl below. elim (cases_lt (place (dimension_of h) i j k) (length constants)) [
      | inl before ↦
          let other : place (dimension_of h) i j k ≢ place_of (dimension_of h) e = λ same.
          omega (arith, same, before, at_end) in
          rw (
            get_or_append_left constants (w ∷ []) ([], []) (place (dimension_of h) i j k) before,
            constant_at-push_other entries e (i + 1) (j + 1) (k + 1) (unnamed e i j k other),
          )
          (fills.at i j k il jl kl before)
      | inr past ↦
          let here : length constants ≡ place (dimension_of h) i j k =
          omega (arith, below, past, length-append constants (w ∷ [])) in
          rw (
            get_or_at constants w [] ([], []) (place (dimension_of h) i j k) here,
            constant_at-push entries e (i + 1) (j + 1) (k + 1) (named e i j k range jl kl (sym here ∙ sym at_end))
                (fills.later i j k il jl kl past),
          ) is
    ];
    later = λ i j k il jl kl past.
        let past' : length constants + 1 ≤ place (dimension_of h) i j k =
        omega (arith, past, length-append constants (w ∷ [])) in
        let other : place (dimension_of h) i j k ≢ place_of (dimension_of h) e = λ same.
        omega (arith, same, past', at_end) in
        constant_at-push_other entries e (i + 1) (j + 1) (k + 1) (unnamed e i j k other)
        ∙ fills.later i j k il jl kl (omega (arith, past'));
  }

  -- ---- the entries that were read

  right-push : (previous : Option Entry) (es : List Entry) (e : Entry) → AreRightEntries h previous es
      → IsRightEntry h (last_of previous es) e → AreRightEntries h previous (es ++ e ∷ [])
  right-push previous [] e right is = (is, tt)
  right-push previous (f ∷ es) e right is = (right.0, right-push (Some f) es e right.1 is)

  last-push : (previous : Option Entry) (es : List Entry) (e : Entry) → last_of previous (es ++ e ∷ []) ≡ Some e
  last-push previous [] e = refl
  last-push previous (f ∷ es) e = last-push (Some f) es e

  pub SoFar-none : (bytes : List ℕ) → SoFar o h bytes bytes 4 []
  SoFar-none bytes = record {
    entries = [];
    right = tt;
    spelled = refl;
    line_number = refl;
    previous = record { range = tt; place = refl };
    few = omega arith;
    within = omega arith;
    fills = Fills-none;
  }

  module _ (bytes rest : List ℕ) (number : ℕ) (constants : List (Pair ℕ))
      (so_far : SoFar o h bytes rest number constants) where
    -- where the rest begins with a line, it is that line and what follows
    pub SoFar-cut : (text after : List ℕ) → rest ≡ text ++ 10 ∷ after
        → SoFar o h bytes (line text ++ after) number constants
    SoFar-cut text after cut =
        subst (λ r. SoFar o h bytes r number constants) (cut ∙ sym (append_assoc text (10 ∷ []) after)) so_far

    -- an entry stands at a place that is free
    pub is_free : (e : Entry) → IsRightEntry h (last_of None so_far.entries) e
        → length constants ≤ place_of (dimension_of h) e
    is_free e right = after_next h (length constants)
        (last_of None so_far.entries) e so_far.previous right.range right.order

    pub SoFar-push : (text after : List ℕ) (e : Entry) (w : Pair ℕ) → rest ≡ text ++ 10 ∷ after → text ≡ entry_text e
        → IsRightEntry h (last_of None so_far.entries) e → IsConstant o (Some e.value) w
        → SoFar o h bytes after (number + 1)
        (constants ++ replicate (place_of (dimension_of h) e - length constants) ([], 1 ∷ []) ++ w ∷ [])
    unfolding zeros
    SoFar-push text after e w cut spelled right is =
        let free = is_free e right in
        let gap : ℕ = place_of (dimension_of h) e - length constants in
        let full : length (constants ++ zeros gap) ≡ place_of (dimension_of h) e =
        omega (arith, free, length-append constants (zeros gap), length-replicate {A = Pair ℕ} gap ([], 1 ∷ [])) in
        let full' : length (constants ++ zeros gap ++ w ∷ []) ≡ place_of (dimension_of h) e + 1 =
        omega (arith, full, length-append (constants ++ zeros gap) (w ∷ [])) in
        let more : length (so_far.entries ++ e ∷ []) ≡ length so_far.entries + 1 =
        omega (arith, length-append so_far.entries (e ∷ [])) in
        record {
          entries = so_far.entries ++ e ∷ [];
          right = right-push None so_far.entries e so_far.right right;
          spelled = so_far.spelled
              ∙ ap (λ t. flat_map entry_line so_far.entries ++ t)
              (cut ∙ ap (λ t. t ++ 10 ∷ after) spelled ∙ sym (append_assoc (entry_text e) (10 ∷ []) after))
              ∙ sym (append_assoc (flat_map entry_line so_far.entries) (entry_line e) after)
              ∙ ap (λ t. t ++ after)
              (sym (flat_map-append entry_line so_far.entries (e ∷ [])
              ∙ ap (λ t. flat_map entry_line so_far.entries ++ t) (append-nil (entry_line e))));
          line_number = omega (arith, so_far.line_number, more);
          previous = subst (IsPrevious h (length (constants ++ zeros gap ++ w ∷ [])))
              (sym (last-push None so_far.entries e)) (record { range = right.range; place = full' });
          few = omega (arith, so_far.few, more, full', free);
          within = omega (arith, full', place_of-lt h e right.range);
          fills = Fills-push so_far.entries (constants ++ zeros gap) e w right.range (sym full) is
              (Fills-zeros so_far.entries constants gap so_far.fills);
        }

    pub SoFar-end : (after : List ℕ) → rest ≡ codes "end" ++ 10 ∷ after
        → AreEntries o h bytes after number
        (constants ++ replicate (dimension_of h * dimension_of h * dimension_of h - length constants) ([], 1 ∷ []))
    unfolding zeros
    SoFar-end after cut =
        let gap : ℕ = dimension_of h * dimension_of h * dimension_of h - length constants in
        let full : length (constants ++ zeros gap) ≡ dimension_of h * dimension_of h * dimension_of h =
        omega (
          arith,
          so_far.within,
          length-append constants (zeros gap),
          length-replicate {A = Pair ℕ} gap ([], 1 ∷ []),
        ) in
        let fills = Fills-zeros so_far.entries constants gap so_far.fills in
        record {
          entries = so_far.entries;
          right = so_far.right;
          spelled = so_far.spelled ∙ ap (λ t. flat_map entry_line so_far.entries ++ t) cut;
          line_number = so_far.line_number;
          values = record {
            count = full;
            at = λ i j k il jl kl.
                fills.at i j k il jl kl
                (subst (λ n. place (dimension_of h) i j k < n) (sym full) (place-lt (dimension_of h) i j k il jl kl));
          };
        }

    pub SoFar-fault : (kind : Kind) → LineFault h (last_of None so_far.entries) rest kind
        → IsFaultAfter h bytes number kind
    SoFar-fault kind fault = record {
      entries = so_far.entries;
      rest = rest;
      right = so_far.right;
      spelled = so_far.spelled;
      at_line = so_far.line_number;
      fault = fault;
    }

    -- the line is no entry that may stand here
    pub SoFar-refused : (text after : List ℕ) (e : TableFault) → rest ≡ text ++ 10 ∷ after
        → IfRefused e (λ at kind. (at ≡ number) × LineFault h (last_of None so_far.entries) (line text ++ after) kind)
        → IfRefused e (IsFaultAfter h bytes)
    SoFar-refused text after (Refused refusal) cut fault =
        let whole : line text ++ after ≡ rest = append_assoc text (10 ∷ []) after ∙ sym cut in
        subst (λ at. IsFaultAfter h bytes at refusal.kind) (sym fault.0)
        (SoFar-fault refusal.kind (subst (λ r. LineFault h (last_of None so_far.entries) r refusal.kind) whole fault.1))
    SoFar-refused text after Memory cut fault = tt

    pub few_lines : (n : ℕ) → n ≤ 5 → dimension_of h ≡ n * n → number ≤ 15629
    few_lines n small dim =
        let square : n * n ≤ 5 * 5 = mul-le-mul small small in
        let m : dimension_of h ≤ 25 = omega arith in
        let mm : dimension_of h * dimension_of h ≤ 25 * 25 = mul-le-mul m m in
        let mmm : dimension_of h * dimension_of h * dimension_of h ≤ 25 * 25 * 25 = mul-le-mul mm m in
        let a = so_far.few in
        let b = so_far.within in
        let c = so_far.line_number in
        omega arith
