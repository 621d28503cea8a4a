-- The lines after the third are right entries and the line `end`, or a first one is at fault.
use Rattle.std.proofs.Common.{◌≡◌, ◌≢◌, ◌⊎◌, ℕ, zero, suc, ◌<◌, ◌≤◌, List, [], ◌∷◌, ◌++◌, length, Option, Some, None}
use Rattle.std.proofs.Common.{Bool, true, false, ⊎_elim, subst, refl, sym, ap, ◌∙◌, inl, inr, arith, append_assoc}
use Rattle.std.specs.Prelude.{decimal, codes, bytes_eq}
use Rattle.std.specs.List.{AllByRecursion, flat_map}
use Rattle.std.proofs.lemmas.Bool.{cases_lt, cases_order}
use Rattle.std.proofs.lemmas.List.{append_cancel_right}
use Rattle.std.proofs.lemmas.Slice.Eq.{bytes_eq-Decides}
use Rattle.spl_text.specs.Text.{Lacks, IsNumber, FractionText, IsFractionText, fraction_text, line, lists_of}
use Rattle.spl_text.specs.Decided.{SpellsOrNot}
use Rattle.spl_text.proofs.Words.{after-shorter}
use Rattle.spl_text.proofs.Decisions.{Cut, cut_or_lacks, HasNumber, has_number, fraction_decided}
use Rattle.spl_table.specs.TableText.{Entry, Head, entry_line, end_line, size_of, dimension_of, IsEntry}
use Rattle.spl_table.specs.TableText.{IsInRange, IsAfter, IsOverZero, HasSmallDegrees, IsRightEntry}
use Rattle.spl_table.specs.TableText.{AreRightEntries}
use Rattle.spl_table.specs.Refusal.{LineFault, last_of}
use Rattle.spl_table.specs.Reading.{entry_text, IsEntryFaultOf}
use Rattle.spl_table.specs.declared.refusal.Kind.{Kind}
use Rattle.spl_table.specs.declared.refusal.Kind.TheVariants.{EntryForm, EntryRange, EntryOrder, ZeroDenominator}
use Rattle.spl_table.specs.declared.refusal.Kind.TheVariants.{PolyDegree, NoEnd}
use Rattle.spl_table.proofs.Spellings.{no_second, no_third, no_fraction, spelled_entry, entry_words}
use Rattle.spl_table.proofs.EntryFaults.{fault_of_entry}

abbrev pub Decided : Type 0 → Type 0
Decided P = P ⊎ (P → ⊥)

-- ---- what is asked of an entry

le_decided : (m n : ℕ) → Decided (m ≤ n)
le_decided m n = go (cases_lt n m)
  where
    go : (n < m) ⊎ (m ≤ n) → Decided (m ≤ n)
    go (inl past) = inr (λ low. omega (arith, past, low))
    go (inr low) = inl low

both_decided : {P Q : Type 0} → Decided P → Decided Q → Decided (P × Q)
both_decided (inl p) (inl q) = inl (p, q)
both_decided (inl p) (inr q) = inr (λ both. q both.1)
both_decided (inr p) q = inr (λ both. p both.0)

each_decided : {X : Type 0} (P : X → Type 0) → ((x : X) → Decided (P x)) → (xs : List X) → Decided (AllByRecursion P xs)
each_decided P decided [] = inl tt
each_decided P decided (x ∷ xs) = both_decided (decided x) (each_decided P decided xs)

lt_decided : (n m : ℕ) → Decided (m < n)
lt_decided n m = go (cases_lt m n)
  where
    go : (m < n) ⊎ (n ≤ m) → Decided (m < n)
    go (inl below) = inl below
    go (inr past) = inr (λ below. omega (arith, past, below))

in_range : (h : Head) (e : Entry) → Decided (IsInRange h e)
in_range h e =
    go (both_decided (le_decided 1 e.i) (le_decided e.i (dimension_of h)))
    (both_decided (le_decided 1 e.j) (le_decided e.j (dimension_of h)))
    (both_decided (le_decided 1 e.k) (le_decided e.k (dimension_of h)))
    (each_decided (AllByRecursion (λ c. c < size_of h))
    (each_decided (λ c. c < size_of h) (lt_decided (size_of h))) (lists_of e.value))
  where
    go : Decided ((1 ≤ e.i) × (e.i ≤ dimension_of h)) → Decided ((1 ≤ e.j) × (e.j ≤ dimension_of h))
        → Decided ((1 ≤ e.k) × (e.k ≤ dimension_of h))
        → Decided (AllByRecursion (AllByRecursion (λ c. c < size_of h)) (lists_of e.value)) → Decided (IsInRange h e)
    go (inl i) (inl j) (inl k) (inl each) = inl (record {
      i_low = i.0;
      i_high = i.1;
      j_low = j.0;
      j_high = j.1;
      k_low = k.0;
      k_high = k.1;
      elements = each;
    })
    go (inr i) j k each = inr (λ r. i (r.i_low, r.i_high))
    go (inl i) (inr j) k each = inr (λ r. j (r.j_low, r.j_high))
    go (inl i) (inl j) (inr k) each = inr (λ r. k (r.k_low, r.k_high))
    go (inl i) (inl j) (inl k) (inr each) = inr (λ r. each r.elements)

-- one number comes first, or both are the same and what follows decides
first_decided : {P : Type 0} (m n : ℕ) → Decided P → Decided ((m < n) ⊎ ((m ≡ n) × P))
first_decided {P} m n then = go (cases_order m n) then
  where
    go : (m ≡ n) ⊎ ((m < n) ⊎ (n < m)) → Decided P → Decided ((m < n) ⊎ ((m ≡ n) × P))
    go (inr (inl lower)) p = inl (inl lower)
    go (inr (inr higher)) p = inr (λ w. ⊎_elim
        (λ (lower : m < n). omega (arith, higher, lower)) (λ (b : (m ≡ n) × P). omega (arith, higher, b.0)) w)
    go (inl same) (inl p) = inl (inr (same, p))
    go (inl same) (inr other) = inr (λ w. ⊎_elim
        (λ (lower : m < n). omega (arith, same, lower)) (λ (b : (m ≡ n) × P). other b.1) w)

is_after : (previous : Option Entry) (e : Entry) → Decided (IsAfter previous e)
is_after None e = inl tt
is_after (Some d) e = first_decided d.i e.i (first_decided d.j e.j (lt_decided e.k d.k))

over_zero : (t : FractionText) → Decided (IsOverZero t)
over_zero t = go t.denominator
  where
    is_zero : (d : List ℕ) (same : Bool) → bytes_eq d (0 ∷ []) ≡ same
        → Decided (◌≡◌ {A = Option (List ℕ)} (Some d) (Some (0 ∷ [])))
    is_zero d true e = inl (ap Some ((bytes_eq-Decides d (0 ∷ [])).0 e))
    is_zero d false e = inr (λ same.
        let equal : d ≡ 0 ∷ [] = cc in
        let again = (bytes_eq-Decides d (0 ∷ [])).1 equal in
        absurd (cc))

    go : (d : Option (List ℕ)) → Decided (d ≡ Some (0 ∷ []))
    go None = inr (λ same. absurd (cc))
    go (Some d) = is_zero d (bytes_eq d (0 ∷ [])) refl

small_degrees : (t : FractionText) → Decided (HasSmallDegrees t)
small_degrees t = each_decided (λ c. length c ≤ 33) (λ c. le_decided (length c) 33) (lists_of t)

-- the entry may follow, or has a first fault
entry_decided : (h : Head) (previous : Option Entry) (e : Entry) → IsEntry e → IsRightEntry h previous e
    ⊎ ((kind : Kind) × IsEntryFaultOf h previous e kind)
entry_decided h previous e form =
    go (in_range h e) (is_after previous e) (over_zero e.value) (small_degrees e.value)
  where
    go : Decided (IsInRange h e) → Decided (IsAfter previous e) → Decided (IsOverZero e.value)
        → Decided (HasSmallDegrees e.value)
        → IsRightEntry h previous e ⊎ ((kind : Kind) × IsEntryFaultOf h previous e kind)
    go (inr range) after nought degrees = inr (EntryRange, range)
    go (inl range) (inr after) nought degrees = inr (EntryOrder, (range, after))
    go (inl range) (inl after) (inl nought) degrees = inr (ZeroDenominator, (range, after, nought))
    go (inl range) (inl after) (inr nought) (inr degrees) = inr (PolyDegree, (range, after, nought, degrees))
    go (inl range) (inl after) (inr nought) (inl degrees) =
        inl (record { form = form; range = range; order = after; denominator = nought; degrees = degrees })

-- ---- a line

entry_spelled : (text : List ℕ) → SpellsOrNot IsEntry entry_text text
entry_spelled text = first (has_number 32 text (omega arith))
  where
    value : (i : HasNumber 32 text) (j : HasNumber 32 i.rest) (k : HasNumber 32 j.rest)
        → SpellsOrNot IsFractionText fraction_text k.rest → SpellsOrNot IsEntry entry_text text
    value i j k (inl f) = inl (
      record { i = i.number; j = j.number; k = k.number; value = f.0 },
      record { first = i.is; second = j.is; third = k.is; fraction = f.1 },
      spelled_entry text i.rest j.rest k.rest
          (record { i = i.number; j = j.number; k = k.number; value = f.0 }) i.spelled j.spelled k.spelled f.2,
    )
    value i j k (inr none) =
        inr (λ e is s. no_fraction text e is s i.number i.rest i.is i.spelled j.number j.rest j.is j.spelled
        k.number k.rest k.is k.spelled none)

    third : (i : HasNumber 32 text) (j : HasNumber 32 i.rest) → HasNumber 32 j.rest
        ⊎ ((n : ℕ) (after : List ℕ) → IsNumber n → j.rest ≢ decimal n ++ 32 ∷ after)
        → SpellsOrNot IsEntry entry_text text
    third i j (inl k) = value i j k (fraction_decided k.rest)
    third i j (inr none) =
        inr (λ e is s. no_third text e is s i.number i.rest i.is i.spelled j.number j.rest j.is j.spelled none)

    second : (i : HasNumber 32 text) → HasNumber 32 i.rest
        ⊎ ((n : ℕ) (after : List ℕ) → IsNumber n → i.rest ≢ decimal n ++ 32 ∷ after)
        → SpellsOrNot IsEntry entry_text text
    second i (inl j) = third i j (has_number 32 j.rest (omega arith))
    second i (inr none) = inr (λ e is s. no_second text e is s i.number i.rest i.is i.spelled none)

    first : HasNumber 32 text ⊎ ((n : ℕ) (after : List ℕ) → IsNumber n → text ≢ decimal n ++ 32 ∷ after)
        → SpellsOrNot IsEntry entry_text text
    first (inl i) = second i (has_number 32 i.rest (omega arith))
    first (inr none) = inr (λ e is s.
        none e.i (decimal e.j ++ 32 ∷ (decimal e.k ++ 32 ∷ fraction_text e.value)) is.first (s ∙ entry_words e))

-- ---- the lines

-- right entries and the line `end` stand in front, or right entries and a line at fault
pub record ReadsToEnd (h : Head) (previous : Option Entry) (bytes : List ℕ) : Type 0 where
  pub entries : List Entry
  pub rest : List ℕ
  pub right : AreRightEntries h previous entries
  pub spelled : bytes ≡ flat_map entry_line entries ++ (end_line ++ rest)

pub record ReadsToFault (h : Head) (previous : Option Entry) (bytes : List ℕ) : Type 0 where
  pub entries : List Entry
  pub rest : List ℕ
  pub kind : Kind
  pub right : AreRightEntries h previous entries
  pub spelled : bytes ≡ flat_map entry_line entries ++ rest
  pub fault : LineFault h (last_of previous entries) rest kind

module _ (h : Head) where
  -- one entry more in front
  in_front : (previous : Option Entry) (bytes after : List ℕ) (e : Entry) → IsRightEntry h previous e
      → bytes ≡ entry_line e ++ after → ReadsToEnd h (Some e) after ⊎ ReadsToFault h (Some e) after
      → ReadsToEnd h previous bytes ⊎ ReadsToFault h previous bytes
  in_front previous bytes after e right cut (inl w) = inl (record {
    entries = e ∷ w.entries;
    rest = w.rest;
    right = (right, w.right);
    spelled = cut ∙ ap (λ t. entry_line e ++ t) w.spelled
        ∙ sym (append_assoc (entry_line e) (flat_map entry_line w.entries) (end_line ++ w.rest));
  })
  in_front previous bytes after e right cut (inr w) = inr (record {
    entries = e ∷ w.entries;
    rest = w.rest;
    kind = w.kind;
    right = (right, w.right);
    spelled = cut ∙ ap (λ t. entry_line e ++ t) w.spelled
        ∙ sym (append_assoc (entry_line e) (flat_map entry_line w.entries) w.rest);
    fault = w.fault;
  })

  -- the first line is at fault
  at_once : (previous : Option Entry) (bytes : List ℕ) (kind : Kind) → LineFault h previous bytes kind
      → ReadsToEnd h previous bytes ⊎ ReadsToFault h previous bytes
  at_once previous bytes kind fault = inr (record {
    entries = [];
    rest = bytes;
    kind = kind;
    right = tt;
    spelled = refl;
    fault = fault;
  })

  module _ (previous : Option Entry) (bytes : List ℕ) (cut : Cut 10 bytes) where
    line_in_front : bytes ≡ line cut.left ++ cut.right
    line_in_front = cut.whole ∙ sym (append_assoc cut.left (10 ∷ []) cut.right)

    entry_read : (e : Entry) → IsEntry e → cut.left ≡ entry_text e
        → IsRightEntry h previous e ⊎ ((kind : Kind) × IsEntryFaultOf h previous e kind)
        → ((p : Option Entry) → ReadsToEnd h p cut.right ⊎ ReadsToFault h p cut.right)
        → ReadsToEnd h previous bytes ⊎ ReadsToFault h previous bytes
    entry_read e is spelled (inl right) again =
        in_front previous bytes cut.right e right
        (line_in_front ∙ ap (λ t. line t ++ cut.right) spelled) (again (Some e))
    entry_read e is spelled (inr fault) again =
        at_once previous bytes fault.0
        (subst (λ (b : List ℕ). LineFault h previous b fault.0) (sym line_in_front)
        (fault_of_entry h previous cut.left cut.right e is spelled fault.0 fault.1))

    line_read : Decided (cut.left ≡ codes "end") → SpellsOrNot IsEntry entry_text cut.left
        → ((p : Option Entry) → ReadsToEnd h p cut.right ⊎ ReadsToFault h p cut.right)
        → ReadsToEnd h previous bytes ⊎ ReadsToFault h previous bytes
    line_read (inl at_end) spelled again = inl (record {
      entries = [];
      rest = cut.right;
      right = tt;
      spelled = line_in_front ∙ ap (λ t. line t ++ cut.right) at_end;
    })
    line_read (inr other) (inl e) again = entry_read e.0 e.1 e.2 (entry_decided h previous e.0 e.1) again
    line_read (inr other) (inr none) again =
        at_once previous bytes EntryForm (record {
          text = cut.left;
          after = cut.right;
          one_line = cut.lacks;
          next = line_in_front;
          no_end = other;
          no_entry = λ e is same. none e is (append_cancel_right cut.left (entry_text e) (10 ∷ []) same);
        })

  is_end : (text : List ℕ) → Decided (text ≡ codes "end")
  is_end text = go (bytes_eq text (codes "end")) refl
    where
      go : (same : Bool) → bytes_eq text (codes "end") ≡ same → Decided (text ≡ codes "end")
      go true e = inl ((bytes_eq-Decides text (codes "end")).0 e)
      go false e = inr (λ same. let again = (bytes_eq-Decides text (codes "end")).1 same in absurd (cc))

  lines_within : (size : ℕ) (previous : Option Entry) (bytes : List ℕ) → length bytes < size
      → ReadsToEnd h previous bytes ⊎ ReadsToFault h previous bytes
  lines_within zero previous bytes short = absurd (omega arith)
  lines_within (suc size) previous bytes short = go (cut_or_lacks 10 bytes) (lines_within size)
    where
      go : Cut 10 bytes ⊎ Lacks 10 bytes → ((p : Option Entry) (rest : List ℕ) → length rest < size
          → ReadsToEnd h p rest ⊎ ReadsToFault h p rest)
          → ReadsToEnd h previous bytes ⊎ ReadsToFault h previous bytes
      go (inr lacks) again = at_once previous bytes NoEnd lacks
      go (inl cut) again =
          line_read previous bytes cut (is_end cut.left) (entry_spelled cut.left)
          (λ p. again p cut.right (omega (arith, short, after-shorter 10 bytes cut.left cut.right cut.whole)))

  pub lines_decided : (bytes : List ℕ) → ReadsToEnd h None bytes ⊎ ReadsToFault h None bytes
  lines_decided bytes = lines_within (suc (length bytes)) None bytes (omega arith)
