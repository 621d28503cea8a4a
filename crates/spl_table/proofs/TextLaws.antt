-- A text says one thing: it is the text of at most one table, and not of a table where it has a fault.
use Rattle.std.proofs.Common.{◌≡◌, ◌⊎◌, ℕ, ◌<◌, ◌≤◌, List, [], ◌∷◌, ◌++◌, length, Option, Some, None, refl, sym, ap}
use Rattle.std.proofs.Common.{ap₂, subst, ◌∙◌, inl, inr, arith, append_assoc}
use Rattle.std.specs.Prelude.{codes}
use Rattle.std.specs.List.{flat_map, All, AllByRecursion}
use Rattle.std.proofs.lemmas.List.Elements.{All-tail}
use Rattle.theory_rings.proofs.Numbers.Digits.{le_pow_self}
use Rattle.spl_text.specs.Text.{IsNumber, AreNumbers, line}
use Rattle.spl_field.specs.FieldByDigits.{FitsField, IsAdmitted}
use Rattle.spl_table.specs.TableText.{Entry, Head, TableText, first_line, field_line, degree_line, head_lines}
use Rattle.spl_table.specs.TableText.{entry_line, end_line, spelling, IsRightHead, IsEntry, IsInRange, IsAfter}
use Rattle.spl_table.specs.TableText.{IsOverZero, HasSmallDegrees, IsRightEntry, AreRightEntries}
use Rattle.spl_table.specs.Refusal.{Extent, whole, front, IsTableText, IsWithinLimit, IsTooLong, MayFollow, last_of}
use Rattle.spl_table.specs.Refusal.{LineFault, Begins, HasField, HasHead, LacksLine, IsEntryFault, IsAfterEnd}
use Rattle.spl_table.specs.Refusal.{IsFaultOfLines, IsFirstFault, IsRefusal}
use Rattle.spl_table.specs.declared.refusal.Refusal.{Refusal}
use Rattle.spl_table.specs.declared.refusal.Kind.{Kind}
use Rattle.spl_table.specs.declared.refusal.Kind.TheVariants.{TooLong, NotText, Header, FieldSize, FieldLaw, Degree}
use Rattle.spl_table.specs.declared.refusal.Kind.TheVariants.{Characteristic, EntryForm, EntryRange, EntryOrder}
use Rattle.spl_table.specs.declared.refusal.Kind.TheVariants.{ZeroDenominator, PolyDegree, NoEnd, AfterEnd, NotBuilt}
use Rattle.spl_text.proofs.Words.{not_within}
use Rattle.spl_table.specs.Reading.{entry_text}
use Rattle.spl_table.proofs.Spellings.{after_first, after_field, after_degree, after_entry, after_end, end_or_entry}
use Rattle.spl_table.proofs.Spellings.{Lacks-entry, Lacks-end, line_unique}

-- ---- the first three lines

-- the numbers of a head are numbers of a text
pub record IsSpelledHead (h : Head) : Type 0 where
  pub characteristic : IsNumber h.characteristic
  pub modulus : AreNumbers h.modulus
  pub degree : IsNumber h.degree

-- what follows the first line
abbrev pub after_first_line : Head → List ℕ → List ℕ
after_first_line h rest = field_line h.characteristic h.modulus ++ (degree_line h.degree ++ rest)

pub head_lines-after : (h : Head) (rest : List ℕ) → head_lines h ++ rest ≡ first_line ++ after_first_line h rest
head_lines-after h rest =
    append_assoc (first_line ++ field_line h.characteristic h.modulus) (degree_line h.degree) rest
    ∙ append_assoc first_line (field_line h.characteristic h.modulus) (degree_line h.degree ++ rest)

pub head_unique : (h g : Head) (x y : List ℕ) → IsSpelledHead h → IsSpelledHead g
    → head_lines h ++ x ≡ head_lines g ++ y → (h ≡ g) × (x ≡ y)
head_unique h g x y is_h is_g e =
    let rest = after_first (after_first_line h x) (after_first_line g y)
    (sym (head_lines-after h x) ∙ e ∙ head_lines-after g y) in
    let fields = after_field h.characteristic g.characteristic h.modulus g.modulus (degree_line h.degree ++ x)
    (degree_line g.degree ++ y)
    is_h.characteristic is_g.characteristic is_h.modulus is_g.modulus rest in
    let degrees = after_degree h.degree g.degree x y is_h.degree is_g.degree fields.2 in
    (λ at. record { characteristic = fields.0 at; modulus = fields.1 at; degree = degrees.0 at }, degrees.1)

-- ---- the entries

-- the entries after some of them
abbrev pub entry_lines : List Entry → List ℕ
entry_lines es = flat_map entry_line es

-- two ways of reading entries and a rest: both read the same, or the one reads an entry more
pub record ReadsMore (es fs : List Entry) (x y : List ℕ) (h : Head) (previous : Option Entry) : Type 0 where
  pub next : Entry
  pub after : List ℕ
  pub right : IsRightEntry h (last_of previous es) next
  pub rest : x ≡ entry_line next ++ after

pub compare : (h : Head) (previous : Option Entry) (es fs : List Entry) (x y : List ℕ) → AreRightEntries h previous es
    → AreRightEntries h previous fs
    → entry_lines es ++ x ≡ entry_lines fs ++ y
    → ((es ≡ fs) × (x ≡ y)) ⊎ ReadsMore es fs x y h previous ⊎ ReadsMore fs es y x h previous
compare h previous [] [] x y right_e right_f e = inl (refl, e)
compare h previous [] (f ∷ fs) x y right_e right_f e =
    inr (inl (record {
      next = f;
      after = entry_lines fs ++ y;
      right = right_f.0;
      rest = e
          ∙ append_assoc (entry_line f) (entry_lines fs) y;
    }))
compare h previous (g ∷ es) [] x y right_e right_f e =
    inr (inr (record {
      next = g;
      after = entry_lines es ++ x;
      right = right_e.0;
      rest = sym e
          ∙ append_assoc (entry_line g) (entry_lines es) x;
    }))
compare h previous (g ∷ es) (f ∷ fs) x y right_e right_f e =
    let one = after_entry g f (entry_lines es ++ x) (entry_lines fs ++ y) right_e.0.form right_f.0.form
    (sym (append_assoc (entry_line g) (entry_lines es) x) ∙ e ∙ append_assoc (entry_line f) (entry_lines fs) y) in
    go (compare h (Some g) es fs x y right_e.1
    (subst (λ p. AreRightEntries h (Some p) fs) (sym one.0) right_f.1) one.1) one.0
  where
    go : ((es ≡ fs) × (x ≡ y)) ⊎ ReadsMore es fs x y h (Some g) ⊎ ReadsMore fs es y x h (Some g) → g ≡ f
        → ((g ∷ es ≡ f ∷ fs) × (x ≡ y)) ⊎ ReadsMore (g ∷ es) (f ∷ fs) x y h previous
        ⊎ ReadsMore (f ∷ fs) (g ∷ es) y x h previous
    go (inl same) p = inl (ap₂ (λ a b. a ∷ b) p same.0, same.1)
    go (inr (inl more)) p =
        inr (inl (record { next = more.next; after = more.after; right = more.right; rest = more.rest }))
    go (inr (inr more)) p =
        inr (inr (record {
          next = more.next;
          after = more.after;
          right =
              subst (λ q. IsRightEntry h (last_of (Some q) fs) more.next) p more.right;
          rest = more.rest;
        }))

-- ---- a text is the text of at most one table

below_each : (m : List ℕ) (bound : ℕ) → bound ≤ 256 → All (λ c. c < bound) m → AllByRecursion IsNumber m
below_each [] bound low all = tt
below_each (c ∷ m) bound low all =
    (omega (arith, all 0 0 (omega arith)), below_each m bound low (All-tail (λ k. k < bound) c m all))

-- the numbers of a field are numbers of a text
pub fits_number : (p : ℕ) (m : List ℕ) → FitsField p m → IsNumber p
fits_number p m fits = omega (arith, le_pow_self p (length m) fits.some_number, fits.most)

pub fits_numbers : (p : ℕ) (m : List ℕ) → FitsField p m → AreNumbers m
fits_numbers p m fits =
    record {
      some = fits.some_number;
      each =
          below_each m p (omega (arith, le_pow_self p (length m) fits.some_number, fits.most)) fits.below;
    }

pub spelled_head : (h : Head) → IsRightHead h → IsSpelledHead h
spelled_head h right = record {
  characteristic = fits_number h.characteristic h.modulus right.admitted.fits;
  modulus = fits_numbers h.characteristic h.modulus right.admitted.fits;
  degree = omega (arith, right.degree_high);
}

spelling-after : (t : TableText) (r : List ℕ)
    → spelling t ++ r ≡ head_lines t.head ++ (entry_lines t.entries ++ (end_line ++ r))
spelling-after t r =
    append_assoc (head_lines t.head ++ entry_lines t.entries) end_line r
    ∙ append_assoc (head_lines t.head) (entry_lines t.entries) (end_line ++ r)

pub table_unique : (x : Extent) (bytes : List ℕ) (t u : TableText) (r s : List ℕ) → IsTableText x bytes t r
    → IsTableText x bytes u s → (t ≡ u) × (r ≡ s)
table_unique x bytes t u r s is_t is_u =
    let heads = head_unique t.head u.head (entry_lines t.entries ++ (end_line ++ r))
    (entry_lines u.entries ++ (end_line ++ s))
    (spelled_head t.head is_t.well_formed.head) (spelled_head u.head is_u.well_formed.head)
    (sym (spelling-after t r) ∙ sym is_t.spelled ∙ is_u.spelled ∙ spelling-after u s) in
    go heads.0 (compare t.head None t.entries u.entries (end_line ++ r) (end_line ++ s) is_t.well_formed.entries
    (subst (λ h. AreRightEntries h None u.entries) (sym heads.0) is_u.well_formed.entries) heads.1)
  where
    go : t.head ≡ u.head → ((t.entries ≡ u.entries) × (end_line ++ r ≡ end_line ++ s))
        ⊎ ReadsMore t.entries u.entries (end_line ++ r) (end_line ++ s) t.head None
        ⊎ ReadsMore u.entries t.entries (end_line ++ s) (end_line ++ r) t.head None
        → (t ≡ u) × (r ≡ s)
    go p (inl same) = (λ at. record { head = p at; entries = same.0 at }, after_end r s same.1)
    go p (inr (inl more)) = absurd (end_or_entry more.next r more.after more.right.form more.rest)
    go p (inr (inr more)) = absurd (end_or_entry more.next s more.after more.right.form more.rest)

-- ---- a line that is read right has no fault

-- an entry that may stand here, where the next line is at fault
pub no_fault_at_entry : (h : Head) (previous : Option Entry) (rest after : List ℕ) (e : Entry)
    → IsRightEntry h previous e → rest ≡ entry_line e ++ after
    → (kind : Kind) → LineFault h previous rest kind → ⊥
no_fault_at_entry h previous rest after e right next kind fault = go kind fault
  where
    same : (f : Entry) (x : List ℕ) → IsEntry f → rest ≡ entry_line f ++ x → f ≡ e
    same f x is at = (after_entry f e x after is right.form (sym at ∙ next)).0

    go : (kind : Kind) → LineFault h previous rest kind → ⊥
    go EntryForm w = w.no_entry e right.form
        (ap line (line_unique w.text (entry_text e) w.after after w.one_line (Lacks-entry e right.form)
        (sym w.next ∙ next)).0)
    go EntryRange w = w.fault (subst (IsInRange h) (sym (same w.entry w.after w.form w.next)) right.range)
    go EntryOrder w = w.fault.1 (subst (IsAfter previous) (sym (same w.entry w.after w.form w.next)) right.order)
    go ZeroDenominator w =
        right.denominator (subst (λ (f : Entry). IsOverZero f.value) (same w.entry w.after w.form w.next) w.fault.2)
    go PolyDegree w = w.fault.3
        (subst (λ (f : Entry). HasSmallDegrees f.value) (sym (same w.entry w.after w.form w.next)) right.degrees)
    go NoEnd w = not_within 10 rest (entry_text e) after (next ∙ append_assoc (entry_text e) (10 ∷ []) after) w
    go TooLong w = w
    go NotText w = w
    go Header w = w
    go FieldSize w = w
    go (FieldLaw element) w = w
    go Degree w = w
    go Characteristic w = w
    go AfterEnd w = w
    go NotBuilt w = w

-- the line `end`, where the next line is at fault
pub no_fault_at_end : (h : Head) (previous : Option Entry) (rest after : List ℕ) → rest ≡ end_line ++ after
    → (kind : Kind) → LineFault h previous rest kind → ⊥
no_fault_at_end h previous rest after next kind fault = go kind fault
  where
    other : (f : Entry) (x : List ℕ) → IsEntry f → rest ≡ entry_line f ++ x → ⊥
    other f x is at = end_or_entry f after x is (sym next ∙ at)

    go : (kind : Kind) → LineFault h previous rest kind → ⊥
    go EntryForm w = w.no_end
        (line_unique w.text (codes "end") w.after after w.one_line Lacks-end (sym w.next ∙ next)).0
    go EntryRange w = other w.entry w.after w.form w.next
    go EntryOrder w = other w.entry w.after w.form w.next
    go ZeroDenominator w = other w.entry w.after w.form w.next
    go PolyDegree w = other w.entry w.after w.form w.next
    go NoEnd w = not_within 10 rest (codes "end") after (next ∙ append_assoc (codes "end") (10 ∷ []) after) w
    go TooLong w = w
    go NotText w = w
    go Header w = w
    go FieldSize w = w
    go (FieldLaw element) w = w
    go Degree w = w
    go Characteristic w = w
    go AfterEnd w = w
    go NotBuilt w = w

-- ---- a text of a table has no fault

module _ (x : Extent) (bytes : List ℕ) (t : TableText) (r : List ℕ) (is : IsTableText x bytes t r) where
  spelled : IsSpelledHead t.head
  spelled = spelled_head t.head is.well_formed.head

  all : bytes ≡ first_line ++ after_first_line t.head (entry_lines t.entries ++ (end_line ++ r))
  all = is.spelled ∙ spelling-after t r ∙ head_lines-after t.head (entry_lines t.entries ++ (end_line ++ r))

  -- what stands after a first line, and after the line of a field
  second : (rest : List ℕ) → bytes ≡ first_line ++ rest
      → rest ≡ after_first_line t.head (entry_lines t.entries ++ (end_line ++ r))
  second rest at = after_first rest (after_first_line t.head (entry_lines t.entries ++ (end_line ++ r))) (sym at ∙ all)

  third : (p : ℕ) (m rest : List ℕ) → IsNumber p → AreNumbers m → bytes ≡ first_line ++ field_line p m ++ rest
      → (p ≡ t.head.characteristic) × (m ≡ t.head.modulus)
      × (rest ≡ degree_line t.head.degree ++ (entry_lines t.entries ++ (end_line ++ r)))
  third p m rest is_p are_m at =
      after_field p t.head.characteristic m t.head.modulus rest
      (degree_line t.head.degree ++ (entry_lines t.entries ++ (end_line ++ r)))
      is_p spelled.characteristic are_m spelled.modulus
      (second (field_line p m ++ rest) (at ∙ append_assoc first_line (field_line p m) rest))

  no_lack : (at : ℕ) → LacksLine bytes at → ⊥
  no_lack at (inl a) = a.1 (after_first_line t.head (entry_lines t.entries ++ (end_line ++ r))) all
  no_lack at (inr (inl b)) =
      b.1.lacks t.head.characteristic t.head.modulus
      (degree_line t.head.degree ++ (entry_lines t.entries ++ (end_line ++ r)))
      spelled.characteristic spelled.modulus (second b.1.rest b.1.spelled)
  no_lack at (inr (inr c)) = c.1.lacks t.head.degree (entry_lines t.entries ++ (end_line ++ r)) spelled.degree
      (third c.1.p c.1.m c.1.rest (fits_number c.1.p c.1.m c.1.admitted.fits)
      (fits_numbers c.1.p c.1.m c.1.admitted.fits) c.1.spelled).2

  field_same : (p : ℕ) (m : List ℕ) → HasField bytes p m → (p ≡ t.head.characteristic) × (m ≡ t.head.modulus)
  field_same p m f = let found = third p m f.rest f.characteristic f.modulus f.spelled in (found.0, found.1)

  admitted : (p : ℕ) (m : List ℕ) → HasField bytes p m → IsAdmitted p m
  admitted p m f =
      let same = field_same p m f in
      subst (λ q. IsAdmitted q m) (sym same.0)
      (subst (IsAdmitted t.head.characteristic) (sym same.1) is.well_formed.head.admitted)

  head_same : (h : Head) → HasHead bytes h → h ≡ t.head
  head_same h f =
      (head_unique h t.head f.rest (entry_lines t.entries ++ (end_line ++ r))
      (record {
        characteristic = fits_number h.characteristic h.modulus f.admitted.fits;
        modulus =
            fits_numbers h.characteristic h.modulus f.admitted.fits;
        degree = f.degree;
      })
      spelled (sym f.spelled ∙ is.spelled ∙ spelling-after t r)).0

  right_head : (h : Head) → HasHead bytes h → IsRightHead h
  right_head h f = subst IsRightHead (sym (head_same h f)) is.well_formed.head

  -- what was read right before a line
  begins_same : (h : Head) (es : List Entry) (rest : List ℕ) → Begins bytes h es rest
      → (h ≡ t.head) × (entry_lines es ++ rest ≡ entry_lines t.entries ++ (end_line ++ r))
  begins_same h es rest b =
      head_unique h t.head (entry_lines es ++ rest) (entry_lines t.entries ++ (end_line ++ r))
      (spelled_head h b.head) spelled
      (sym (append_assoc (head_lines h) (entry_lines es) rest) ∙ sym b.spelled ∙ is.spelled ∙ spelling-after t r)

  no_line_fault : (h : Head) (es : List Entry) (rest : List ℕ) → Begins bytes h es rest → (kind : Kind)
      → LineFault h (last_of None es) rest kind → ⊥
  no_line_fault h es rest b kind fault =
      let same = begins_same h es rest b in
      go (compare h None es t.entries rest (end_line ++ r) b.entries
      (subst (λ g. AreRightEntries g None t.entries) (sym same.0) is.well_formed.entries) same.1)
    where
      go : ((es ≡ t.entries) × (rest ≡ end_line ++ r)) ⊎ ReadsMore es t.entries rest (end_line ++ r) h None
          ⊎ ReadsMore t.entries es (end_line ++ r) rest h None → ⊥
      go (inl both) = no_fault_at_end h (last_of None es) rest r both.1 kind fault
      go (inr (inl more)) =
          no_fault_at_entry h (last_of None es) rest more.after more.next more.right more.rest kind fault
      go (inr (inr more)) = end_or_entry more.next r more.after more.right.form more.rest

  nothing_after : (at : ℕ) → IsAfterEnd bytes at → r ≡ [] → ⊥
  nothing_after at a none =
      let same = begins_same a.head a.entries (end_line ++ a.byte ∷ a.rest) a.begins in
      go (compare a.head None a.entries t.entries (end_line ++ a.byte ∷ a.rest) (end_line ++ r) a.begins.entries
      (subst (λ g. AreRightEntries g None t.entries) (sym same.0) is.well_formed.entries) same.1)
    where
      go : ((a.entries ≡ t.entries) × (end_line ++ a.byte ∷ a.rest ≡ end_line ++ r))
          ⊎ ReadsMore a.entries t.entries (end_line ++ a.byte ∷ a.rest) (end_line ++ r) a.head None
          ⊎ ReadsMore t.entries a.entries (end_line ++ r) (end_line ++ a.byte ∷ a.rest) a.head None → ⊥
      go (inl both) = let some : a.byte ∷ a.rest ≡ [] = after_end (a.byte ∷ a.rest) r both.1 ∙ none in absurd cc
      go (inr (inl more)) = end_or_entry more.next (a.byte ∷ a.rest) more.after more.right.form more.rest
      go (inr (inr more)) = end_or_entry more.next r more.after more.right.form more.rest

  no_entry_fault : (at : ℕ) (kind : Kind) → IsEntryFault bytes at kind → ⊥
  no_entry_fault at kind f = no_line_fault f.head f.entries f.rest f.begins kind f.fault

  no_fault_of_lines : (at : ℕ) (kind : Kind) → IsFaultOfLines x bytes at kind → ⊥
  no_fault_of_lines at kind f = go x is.follows kind f
    where
      go : (y : Extent) → MayFollow y r → (kind : Kind) → IsFaultOfLines y bytes at kind → ⊥
      go y after Header w = no_lack at w
      go y after FieldSize w = w.1.3 (admitted w.1.0 w.1.1 w.1.2).fits
      go y after (FieldLaw element) w =
          let first = w.1.3 in
          first.without ((admitted w.1.0 w.1.1 w.1.2).invertible element first.nonzero first.below)
      go y after Degree w = let right = right_head w.1.0 w.1.1 in w.1.2 (right.degree_low, right.degree_high)
      go y after Characteristic w = (right_head w.1.0 w.1.1).apart w.1.4
      go whole after AfterEnd w = nothing_after at w after
      go front after AfterEnd w = no_entry_fault at AfterEnd w
      go y after EntryForm w = no_entry_fault at EntryForm w
      go y after EntryRange w = no_entry_fault at EntryRange w
      go y after EntryOrder w = no_entry_fault at EntryOrder w
      go y after ZeroDenominator w = no_entry_fault at ZeroDenominator w
      go y after PolyDegree w = no_entry_fault at PolyDegree w
      go y after NoEnd w = no_entry_fault at NoEnd w
      go y after TooLong w = no_entry_fault at TooLong w
      go y after NotText w = no_entry_fault at NotText w
      go y after NotBuilt w = no_entry_fault at NotBuilt w

  not_too_long : (y : Extent) → IsWithinLimit y bytes → IsTooLong y bytes → ⊥
  not_too_long whole within long = omega (arith, within, long)
  not_too_long front within long = long

  no_fault : (y : Extent) → IsWithinLimit y bytes → ((at : ℕ) (kind : Kind) → IsFaultOfLines y bytes at kind → ⊥)
      → (at : ℕ) (kind : Kind) → IsFirstFault y bytes at kind → ⊥
  no_fault y within lines at TooLong w = not_too_long y within w.1
  no_fault y within lines at NotText w = w.1.first.no_text (is.text w.1.place w.1.first.within)
  no_fault y within lines at Header w = lines at Header w.2
  no_fault y within lines at FieldSize w = lines at FieldSize w.2
  no_fault y within lines at (FieldLaw element) w = lines at (FieldLaw element) w.2
  no_fault y within lines at Degree w = lines at Degree w.2
  no_fault y within lines at Characteristic w = lines at Characteristic w.2
  no_fault y within lines at EntryForm w = lines at EntryForm w.2
  no_fault y within lines at EntryRange w = lines at EntryRange w.2
  no_fault y within lines at EntryOrder w = lines at EntryOrder w.2
  no_fault y within lines at ZeroDenominator w = lines at ZeroDenominator w.2
  no_fault y within lines at PolyDegree w = lines at PolyDegree w.2
  no_fault y within lines at NoEnd w = lines at NoEnd w.2
  no_fault y within lines at AfterEnd w = lines at AfterEnd w.2
  no_fault y within lines at NotBuilt w = lines at NotBuilt w.2

  pub no_table_fault : (f : Refusal) → IsRefusal x bytes f → ⊥
  no_table_fault f refused = no_fault x is.within no_fault_of_lines f.line f.kind refused
