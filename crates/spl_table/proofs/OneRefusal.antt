-- A text has at most one refusal: its faults are looked for one after the other, and a later one stands on what an
-- earlier one denies.
use Rattle.std.proofs.Common.{◌≡◌, ◌⊎◌, ℕ, ◌+◌, List, [], ◌∷◌, ◌++◌, length, take, Option, None, refl, sym, ap, subst}
use Rattle.std.proofs.Common.{◌∙◌, inl, inr, arith, append_assoc}
use Rattle.std.proofs.lemmas.Bool.{cases_order}
use Rattle.spl_field.specs.FieldByDigits.{IsAdmitted, IsFirstWithoutInverse}
use Rattle.spl_text.specs.Text.{Lacks, IsText, IsFirstNoText, newlines, line}
use Rattle.spl_text.proofs.Words.{not_within}
use Rattle.spl_table.specs.TableText.{Entry, Head, first_line, field_line, degree_line, head_lines, entry_line}
use Rattle.spl_table.specs.TableText.{end_line, IsRightHead, IsEntry, IsInRange, IsAfter, IsOverZero, AreRightEntries}
use Rattle.spl_table.specs.Refusal.{Extent, whole, front, IsWithinLimit, IsTooLong, last_of, LineFault, IsNoEntry}
use Rattle.spl_table.specs.Refusal.{Begins, HasField, HasHead, LacksFirst, LacksField, LacksDegree, LacksLine}
use Rattle.spl_table.specs.Refusal.{IsEntryFault, IsAfterEnd, IsNoTextAt, IsFaultOfLines, IsFirstFault, IsRefusal}
use Rattle.spl_table.specs.Reading.{entry_text, IsNoField, IsNoDegree, IsEntryFaultOf}
use Rattle.spl_table.specs.declared.refusal.Refusal.{Refusal}
use Rattle.spl_table.specs.declared.refusal.Kind.{Kind}
use Rattle.spl_table.specs.declared.refusal.Kind.TheVariants.{TooLong, NotText, Header, FieldSize, FieldLaw, Degree}
use Rattle.spl_table.specs.declared.refusal.Kind.TheVariants.{Characteristic, EntryForm, EntryRange, EntryOrder}
use Rattle.spl_table.specs.declared.refusal.Kind.TheVariants.{ZeroDenominator, PolyDegree, NoEnd, AfterEnd, NotBuilt}
use Rattle.spl_table.proofs.Spellings.{after_first, after_field, after_entry, end_or_entry, line_unique, Lacks-entry}
use Rattle.spl_table.proofs.TextLaws.{IsSpelledHead, head_unique, entry_lines, ReadsMore, compare, fits_number}
use Rattle.spl_table.proofs.TextLaws.{fits_numbers, spelled_head, no_fault_at_entry, no_fault_at_end}

-- ---- one fault of an entry, and of a line

module _ (h : Head) (previous : Option Entry) (e : Entry) where
  range_only : (kind : Kind) → IsEntryFaultOf h previous e kind → (IsInRange h e → ⊥) → EntryRange ≡ kind
  range_only EntryRange w other = refl
  range_only EntryOrder w other = absurd (other w.0)
  range_only ZeroDenominator w other = absurd (other w.0)
  range_only PolyDegree w other = absurd (other w.0)
  range_only _ w other = absurd w

  order_only : (kind : Kind) → IsEntryFaultOf h previous e kind → IsInRange h e → (IsAfter previous e → ⊥)
      → EntryOrder ≡ kind
  order_only EntryRange w range other = absurd (w range)
  order_only EntryOrder w range other = refl
  order_only ZeroDenominator w range other = absurd (other w.1)
  order_only PolyDegree w range other = absurd (other w.1)
  order_only _ w range other = absurd w

  zero_only : (kind : Kind) → IsEntryFaultOf h previous e kind → IsInRange h e → IsAfter previous e
      → IsOverZero e.value → ZeroDenominator ≡ kind
  zero_only EntryRange w range after zero = absurd (w range)
  zero_only EntryOrder w range after zero = absurd (w.1 after)
  zero_only ZeroDenominator w range after zero = refl
  zero_only PolyDegree w range after zero = absurd (w.2 zero)
  zero_only _ w range after zero = absurd w

  degrees_only : (kind : Kind) → IsEntryFaultOf h previous e kind → IsInRange h e → IsAfter previous e
      → (IsOverZero e.value → ⊥) → PolyDegree ≡ kind
  degrees_only EntryRange w range after other = absurd (w range)
  degrees_only EntryOrder w range after other = absurd (w.1 after)
  degrees_only ZeroDenominator w range after other = absurd (other w.2)
  degrees_only PolyDegree w range after other = refl
  degrees_only _ w range after other = absurd w

  entry_fault_unique : (k l : Kind) → IsEntryFaultOf h previous e k → IsEntryFaultOf h previous e l → k ≡ l
  entry_fault_unique EntryRange l w v = range_only l v w
  entry_fault_unique EntryOrder l w v = order_only l v w.0 w.1
  entry_fault_unique ZeroDenominator l w v = zero_only l v w.0 w.1 w.2
  entry_fault_unique PolyDegree l w v = degrees_only l v w.0 w.1 w.2
  entry_fault_unique _ l w v = absurd w

-- an entry at fault
record IsEntryAtFault (h : Head) (previous : Option Entry) (rest : List ℕ) (kind : Kind) : Type 0 where
  entry : Entry
  after : List ℕ
  form : IsEntry entry
  next : rest ≡ entry_line entry ++ after
  fault : IsEntryFaultOf h previous entry kind

module _ (h : Head) (previous : Option Entry) (rest : List ℕ) where
  line_fault : (kind : Kind) → LineFault h previous rest kind → ((kind ≡ EntryForm) × IsNoEntry rest)
      ⊎ IsEntryAtFault h previous rest kind ⊎ ((kind ≡ NoEnd) × Lacks 10 rest)
  line_fault EntryForm w = inl (refl, w)
  line_fault EntryRange w =
      inr (inl (record { entry = w.entry; after = w.after; form = w.form; next = w.next; fault = w.fault }))
  line_fault EntryOrder w =
      inr (inl (record { entry = w.entry; after = w.after; form = w.form; next = w.next; fault = w.fault }))
  line_fault ZeroDenominator w =
      inr (inl (record { entry = w.entry; after = w.after; form = w.form; next = w.next; fault = w.fault }))
  line_fault PolyDegree w =
      inr (inl (record { entry = w.entry; after = w.after; form = w.form; next = w.next; fault = w.fault }))
  line_fault NoEnd w = inr (inr (refl, w))
  line_fault _ w = absurd w

  form_or_entry : (k : Kind) → IsNoEntry rest → IsEntryAtFault h previous rest k → ⊥
  form_or_entry k w v =
      w.no_entry v.entry v.form
      (ap line (line_unique w.text (entry_text v.entry) w.after v.after w.one_line (Lacks-entry v.entry v.form)
      (sym w.next ∙ v.next)).0)

  form_or_none : IsNoEntry rest → Lacks 10 rest → ⊥
  form_or_none w lacks = not_within 10 rest w.text w.after (w.next ∙ append_assoc w.text (10 ∷ []) w.after) lacks

  entry_or_none : (k : Kind) → IsEntryAtFault h previous rest k → Lacks 10 rest → ⊥
  entry_or_none k v lacks =
      not_within 10 rest (entry_text v.entry) v.after
      (v.next ∙ append_assoc (entry_text v.entry) (10 ∷ []) v.after) lacks

  line_fault_unique : (k l : Kind) → LineFault h previous rest k → LineFault h previous rest l → k ≡ l
  line_fault_unique k l w v = go (line_fault k w) (line_fault l v)
    where
      go : ((k ≡ EntryForm) × IsNoEntry rest) ⊎ IsEntryAtFault h previous rest k ⊎ ((k ≡ NoEnd) × Lacks 10 rest)
          → ((l ≡ EntryForm) × IsNoEntry rest) ⊎ IsEntryAtFault h previous rest l ⊎ ((l ≡ NoEnd) × Lacks 10 rest)
          → k ≡ l
      go (inl a) (inl b) = a.0 ∙ sym b.0
      go (inl a) (inr (inl b)) = absurd (form_or_entry l a.1 b)
      go (inl a) (inr (inr b)) = absurd (form_or_none a.1 b.1)
      go (inr (inl a)) (inl b) = absurd (form_or_entry k b.1 a)
      go (inr (inl a)) (inr (inl b)) =
          let same = (after_entry b.entry a.entry b.after a.after b.form a.form (sym b.next ∙ a.next)).0 in
          entry_fault_unique h previous a.entry k l a.fault
          (subst (λ (e : Entry). IsEntryFaultOf h previous e l) same b.fault)
      go (inr (inl a)) (inr (inr b)) = absurd (entry_or_none k a b.1)
      go (inr (inr a)) (inl b) = absurd (form_or_none b.1 a.1)
      go (inr (inr a)) (inr (inl b)) = absurd (entry_or_none l b a.1)
      go (inr (inr a)) (inr (inr b)) = a.0 ∙ sym b.0

-- ---- one fault of the numbers of a field, and of a degree

pub first_without_unique : (p : ℕ) (m : List ℕ) (a b : ℕ) → IsFirstWithoutInverse p m a → IsFirstWithoutInverse p m b
    → a ≡ b
first_without_unique p m a b u v = elim (cases_order a b) [
  | inl same ↦ same
  | inr (inl lower) ↦ absurd (u.without (v.before a u.nonzero lower))
  | inr (inr higher) ↦ absurd (v.without (u.before b v.nonzero higher))
]

no_field_unique : (p : ℕ) (m : List ℕ) (k l : Kind) → IsNoField p m k → IsNoField p m l → k ≡ l
no_field_unique p m FieldSize l w v = size l v
  where
    size : (l' : Kind) → IsNoField p m l' → FieldSize ≡ l'
    size FieldSize v' = refl
    size (FieldLaw b) v' = absurd (w v'.fits)
    size _ v' = absurd v'
no_field_unique p m (FieldLaw a) l w v = law l v
  where
    law : (l' : Kind) → IsNoField p m l' → FieldLaw a ≡ l'
    law FieldSize v' = absurd (v' w.fits)
    law (FieldLaw b) v' = ap FieldLaw (first_without_unique p m a b w v')
    law _ v' = absurd v'
no_field_unique p m _ l w v = absurd w

no_degree_unique : (p n : ℕ) (k l : Kind) → IsNoDegree p n k → IsNoDegree p n l → k ≡ l
no_degree_unique p n Degree l w v = go l v
  where
    go : (l' : Kind) → IsNoDegree p n l' → Degree ≡ l'
    go Degree v' = refl
    go Characteristic v' = absurd (w (v'.0, v'.1))
    go _ v' = absurd v'
no_degree_unique p n Characteristic l w v = go l v
  where
    go : (l' : Kind) → IsNoDegree p n l' → Characteristic ≡ l'
    go Degree v' = absurd (v' (w.0, w.1))
    go Characteristic v' = refl
    go _ v' = absurd v'
no_degree_unique p n _ l w v = absurd w

admitted_field : (p : ℕ) (m : List ℕ) (k : Kind) → IsNoField p m k → IsAdmitted p m → ⊥
admitted_field p m FieldSize w admitted = w admitted.fits
admitted_field p m (FieldLaw a) w admitted = w.without (admitted.invertible a w.nonzero w.below)
admitted_field p m _ w admitted = w

right_degree : (h : Head) (k : Kind) → IsNoDegree h.characteristic h.degree k → IsRightHead h → ⊥
right_degree h Degree w right = w (right.degree_low, right.degree_high)
right_degree h Characteristic w right = right.apart w.2
right_degree h _ w right = w

-- ---- the faults of a text, in the order in which they are looked for

module _ (bytes : List ℕ) where
  data View : Type 0 where
    no_first : LacksFirst bytes → View
    no_second : LacksField bytes → View
    no_field : (p : ℕ) (m : List ℕ) (kind : Kind) → HasField bytes p m → IsNoField p m kind → View
    no_third : LacksDegree bytes → View
    no_degree : (h : Head) (kind : Kind) → HasHead bytes h → IsNoDegree h.characteristic h.degree kind → View
    no_entry : (at : ℕ) (kind : Kind) → IsEntryFault bytes at kind → View
    too_much : (at : ℕ) → IsAfterEnd bytes at → View

  abbrev at_of : View → ℕ
  at_of (no_first w) = 1
  at_of (no_second w) = 2
  at_of (no_field p m kind f w) = 2
  at_of (no_third w) = 3
  at_of (no_degree h kind f w) = 3
  at_of (no_entry at kind w) = at
  at_of (too_much at w) = at

  abbrev kind_of : View → Kind
  kind_of (no_first w) = Header
  kind_of (no_second w) = Header
  kind_of (no_field p m kind f w) = kind
  kind_of (no_third w) = Header
  kind_of (no_degree h kind f w) = kind
  kind_of (no_entry at kind w) = kind
  kind_of (too_much at w) = AfterEnd

  -- what each later fault stands on
  third_field : (c : LacksDegree bytes) → HasField bytes c.p c.m
  third_field c = record {
    rest = c.rest;
    characteristic = fits_number c.p c.m c.admitted.fits;
    modulus =
        fits_numbers c.p c.m c.admitted.fits;
    spelled = c.spelled;
  }

  head_field : (h : Head) → HasHead bytes h → HasField bytes h.characteristic h.modulus
  head_field h f = record {
    rest = degree_line h.degree ++ f.rest;
    characteristic = fits_number h.characteristic h.modulus f.admitted.fits;
    modulus = fits_numbers h.characteristic h.modulus f.admitted.fits;
    spelled = f.spelled ∙ append_assoc (first_line ++ field_line h.characteristic h.modulus)
        (degree_line h.degree) f.rest;
  }

  begins_head : (h : Head) (es : List Entry) (rest : List ℕ) → Begins bytes h es rest → HasHead bytes h
  begins_head h es rest b = record {
    rest = entry_lines es ++ rest;
    admitted = b.head.admitted;
    degree = (spelled_head h b.head).degree;
    spelled = b.spelled ∙ append_assoc (head_lines h) (entry_lines es) rest;
  }

  entry_head : (at : ℕ) (kind : Kind) (w : IsEntryFault bytes at kind) → HasHead bytes w.head
  entry_head at kind w = begins_head w.head w.entries w.rest w.begins

  end_head : (at : ℕ) (w : IsAfterEnd bytes at) → HasHead bytes w.head
  end_head at w = begins_head w.head w.entries (end_line ++ w.byte ∷ w.rest) w.begins

  spelled_of : (h : Head) → HasHead bytes h → IsSpelledHead h
  spelled_of h f = record {
    characteristic = fits_number h.characteristic h.modulus f.admitted.fits;
    modulus =
        fits_numbers h.characteristic h.modulus f.admitted.fits;
    degree = f.degree;
  }

  field_same : (p : ℕ) (m : List ℕ) (q : ℕ) (l : List ℕ) (f : HasField bytes p m) (g : HasField bytes q l) → (p ≡ q)
      × (m ≡ l) × (f.rest ≡ g.rest)
  field_same p m q l f g =
      after_field p q m l f.rest g.rest f.characteristic g.characteristic f.modulus g.modulus
      (after_first (field_line p m ++ f.rest) (field_line q l ++ g.rest)
      (sym (append_assoc first_line (field_line p m) f.rest) ∙ sym f.spelled ∙ g.spelled
      ∙ append_assoc first_line (field_line q l) g.rest))

  head_same : (h g : Head) (f : HasHead bytes h) (d : HasHead bytes g) → (h ≡ g) × (f.rest ≡ d.rest)
  head_same h g f d = head_unique h g f.rest d.rest (spelled_of h f) (spelled_of g d) (sym f.spelled ∙ d.spelled)

  compared : (h g : Head) (es fs : List Entry) (x y : List ℕ) → Begins bytes h es x → Begins bytes g fs y
      → ((es ≡ fs) × (x ≡ y)) ⊎ ReadsMore es fs x y h None ⊎ ReadsMore fs es y x h None
  unfolding begins_head
  compared h g es fs x y b d =
      let same = head_same h g (begins_head h es x b) (begins_head g fs y d) in
      compare h None es fs x y b.entries (subst (λ (k : Head). AreRightEntries k None fs) (sym same.0) d.entries) same.1

  -- ---- an earlier fault and a later one

  x_first : LacksFirst bytes → (p : ℕ) (m : List ℕ) → HasField bytes p m → ⊥
  x_first a p m f = a (field_line p m ++ f.rest) (f.spelled ∙ append_assoc first_line (field_line p m) f.rest)

  x_second : LacksField bytes → (p : ℕ) (m : List ℕ) → HasField bytes p m → ⊥
  x_second b p m f =
      b.lacks p m f.rest f.characteristic f.modulus
      (after_first b.rest (field_line p m ++ f.rest)
      (sym b.spelled ∙ f.spelled ∙ append_assoc first_line (field_line p m) f.rest))

  x_field : (p : ℕ) (m : List ℕ) (kind : Kind) → HasField bytes p m → IsNoField p m kind → (q : ℕ) (l : List ℕ)
      → HasField bytes q l → IsAdmitted q l → ⊥
  x_field p m kind f w q l g admitted =
      let same = field_same p m q l f g in
      admitted_field p m kind w (subst (λ a. IsAdmitted a m) (sym same.0) (subst (IsAdmitted q) (sym same.1) admitted))

  x_third : LacksDegree bytes → (h : Head) → HasHead bytes h → ⊥
  unfolding third_field head_field
  x_third c h f = c.lacks h.degree f.rest f.degree
      (field_same c.p c.m h.characteristic h.modulus (third_field c) (head_field h f)).2

  x_degree : (h : Head) (kind : Kind) → HasHead bytes h → IsNoDegree h.characteristic h.degree kind → (g : Head)
      → HasHead bytes g → IsRightHead g → ⊥
  x_degree h kind f w g d right = right_degree h kind w (subst IsRightHead (sym (head_same h g f d).0) right)

  x_entry : (at : ℕ) (kind : Kind) (w : IsEntryFault bytes at kind) (at' : ℕ) (v : IsAfterEnd bytes at') → ⊥
  x_entry at kind w at' v =
      go (compared w.head v.head w.entries v.entries w.rest (end_line ++ v.byte ∷ v.rest) w.begins v.begins)
    where
      go : ((w.entries ≡ v.entries) × (w.rest ≡ end_line ++ v.byte ∷ v.rest))
          ⊎ ReadsMore w.entries v.entries w.rest (end_line ++ v.byte ∷ v.rest) w.head None
          ⊎ ReadsMore v.entries w.entries (end_line ++ v.byte ∷ v.rest) w.rest w.head None → ⊥
      go (inl both) = no_fault_at_end w.head (last_of None w.entries) w.rest (v.byte ∷ v.rest) both.1 kind w.fault
      go (inr (inl more)) =
          no_fault_at_entry w.head
          (last_of None w.entries) w.rest more.after more.next more.right more.rest kind w.fault
      go (inr (inr more)) = end_or_entry more.next (v.byte ∷ v.rest) more.after more.right.form more.rest

  -- ---- two faults of one sort

  entry_unique : (at at' : ℕ) (k l : Kind) (w : IsEntryFault bytes at k) (v : IsEntryFault bytes at' l) → (at ≡ at')
      × (k ≡ l)
  entry_unique at at' k l w v = go (compared w.head v.head w.entries v.entries w.rest v.rest w.begins v.begins)
    where
      heads : w.head ≡ v.head
      heads = (head_same w.head v.head (entry_head at k w) (entry_head at' l v)).0

      fault : LineFault w.head (last_of None v.entries) v.rest l
      fault = subst (λ (h : Head). LineFault h (last_of None v.entries) v.rest l) (sym heads) v.fault

      go : ((w.entries ≡ v.entries) × (w.rest ≡ v.rest)) ⊎ ReadsMore w.entries v.entries w.rest v.rest w.head None
          ⊎ ReadsMore v.entries w.entries v.rest w.rest w.head None → (at ≡ at') × (k ≡ l)
      go (inl both) = (
        w.at_line ∙ ap (λ (es : List Entry). 4 + length es) both.0 ∙ sym v.at_line,
        line_fault_unique w.head (last_of None w.entries) w.rest k l w.fault
            (subst (λ (es : List Entry). LineFault w.head (last_of None es) w.rest l) (sym both.0)
            (subst (λ (r : List ℕ). LineFault w.head (last_of None v.entries) r l) (sym both.1) fault)),
      )
      go (inr (inl more)) =
          absurd (no_fault_at_entry w.head
          (last_of None w.entries) w.rest more.after more.next more.right more.rest k w.fault)
      go (inr (inr more)) =
          absurd (no_fault_at_entry w.head
          (last_of None v.entries) v.rest more.after more.next more.right more.rest l fault)

  end_unique : (at at' : ℕ) (w : IsAfterEnd bytes at) (v : IsAfterEnd bytes at') → at ≡ at'
  end_unique at at' w v =
      go (compared w.head v.head w.entries v.entries (end_line ++ w.byte ∷ w.rest)
      (end_line ++ v.byte ∷ v.rest) w.begins v.begins)
    where
      go : ((w.entries ≡ v.entries) × (end_line ++ w.byte ∷ w.rest ≡ end_line ++ v.byte ∷ v.rest))
          ⊎ ReadsMore w.entries v.entries (end_line ++ w.byte ∷ w.rest) (end_line ++ v.byte ∷ v.rest) w.head None
          ⊎ ReadsMore v.entries w.entries (end_line ++ v.byte ∷ v.rest) (end_line ++ w.byte ∷ w.rest) w.head None
          → at ≡ at'
      go (inl both) = w.at_line ∙ ap (λ (es : List Entry). 5 + length es) both.0 ∙ sym v.at_line
      go (inr (inl more)) = absurd (end_or_entry more.next (w.byte ∷ w.rest) more.after more.right.form more.rest)
      go (inr (inr more)) = absurd (end_or_entry more.next (v.byte ∷ v.rest) more.after more.right.form more.rest)

  unique : (v w : View) → (at_of v ≡ at_of w) × (kind_of v ≡ kind_of w)
  unique (no_first a) (no_first b) = (refl, refl)
  unique (no_first a) (no_second b) = absurd (a b.rest b.spelled)
  unique (no_first a) (no_field q l k' g b) = absurd (x_first a q l g)
  unique (no_first a) (no_third b) = absurd (x_first a b.p b.m (third_field b))
  unique (no_first a) (no_degree h' k' g b) = absurd (x_first a h'.characteristic h'.modulus (head_field h' g))
  unique (no_first a) (no_entry t' k' b) =
      absurd (x_first a b.head.characteristic b.head.modulus (head_field b.head (entry_head t' k' b)))
  unique (no_first a) (too_much t' b) =
      absurd (x_first a b.head.characteristic b.head.modulus (head_field b.head (end_head t' b)))
  unique (no_second a) (no_first b) = absurd (b a.rest a.spelled)
  unique (no_second a) (no_second b) = (refl, refl)
  unique (no_second a) (no_field q l k' g b) = absurd (x_second a q l g)
  unique (no_second a) (no_third b) = absurd (x_second a b.p b.m (third_field b))
  unique (no_second a) (no_degree h' k' g b) = absurd (x_second a h'.characteristic h'.modulus (head_field h' g))
  unique (no_second a) (no_entry t' k' b) =
      absurd (x_second a b.head.characteristic b.head.modulus (head_field b.head (entry_head t' k' b)))
  unique (no_second a) (too_much t' b) =
      absurd (x_second a b.head.characteristic b.head.modulus (head_field b.head (end_head t' b)))
  unique (no_field p m k f a) (no_first b) = absurd (x_first b p m f)
  unique (no_field p m k f a) (no_second b) = absurd (x_second b p m f)
  unique (no_field p m k f a) (no_field q l k' g b) = let same = field_same p m q l f g in (
    refl,
    no_field_unique p m k k' a
        (subst (λ x. IsNoField x m k') (sym same.0) (subst (λ x. IsNoField q x k') (sym same.1) b)),
  )
  unique (no_field p m k f a) (no_third b) = absurd (x_field p m k f a b.p b.m (third_field b) b.admitted)
  unique (no_field p m k f a) (no_degree h' k' g b) =
      absurd (x_field p m k f a h'.characteristic h'.modulus (head_field h' g) g.admitted)
  unique (no_field p m k f a) (no_entry t' k' b) =
      absurd (x_field p m k f a b.head.characteristic b.head.modulus
      (head_field b.head (entry_head t' k' b)) b.begins.head.admitted)
  unique (no_field p m k f a) (too_much t' b) =
      absurd (x_field p m k f a b.head.characteristic b.head.modulus
      (head_field b.head (end_head t' b)) b.begins.head.admitted)
  unique (no_third a) (no_first b) = absurd (x_first b a.p a.m (third_field a))
  unique (no_third a) (no_second b) = absurd (x_second b a.p a.m (third_field a))
  unique (no_third a) (no_field q l k' g b) = absurd (x_field q l k' g b a.p a.m (third_field a) a.admitted)
  unique (no_third a) (no_third b) = (refl, refl)
  unique (no_third a) (no_degree h' k' g b) = absurd (x_third a h' g)
  unique (no_third a) (no_entry t' k' b) = absurd (x_third a b.head (entry_head t' k' b))
  unique (no_third a) (too_much t' b) = absurd (x_third a b.head (end_head t' b))
  unique (no_degree h k f a) (no_first b) = absurd (x_first b h.characteristic h.modulus (head_field h f))
  unique (no_degree h k f a) (no_second b) = absurd (x_second b h.characteristic h.modulus (head_field h f))
  unique (no_degree h k f a) (no_field q l k' g b) =
      absurd (x_field q l k' g b h.characteristic h.modulus (head_field h f) f.admitted)
  unique (no_degree h k f a) (no_third b) = absurd (x_third b h f)
  unique (no_degree h k f a) (no_degree h' k' g b) = (
    refl,
    no_degree_unique h.characteristic h.degree k k' a
        (subst (λ (x : Head). IsNoDegree x.characteristic x.degree k') (sym (head_same h h' f g).0) b),
  )
  unique (no_degree h k f a) (no_entry t' k' b) = absurd (x_degree h k f a b.head (entry_head t' k' b) b.begins.head)
  unique (no_degree h k f a) (too_much t' b) = absurd (x_degree h k f a b.head (end_head t' b) b.begins.head)
  unique (no_entry t k a) (no_first b) =
      absurd (x_first b a.head.characteristic a.head.modulus (head_field a.head (entry_head t k a)))
  unique (no_entry t k a) (no_second b) =
      absurd (x_second b a.head.characteristic a.head.modulus (head_field a.head (entry_head t k a)))
  unique (no_entry t k a) (no_field q l k' g b) =
      absurd (x_field q l k' g b a.head.characteristic a.head.modulus
      (head_field a.head (entry_head t k a)) a.begins.head.admitted)
  unique (no_entry t k a) (no_third b) = absurd (x_third b a.head (entry_head t k a))
  unique (no_entry t k a) (no_degree h' k' g b) = absurd (x_degree h' k' g b a.head (entry_head t k a) a.begins.head)
  unique (no_entry t k a) (no_entry t' k' b) = entry_unique t t' k k' a b
  unique (no_entry t k a) (too_much t' b) = absurd (x_entry t k a t' b)
  unique (too_much t a) (no_first b) =
      absurd (x_first b a.head.characteristic a.head.modulus (head_field a.head (end_head t a)))
  unique (too_much t a) (no_second b) =
      absurd (x_second b a.head.characteristic a.head.modulus (head_field a.head (end_head t a)))
  unique (too_much t a) (no_field q l k' g b) =
      absurd (x_field q l k' g b a.head.characteristic a.head.modulus
      (head_field a.head (end_head t a)) a.begins.head.admitted)
  unique (too_much t a) (no_third b) = absurd (x_third b a.head (end_head t a))
  unique (too_much t a) (no_degree h' k' g b) = absurd (x_degree h' k' g b a.head (end_head t a) a.begins.head)
  unique (too_much t a) (no_entry t' k' b) = absurd (x_entry t' k' b t a)
  unique (too_much t a) (too_much t' b) = (end_unique t t' a b, refl)

  record Viewed (at : ℕ) (kind : Kind) : Type 0 where
    seen : View
    line_is : at ≡ at_of seen
    kind_is : kind ≡ kind_of seen

  lacking : (at : ℕ) → LacksLine bytes at → Viewed at Header
  lacking at (inl a) = record { seen = no_first a.1; line_is = a.0; kind_is = refl }
  lacking at (inr (inl b)) = record { seen = no_second b.1; line_is = b.0; kind_is = refl }
  lacking at (inr (inr c)) = record { seen = no_third c.1; line_is = c.0; kind_is = refl }

  viewed : (x : Extent) (at : ℕ) (kind : Kind) → IsFaultOfLines x bytes at kind → Viewed at kind
  viewed x at Header w = lacking at w
  viewed x at FieldSize w = record { seen = no_field w.1.0 w.1.1 FieldSize w.1.2 w.1.3; line_is = w.0; kind_is = refl }
  viewed x at (FieldLaw element) w =
      record { seen = no_field w.1.0 w.1.1 (FieldLaw element) w.1.2 w.1.3; line_is = w.0; kind_is = refl }
  viewed x at Degree w = record { seen = no_degree w.1.0 Degree w.1.1 w.1.2; line_is = w.0; kind_is = refl }
  viewed x at Characteristic w =
      record { seen = no_degree w.1.0 Characteristic w.1.1 (w.1.2, w.1.3, w.1.4); line_is = w.0; kind_is = refl }
  viewed whole at AfterEnd w = record { seen = too_much at w; line_is = refl; kind_is = refl }
  viewed front at AfterEnd w = record { seen = no_entry at AfterEnd w; line_is = refl; kind_is = refl }
  viewed x at EntryForm w = record { seen = no_entry at EntryForm w; line_is = refl; kind_is = refl }
  viewed x at EntryRange w = record { seen = no_entry at EntryRange w; line_is = refl; kind_is = refl }
  viewed x at EntryOrder w = record { seen = no_entry at EntryOrder w; line_is = refl; kind_is = refl }
  viewed x at ZeroDenominator w = record { seen = no_entry at ZeroDenominator w; line_is = refl; kind_is = refl }
  viewed x at PolyDegree w = record { seen = no_entry at PolyDegree w; line_is = refl; kind_is = refl }
  viewed x at NoEnd w = record { seen = no_entry at NoEnd w; line_is = refl; kind_is = refl }
  viewed x at TooLong w = record { seen = no_entry at TooLong w; line_is = refl; kind_is = refl }
  viewed x at NotText w = record { seen = no_entry at NotText w; line_is = refl; kind_is = refl }
  viewed x at NotBuilt w = record { seen = no_entry at NotBuilt w; line_is = refl; kind_is = refl }

  -- ---- the faults of the whole text, and those of its lines

  first_place : (p q : ℕ) → IsFirstNoText bytes p → IsFirstNoText bytes q → p ≡ q
  first_place p q a b = elim (cases_order p q) [
    | inl same ↦ same
    | inr (inl lower) ↦ absurd (a.no_text (b.before p lower))
    | inr (inr higher) ↦ absurd (b.no_text (a.before q higher))
  ]

  not_too_long : (x : Extent) → IsWithinLimit x bytes → IsTooLong x bytes → ⊥
  not_too_long whole within long = omega (arith, within, long)
  not_too_long front within long = long

  record OfLines (x : Extent) (at : ℕ) (kind : Kind) : Type 0 where
    within : IsWithinLimit x bytes
    text : IsText bytes
    view : Viewed at kind

  first_fault : (x : Extent) (at : ℕ) (kind : Kind) → IsFirstFault x bytes at kind
      → ((kind ≡ TooLong) × (at ≡ 0) × IsTooLong x bytes)
      ⊎ ((kind ≡ NotText) × IsWithinLimit x bytes × IsNoTextAt bytes at) ⊎ OfLines x at kind
  first_fault x at TooLong w = inl (refl, w.0, w.1)
  first_fault x at NotText w = inr (inl (refl, w.0, w.1))
  first_fault x at kind w = inr (inr (record { within = w.0; text = w.1; view = viewed x at kind w.2 }))

  pub refusal_unique : (x : Extent) (f g : Refusal) → IsRefusal x bytes f → IsRefusal x bytes g → f ≡ g
  refusal_unique x f g w v = let both = go (first_fault x f.line f.kind w) (first_fault x g.line g.kind v) in λ i.
      record { line = both.0 i; kind = both.1 i }
    where
      go : ((f.kind ≡ TooLong) × (f.line ≡ 0) × IsTooLong x bytes)
          ⊎ ((f.kind ≡ NotText) × IsWithinLimit x bytes × IsNoTextAt bytes f.line) ⊎ OfLines x f.line f.kind
          → ((g.kind ≡ TooLong) × (g.line ≡ 0) × IsTooLong x bytes)
          ⊎ ((g.kind ≡ NotText) × IsWithinLimit x bytes × IsNoTextAt bytes g.line) ⊎ OfLines x g.line g.kind
          → (f.line ≡ g.line) × (f.kind ≡ g.kind)
      go (inl a) (inl b) = (a.1 ∙ sym b.1, a.0 ∙ sym b.0)
      go (inl a) (inr (inl b)) = absurd (not_too_long x b.1 a.2)
      go (inl a) (inr (inr b)) = absurd (not_too_long x b.within a.2)
      go (inr (inl a)) (inl b) = absurd (not_too_long x a.1 b.2)
      go (inr (inl a)) (inr (inl b)) = (
        a.2.at_line ∙ ap (λ p. 1 + newlines (take p bytes)) (first_place a.2.place b.2.place a.2.first b.2.first)
            ∙ sym b.2.at_line,
        a.0 ∙ sym b.0,
      )
      go (inr (inl a)) (inr (inr b)) = absurd (a.2.first.no_text (b.text a.2.place a.2.first.within))
      go (inr (inr a)) (inl b) = absurd (not_too_long x a.within b.2)
      go (inr (inr a)) (inr (inl b)) = absurd (b.2.first.no_text (a.text b.2.place b.2.first.within))
      go (inr (inr a)) (inr (inr b)) =
          let same = unique a.view.seen b.view.seen in
          (a.view.line_is ∙ same.0 ∙ sym b.view.line_is, a.view.kind_is ∙ same.1 ∙ sym b.view.kind_is)
