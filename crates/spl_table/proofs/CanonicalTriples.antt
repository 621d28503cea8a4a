-- The triples of basis elements in order, and the entries of those whose constant is not 0.
use Rattle.std.proofs.Common.{◌≡◌, ◌⊎◌, ℕ, zero, suc, ◌+◌, ◌-◌, ◌*◌, ◌<◌, ◌≤◌, ◌&&◌, Bool, true, false, cond, eqb}
use Rattle.std.proofs.Common.{List, [], ◌∷◌, ◌++◌, length, Option, Some, None, refl, sym, ap, ap₂, subst, ◌∙◌, inl, inr}
use Rattle.std.proofs.Common.{append-nil, arith, length-append}
use Rattle.std.specs.Prelude.{map}
use Rattle.std.specs.List.{flat_map, filter, AllByRecursion}
use Rattle.std.proofs.lemmas.Bool.{eqb-true, eq-eqb, and_parts, cases_lt}
use Rattle.std.proofs.lemmas.List.Concat.{flat_map-append}
use Rattle.theory_rings.proofs.Sums.Lists.{length-table}
use Rattle.theory_fractions.specs.Fraction.{Pair}
use Rattle.theory_tables.specs.Structure.{Structure}
use Rattle.spl_text.specs.Text.{FractionText}
use Rattle.spl_fraction.specs.CanonicalWords.{words_of}
use Rattle.spl_table.specs.TableText.{Entry, Head, dimension_of, constant_at, IsInRange, IsAfter, IsRightEntry}
use Rattle.spl_table.specs.TableText.{AreRightEntries}
use Rattle.spl_table.specs.Reading.{place, place_of, IsPrevious}
use Rattle.spl_table.specs.CanonicalTable.{first_numbers, triples_from_pair, triples_from, triples, constant_of}
use Rattle.spl_table.specs.CanonicalTable.{is_nonzero, canonical_entry, nonzero_entries}
use Rattle.spl_table.proofs.Places.{after_previous}

abbrev pub Triple : Type 0
Triple = ℕ × ℕ × ℕ

-- the triples of one number more
pub flat_map_first : (f : ℕ → List Triple) (n : ℕ)
    → flat_map f (first_numbers n) ++ f n ≡ flat_map f (first_numbers (suc n))
flat_map_first f n =
    ap (λ t. flat_map f (first_numbers n) ++ t) (sym (append-nil (f n)))
    ∙ sym (flat_map-append f (first_numbers n) (n ∷ []))

-- ---- there are m³

length_first : (f : ℕ → List Triple) (c : ℕ) → ((i : ℕ) → length (f i) ≡ c) → (n : ℕ)
    → length (flat_map f (first_numbers n)) ≡ n * c
length_first f c each zero = omega arith
length_first f c each (suc n) =
    ap length (sym (flat_map_first f n))
    ∙ omega (arith, length-append (flat_map f (first_numbers n)) (f n), each n, length_first f c each n)

pub length_triples : (m : ℕ) → length (triples m) ≡ m * (m * m)
length_triples m =
    length_first (triples_from m) (m * m)
    (λ i. length_first (triples_from_pair m i) m (λ j. length-table m (λ k. (i, j, k))) m) m

-- ---- each is in the list

abbrev pub In : Triple → List Triple → Type 0
In t [] = ⊥
In t (s ∷ ss) = (s ≡ t) ⊎ In t ss

In-left : (t : Triple) (xs ys : List Triple) → In t xs → In t (xs ++ ys)
In-left t [] ys h = absurd h
In-left t (x ∷ xs) ys (inl same) = inl same
In-left t (x ∷ xs) ys (inr later) = inr (In-left t xs ys later)

In-right : (t : Triple) (xs ys : List Triple) → In t ys → In t (xs ++ ys)
In-right t [] ys h = h
In-right t (x ∷ xs) ys h = inr (In-right t xs ys h)

In-first : (t : Triple) (f : ℕ → List Triple) (n i : ℕ) → i < n → In t (f i) → In t (flat_map f (first_numbers n))
In-first t f zero i below h = absurd (omega arith)
In-first t f (suc n) i below h =
    subst (In t) (flat_map_first f n)
    (elim (cases_lt i n) [
      | inl lower ↦ In-left t (flat_map f (first_numbers n)) (f n) (In-first t f n i lower h)
      | inr last ↦ let e : i ≡ n = omega arith in
          In-right t (flat_map f (first_numbers n)) (f n) (subst (λ j. In t (f j)) e h)
    ])

In-pair : (m i j k : ℕ) → k < m → In (i, j, k) (triples_from_pair m i j)
In-pair zero i j k below = absurd (omega arith)
In-pair (suc m) i j k below =
    elim (cases_lt k m) [
      | inl lower ↦ In-left (i, j, k) (triples_from_pair m i j) ((i, j, m) ∷ []) (In-pair m i j k lower)
      | inr last ↦ let e : m ≡ k = omega arith in
          In-right (i, j, k) (triples_from_pair m i j) ((i, j, m) ∷ []) (inl (ap (λ n. (i, j, n)) e))
    ]

pub In-triples : (m i j k : ℕ) → i < m → j < m → k < m → In (i, j, k) (triples m)
In-triples m i j k il jl kl =
    In-first (i, j, k) (triples_from m) m i il
    (In-first (i, j, k) (triples_from_pair m i) m j jl (In-pair m i j k kl))

-- ---- they increase

module _ (m : ℕ) where
  abbrev at_place : Triple → ℕ
  at_place t = place m t.0 t.1 t.2

  -- increasing triples below m, whose places are from low up to high
  abbrev pub Rising : ℕ → ℕ → List Triple → Type 0
  Rising low high [] = low ≤ high
  Rising low high (t ∷ ts) =
      (t.0 < m) × (t.1 < m) × (t.2 < m) × (low ≤ at_place t) × Rising (at_place t + 1) high ts

  Rising-lower : (low least high : ℕ) (ts : List Triple) → least ≤ low → Rising low high ts → Rising least high ts
  Rising-lower low least high [] le rising = omega arith
  Rising-lower low least high (t ∷ ts) le (a, b, c, d, rest) = (a, b, c, omega arith, rest)

  Rising-append : (low middle high : ℕ) (ts us : List Triple) → Rising low middle ts → Rising middle high us
      → Rising low high (ts ++ us)
  Rising-append low middle high [] us first second = Rising-lower middle low high us first second
  Rising-append low middle high (t ∷ ts) us (a, b, c, d, rest) second =
      (a, b, c, d, Rising-append (at_place t + 1) middle high ts us rest second)

  rising_pair : (i j n : ℕ) → i < m → j < m → n ≤ m → Rising (place m i j 0) (place m i j n) (triples_from_pair n i j)
  rising_pair i j zero il jl most = omega arith
  rising_pair i j (suc n) il jl most =
      let box : n < m = omega arith in
      let last : place m i j n + 1 ≤ place m i j (suc n) = omega arith in
      let here : place m i j n ≤ place m i j n = omega arith in
      Rising-append (place m i j 0) (place m i j n) (place m i j (suc n)) (triples_from_pair n i j) ((i, j, n) ∷ [])
      (rising_pair i j n il jl (omega arith)) (il, jl, box, here, last)

  rising_from : (i n : ℕ) → i < m → n ≤ m
      → Rising (place m i 0 0) (place m i n 0) (flat_map (triples_from_pair m i) (first_numbers n))
  rising_from i zero il most = omega arith
  rising_from i (suc n) il most =
      let end : place m i n m ≡ place m i (suc n) 0 = omega arith in
      subst (Rising (place m i 0 0) (place m i (suc n) 0)) (flat_map_first (triples_from_pair m i) n)
      (Rising-append (place m i 0 0) (place m i n 0) (place m i (suc n) 0)
      (flat_map (triples_from_pair m i) (first_numbers n)) (triples_from_pair m i n)
      (rising_from i n il (omega arith))
      (subst (λ p. Rising (place m i n 0) p (triples_from_pair m i n)) end
      (rising_pair i n m il (omega arith) (omega arith))))

  rising_first : (n : ℕ) → n ≤ m → Rising 0 (place m n 0 0) (flat_map (triples_from m) (first_numbers n))
  rising_first zero most = omega arith
  rising_first (suc n) most =
      let end : place m n m 0 ≡ place m (suc n) 0 0 = omega arith in
      subst (Rising 0 (place m (suc n) 0 0)) (flat_map_first (triples_from m) n)
      (Rising-append 0 (place m n 0 0) (place m (suc n) 0 0)
      (flat_map (triples_from m) (first_numbers n)) (triples_from m n)
      (rising_first n (omega arith))
      (subst (λ p. Rising (place m n 0 0) p (triples_from m n)) end
      (rising_from n m (omega arith) (omega arith))))

  pub rising_triples : Rising 0 (place m m 0 0) (triples m)
  rising_triples = rising_first m (omega arith)

-- ---- the entries

module _ (A : Structure (Pair ℕ)) where
  -- the entry of a triple that is kept, and those after it
  abbrev kept_with : Triple → List Triple → Bool → List Entry
  kept_with t ts b =
      map (λ s. canonical_entry A s.0 s.1 s.2)
      (cond b (t ∷ filter (λ s. is_nonzero (constant_of A s.0 s.1 s.2)) ts)
      (filter (λ s. is_nonzero (constant_of A s.0 s.1 s.2)) ts))

  module _ (h : Head) (P : Entry → Type 0)
      (range : (i j k : ℕ) → i < dimension_of h → j < dimension_of h → k < dimension_of h
      → IsInRange h (canonical_entry A i j k))
      (right : (i j k : ℕ) → i < dimension_of h → j < dimension_of h → k < dimension_of h → (previous : Option Entry)
      → IsAfter previous (canonical_entry A i j k) → IsRightEntry h previous (canonical_entry A i j k))
      (other : (i j k : ℕ) → i < dimension_of h → j < dimension_of h → k < dimension_of h
      → P (canonical_entry A i j k)) where
    pub right_entries : (low high next : ℕ) (previous : Option Entry) (ts : List Triple)
        → Rising (dimension_of h) low high ts → IsPrevious h next previous → next ≤ low
        → AreRightEntries h previous (nonzero_entries A ts) × AllByRecursion P (nonzero_entries A ts)
    right_entries low high next previous [] rising is before = (tt, tt)
    right_entries low high next previous (t ∷ ts) (a, b, c, d, rest) is before =
        go (is_nonzero (constant_of A t.0 t.1 t.2))
        (right_entries (place (dimension_of h) t.0 t.1 t.2 + 1) high (place (dimension_of h) t.0 t.1 t.2 + 1)
        (Some e) ts rest (record { range = range t.0 t.1 t.2 a b c; place = ap (λ p. p + 1) (sym at) }) (omega arith))
        (right_entries (place (dimension_of h) t.0 t.1 t.2 + 1) high next previous ts rest is (omega arith))
      where
        e : Entry
        e = canonical_entry A t.0 t.1 t.2

        at : place_of (dimension_of h) e ≡ place (dimension_of h) t.0 t.1 t.2
        at =
            let i : t.0 + 1 - 1 ≡ t.0 = omega arith in
            let j : t.1 + 1 - 1 ≡ t.1 = omega arith in
            let k : t.2 + 1 - 1 ≡ t.2 = omega arith in
            rw (i, j, k) refl

        go : (kept : Bool)
            → AreRightEntries h (Some e) (nonzero_entries A ts) × AllByRecursion P (nonzero_entries A ts)
            → AreRightEntries h previous (nonzero_entries A ts) × AllByRecursion P (nonzero_entries A ts)
            → AreRightEntries h previous (kept_with t ts kept) × AllByRecursion P (kept_with t ts kept)
        go false after_this after_previous_one = after_previous_one
        go true after_this after_previous_one = (
          (
            right t.0 t.1 t.2 a b c previous
                (after_previous h next previous e is (range t.0 t.1 t.2 a b c) (omega (arith, at, d, before))),
            after_this.0,
          ),
          (other t.0 t.1 t.2 a b c, after_this.1),
        )

  -- ---- the constants that they give

  module _ (i j k : ℕ) where
    abbrev value : Pair ℕ
    value = constant_of A i j k

    abbrev names : Triple → Bool
    names t = (eqb (t.0 + 1) (i + 1) && eqb (t.1 + 1) (j + 1)) && eqb (t.2 + 1) (k + 1)

    named : (t : Triple) → names t ≡ true → constant_of A t.0 t.1 t.2 ≡ value
    named t is =
        let last = and_parts (eqb (t.0 + 1) (i + 1) && eqb (t.1 + 1) (j + 1)) (eqb (t.2 + 1) (k + 1)) is in
        let first = and_parts (eqb (t.0 + 1) (i + 1)) (eqb (t.1 + 1) (j + 1)) last.0 in
        let a : t.0 + 1 ≡ i + 1 = eqb-true (t.0 + 1) (i + 1) first.0 in
        let b : t.1 + 1 ≡ j + 1 = eqb-true (t.1 + 1) (j + 1) first.1 in
        let c : t.2 + 1 ≡ k + 1 = eqb-true (t.2 + 1) (k + 1) last.1 in
        let x : t.0 ≡ i = omega arith in
        let y : t.1 ≡ j = omega arith in
        let z : t.2 ≡ k = omega arith in
        ap₂ (λ p q. constant_of A p q t.2) x y ∙ ap (constant_of A i j) z

    names_own : (t : Triple) → t ≡ (i, j, k) → names t ≡ true
    names_own t is =
        rw (
          eq-eqb (t.0 + 1) (i + 1) (ap (λ (s : Triple). s.0 + 1) is),
          eq-eqb (t.1 + 1) (j + 1) (ap (λ (s : Triple). s.1 + 1) is),
          eq-eqb (t.2 + 1) (k + 1) (ap (λ (s : Triple). s.2 + 1) is),
        ) refl

    abbrev found : List Entry → Option FractionText
    found es = constant_at es (i + 1) (j + 1) (k + 1)

    abbrev found_with : Triple → List Triple → Bool → Option FractionText
    found_with t ts b = cond b (Some (words_of (constant_of A t.0 t.1 t.2))) (found (nonzero_entries A ts))

    -- no entry names a triple whose constant is 0
    pub none_named : is_nonzero value ≡ false → (ts : List Triple) → found (nonzero_entries A ts) ≡ None
    none_named zero_here [] = refl
    none_named zero_here (t ∷ ts) = kept (is_nonzero (constant_of A t.0 t.1 t.2)) refl (none_named zero_here ts)
      where
        name : (b : Bool) → names t ≡ b → is_nonzero (constant_of A t.0 t.1 t.2) ≡ true
            → found (nonzero_entries A ts) ≡ None → found_with t ts b ≡ None
        name false other kept_too rest = rest
        name true same kept_too rest =
            let left : is_nonzero (constant_of A t.0 t.1 t.2) ≡ false = ap is_nonzero (named t same) ∙ zero_here in
            absurd (cc)

        kept : (b : Bool) → is_nonzero (constant_of A t.0 t.1 t.2) ≡ b → found (nonzero_entries A ts) ≡ None
            → found (kept_with t ts b) ≡ None
        kept false left rest = rest
        kept true kept_too rest = name (names t) refl kept_too rest

    -- and a triple in the list has the words of its constant
    pub one_named : is_nonzero value ≡ true → (ts : List Triple) → In (i, j, k) ts
        → found (nonzero_entries A ts) ≡ Some (words_of value)
    one_named some [] h = absurd h
    one_named some (t ∷ ts) (inl same) = kept (is_nonzero (constant_of A t.0 t.1 t.2)) refl
      where
        here : constant_of A t.0 t.1 t.2 ≡ value
        here = ap (λ (s : Triple). constant_of A s.0 s.1 s.2) same

        name : (b : Bool) → names t ≡ b → found_with t ts b ≡ Some (words_of value)
        name false other = absurd (let own = names_own t same in cc)
        name true own = ap (λ (w : Pair ℕ). Some (words_of w)) here

        kept : (b : Bool) → is_nonzero (constant_of A t.0 t.1 t.2) ≡ b
            → found (kept_with t ts b) ≡ Some (words_of value)
        kept false left =
            let kept_too : is_nonzero (constant_of A t.0 t.1 t.2) ≡ true = ap is_nonzero here ∙ some in
            absurd (cc)
        kept true kept_too = name (names t) refl
    one_named some (t ∷ ts) (inr later) = kept (is_nonzero (constant_of A t.0 t.1 t.2)) (one_named some ts later)
      where
        name : (b : Bool) → names t ≡ b → found (nonzero_entries A ts) ≡ Some (words_of value)
            → found_with t ts b ≡ Some (words_of value)
        name false other rest = rest
        name true same rest = ap (λ (w : Pair ℕ). Some (words_of w)) (named t same)

        kept : (b : Bool) → found (nonzero_entries A ts) ≡ Some (words_of value)
            → found (kept_with t ts b) ≡ Some (words_of value)
        kept false rest = rest
        kept true rest = name (names t) refl rest
