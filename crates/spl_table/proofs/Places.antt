-- Where the constants of triples stand: each below the number of constants, apart, and in the order of the triples.
use Rattle.std.proofs.Common.{◌≡◌, ℕ, ◌+◌, ◌-◌, ◌*◌, ◌/◌, ◌%◌, ◌<◌, ◌≤◌, Option, Some, None, refl, sym, ap, ◌∙◌, inl}
use Rattle.std.proofs.Common.{inr, arith}
use Rattle.std.specs.Prelude.{IfSome}
use Rattle.std.proofs.lemmas.Bool.{cases_lt, cases_order}
use Rattle.std.proofs.lemmas.Nat.{mul-add-lt, div-mul-add, mod-mul-add}
use Rattle.std.proofs.Math.Nat.{mul_comm}
use Rattle.theory_rings.specs.Triples.{ComesBefore}
use Rattle.spl_table.specs.TableText.{Entry, Head, IsInRange, IsAfter, dimension_of}
use Rattle.spl_table.specs.Reading.{place, place_of, next_of, IsPrevious}

pub place-lt : (m i j k : ℕ) → i < m → j < m → k < m → place m i j k < m * m * m
place-lt m i j k i_below j_below k_below =
    let row : i * m + j < m * m = mul-add-lt i m j m i_below j_below in
    rw (mul_comm (m * m) m) (mul-add-lt (i * m + j) m k (m * m) row k_below)

-- triples at one place are one
pub place_injective : (m i j k i' j' k' : ℕ) → j < m → k < m → j' < m → k' < m → place m i j k ≡ place m i' j' k'
    → (i ≡ i') × (j ≡ j') × (k ≡ k')
place_injective m i j k i' j' k' j_below k_below j'_below k'_below e =
    let rows : i * m + j ≡ i' * m + j' = sym (div-mul-add (i * m + j) m k k_below) ∙ ap (λ x. x / m) e
    ∙ div-mul-add (i' * m + j') m k' k'_below in
    let last : k ≡ k' = sym (mod-mul-add (i * m + j) m k k_below) ∙ ap (λ x. x % m) e
    ∙ mod-mul-add (i' * m + j') m k' k'_below in
    let first : i ≡ i' = sym (div-mul-add i m j j_below) ∙ ap (λ x. x / m) rows ∙ div-mul-add i' m j' j'_below in
    let middle : j ≡ j' = sym (mod-mul-add i m j j_below) ∙ ap (λ x. x % m) rows ∙ mod-mul-add i' m j' j'_below in
    (first, middle, last)

row-lt : (m a b a' b' : ℕ) → b < m → a < a' → a * m + b < a' * m + b'
row-lt m a b a' b' b_below lower =
    let above = mul-add-lt a m b a' lower b_below in
    omega (arith, above, mul_comm m a')

-- a triple that comes before another stands before it
pub place-lt-place : (m i j k i' j' k' : ℕ) → j < m → k < m → ComesBefore i j k i' j' k'
    → place m i j k < place m i' j' k'
place-lt-place m i j k i' j' k' j_below k_below (inl lower) =
    row-lt m (i * m + j) k (i' * m + j') k' k_below (row-lt m i j i' j' j_below lower)
place-lt-place m i j k i' j' k' j_below k_below (inr (same, inl lower)) =
    row-lt m (i * m + j) k (i' * m + j') k' k_below (omega (arith, ap (λ x. x * m) same))
place-lt-place m i j k i' j' k' j_below k_below (inr (same, inr (same_too, lower))) =
    let row : i * m + j ≡ i' * m + j' = rw (same, same_too) refl in
    omega (arith, ap (λ x. x * m) row)

-- and one that stands before another comes before it
pub ComesBefore-from_place : (m i j k i' j' k' : ℕ) → j' < m → k' < m → place m i j k < place m i' j' k'
    → ComesBefore i j k i' j' k'
ComesBefore-from_place m i j k i' j' k' j'_below k'_below below =
    let not_after : ComesBefore i' j' k' i j k
    → ⊥ = λ after. omega (arith, place-lt-place m i' j' k' i j k j'_below k'_below after) in
    elim (cases_order i i') [
      | inr (inl lower) ↦ inl lower
      | inr (inr higher) ↦ absurd (not_after (inl higher))
      | inl same ↦ elim (cases_order j j') [
        | inr (inl lower) ↦ inr (same, inl lower)
        | inr (inr higher) ↦ absurd (not_after (inr (sym same, inl higher)))
        | inl same_too ↦ elim (cases_order k k') [
          | inr (inl lower) ↦ inr (same, inr (same_too, lower))
          | inr (inr higher) ↦ absurd (not_after (inr (sym same, inr (sym same_too, higher))))
          | inl all_same ↦ absurd (apart (rw (same, same_too, all_same) refl))
        ]
      ]
    ]
  where
    apart : place m i j k ≡ place m i' j' k' → ⊥
    apart e = omega arith

from_0 : (i m : ℕ) → 1 ≤ i → i ≤ m → i - 1 < m
from_0 i m low high = omega arith

pub place_of-lt : (h : Head) (e : Entry) → IsInRange h e
    → place_of (dimension_of h) e < dimension_of h * dimension_of h * dimension_of h
place_of-lt h e range =
    place-lt (dimension_of h) (e.i - 1) (e.j - 1) (e.k - 1) (from_0 e.i (dimension_of h) range.i_low range.i_high)
    (from_0 e.j (dimension_of h) range.j_low range.j_high) (from_0 e.k (dimension_of h) range.k_low range.k_high)

pub place_of-lt-place_of : (h : Head) (e f : Entry) → IsInRange h e → IsInRange h f
    → ComesBefore e.i e.j e.k f.i f.j f.k → place_of (dimension_of h) e < place_of (dimension_of h) f
place_of-lt-place_of h e f e_range f_range before =
    place-lt-place (dimension_of h) (e.i - 1) (e.j - 1) (e.k - 1) (f.i - 1) (f.j - 1) (f.k - 1)
    (from_0 e.j (dimension_of h) e_range.j_low e_range.j_high)
    (from_0 e.k (dimension_of h) e_range.k_low e_range.k_high) (counted_from_0 before)
  where
    il : 1 ≤ e.i
    il = e_range.i_low

    jl : 1 ≤ e.j
    jl = e_range.j_low

    kl : 1 ≤ e.k
    kl = e_range.k_low

    counted_from_0 : ComesBefore e.i e.j e.k f.i f.j f.k
        → ComesBefore (e.i - 1) (e.j - 1) (e.k - 1) (f.i - 1) (f.j - 1) (f.k - 1)
    counted_from_0 (inl lower) = inl (omega (arith, il))
    counted_from_0 (inr (same, inl lower)) = inr (ap (λ x. x - 1) same, inl (omega (arith, jl)))
    counted_from_0 (inr (same, inr (same_too, lower))) =
        inr (ap (λ x. x - 1) same, inr (ap (λ x. x - 1) same_too, omega (arith, kl)))

pub ComesBefore-from_place_of : (h : Head) (e f : Entry) → IsInRange h e → IsInRange h f
    → place_of (dimension_of h) e < place_of (dimension_of h) f → ComesBefore e.i e.j e.k f.i f.j f.k
ComesBefore-from_place_of h e f e_range f_range below =
    counted_from_1 (ComesBefore-from_place (dimension_of h) (e.i - 1) (e.j - 1) (e.k - 1) (f.i - 1) (f.j - 1) (f.k - 1)
    (from_0 f.j (dimension_of h) f_range.j_low f_range.j_high)
    (from_0 f.k (dimension_of h) f_range.k_low f_range.k_high) below)
  where
    ei : 1 ≤ e.i
    ei = e_range.i_low

    fi : 1 ≤ f.i
    fi = f_range.i_low

    ej : 1 ≤ e.j
    ej = e_range.j_low

    fj : 1 ≤ f.j
    fj = f_range.j_low

    ek : 1 ≤ e.k
    ek = e_range.k_low

    fk : 1 ≤ f.k
    fk = f_range.k_low

    counted_from_1 : ComesBefore (e.i - 1) (e.j - 1) (e.k - 1) (f.i - 1) (f.j - 1) (f.k - 1)
        → ComesBefore e.i e.j e.k f.i f.j f.k
    counted_from_1 (inl lower) = inl (omega (arith, ei, fi))
    counted_from_1 (inr (same, inl lower)) = inr (omega (arith, ei, fi, same), inl (omega (arith, ej, fj)))
    counted_from_1 (inr (same, inr (same_too, lower))) =
        inr (omega (arith, ei, fi, same), inr (omega (arith, ej, fj, same_too), omega (arith, ek, fk)))

-- ---- the entry before

pub after_previous : (h : Head) (next : ℕ) (previous : Option Entry) (e : Entry) → IsPrevious h next previous
    → IsInRange h e → next ≤ place_of (dimension_of h) e → IsAfter previous e
after_previous h next previous e is range later = go previous is.range is.place
  where
    go : (d : Option Entry) → IfSome d (IsInRange h) → next ≡ next_of (dimension_of h) d → IsAfter d e
    go None d_range at = tt
    go (Some d) d_range at = ComesBefore-from_place_of h d e d_range range (omega (arith, at, later))

pub not_after_previous : (h : Head) (next : ℕ) (previous : Option Entry) (e : Entry) → IsPrevious h next previous
    → IsInRange h e → place_of (dimension_of h) e < next → IsAfter previous e → ⊥
not_after_previous h next previous e is range earlier after = go previous is.range is.place after
  where
    go : (d : Option Entry) → IfSome d (IsInRange h) → next ≡ next_of (dimension_of h) d → IsAfter d e → ⊥
    go None d_range at d_after = omega (arith, at, earlier)
    go (Some d) d_range at d_after = omega (arith, at, earlier, place_of-lt-place_of h d e d_range range d_after)

pub after_next : (h : Head) (next : ℕ) (previous : Option Entry) (e : Entry) → IsPrevious h next previous
    → IsInRange h e → IsAfter previous e → next ≤ place_of (dimension_of h) e
after_next h next previous e is range after =
    elim (cases_lt (place_of (dimension_of h) e) next) [
      | inl earlier ↦ absurd (not_after_previous h next previous e is range earlier after)
      | inr later ↦ later
    ]
