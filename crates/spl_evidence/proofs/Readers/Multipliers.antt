-- Multipliers in order: one more at the end, and how many there can be.
use Rattle.std.proofs.Common.{◌≡◌, ◌≢◌, ◌⊎◌, ℕ, zero, suc, ◌+◌, ◌-◌, ◌*◌, ◌<◌, ◌≤◌, List, [], ◌∷◌, ◌++◌, length, get_or}
use Rattle.std.proofs.Common.{refl, sym, ap, subst, ◌∙◌, inl, inr, ⊎_elim, arith}
use Rattle.std.proofs.Math.Nat.{mul-le-mul_right}
use Rattle.std.proofs.Math.Seq.{get_or-append_seam}
use Rattle.std.proofs.lemmas.List.{length-append, get_or_append_left}
use Rattle.std.proofs.lemmas.List.Elements.{All-push, All-from_get_or}
use Rattle.std.proofs.lemmas.Bool.{cases_lt}
use Rattle.theory_rings.specs.Ops.{Ops, IsElem}
use Rattle.theory_tables.specs.Claims.{AreMultipliers, PairBefore}

PairBefore-trans : (a b c d e f : ℕ) → PairBefore a b c d → PairBefore c d e f → PairBefore a b e f
PairBefore-trans a b c d e f (inl p) (inl q) = inl (omega arith)
PairBefore-trans a b c d e f (inl p) (inr q) = inl (omega (arith, q.0))
PairBefore-trans a b c d e f (inr p) (inl q) = inl (omega (arith, p.0))
PairBefore-trans a b c d e f (inr p) (inr q) = inr (p.0 ∙ q.0, omega (arith, p.1, q.1))

module _ {E : Type 0} (o : Ops E) (m : ℕ) where
  abbrev Item : Type 0
  Item = ℕ × ℕ × E

  abbrev none : Item
  none = (0, 0, o.zero)

  abbrev pub last_of : List Item → Item
  last_of xs = get_or xs (length xs - 1) none

  pub last-push : (xs : List Item) (x : Item) → last_of (xs ++ x ∷ []) ≡ x
  last-push xs x =
      let place : length (xs ++ x ∷ []) - 1 ≡ length xs = omega (arith, length-append xs (x ∷ [])) in
      ap (λ i. get_or (xs ++ x ∷ []) i none) place ∙ get_or-append_seam xs x [] none

  -- what holds of each item, and of one more
  each-push : (P : Item → Type 0) (xs : List Item) (x : Item)
      → ((s : ℕ) → s < length xs → P (get_or xs s none)) → P x
      → (s : ℕ) → s < length (xs ++ x ∷ []) → P (get_or (xs ++ x ∷ []) s none)
  each-push P xs x h p s below = All-push P xs x (All-from_get_or P xs none h) p s none below

  abbrev Before : Item → Item → Type 0
  Before x y = PairBefore x.0 x.1 y.0 y.1

  module _ (xs : List Item) (h : AreMultipliers o m xs) where
    -- each comes before what the last one comes before
    all_before : (x : Item) → (0 < length xs → Before (last_of xs) x) → (s : ℕ) → s < length xs
        → Before (get_or xs s none) x
    all_before x last s below = ⊎_elim
        (λ (early : s < length xs - 1).
        let y = get_or xs s none in
        let z = last_of xs in
        PairBefore-trans y.0 y.1 z.0 z.1 x.0 x.1 (h.order s (length xs - 1) early (omega arith))
        (last (omega arith)))
        (λ (late : length xs - 1 ≤ s).
        let at : length xs - 1 ≡ s = omega arith in
        subst (λ i. Before (get_or xs i none) x) at (last (omega arith)))
        (cases_lt s (length xs - 1))

    pub AreMultipliers-push : (x : Item) → (1 ≤ x.0) × (x.0 ≤ m) → (1 ≤ x.1) × (x.1 ≤ m) → IsElem o x.2
        → x.2 ≢ o.zero → (0 < length xs → Before (last_of xs) x) → AreMultipliers o m (xs ++ x ∷ [])
    AreMultipliers-push x first second elem nonzero last = record {
      first_low = each-push (λ y. 1 ≤ y.0) xs x h.first_low first.0;
      first_high = each-push (λ y. y.0 ≤ m) xs x h.first_high first.1;
      second_low = each-push (λ y. 1 ≤ y.1) xs x h.second_low second.0;
      second_high = each-push (λ y. y.1 ≤ m) xs x h.second_high second.1;
      of_field = each-push (λ y. IsElem o y.2) xs x h.of_field elem;
      nonzero = each-push (λ y. y.2 ≢ o.zero) xs x h.nonzero nonzero;
      order = λ s t before below. ordered s t before (omega (arith, below, length-append xs (x ∷ [])));
    }
      where
        ordered : (s t : ℕ) → s < t → t < length xs + 1
            → Before (get_or (xs ++ x ∷ []) s none) (get_or (xs ++ x ∷ []) t none)
        ordered s t before below = ⊎_elim
            (λ (inside : t < length xs).
            let early : s < length xs = omega arith in
            rw (get_or_append_left xs (x ∷ []) none s early)
            (rw (get_or_append_left xs (x ∷ []) none t inside) (h.order s t before inside)))
            (λ (outside : length xs ≤ t).
            let at : length xs ≡ t = omega arith in
            let early : s < length xs = omega arith in
            let found : get_or (xs ++ x ∷ []) t none ≡ x =
            ap (λ i. get_or (xs ++ x ∷ []) i none) (sym at) ∙ get_or-append_seam xs x [] none in
            rw (get_or_append_left xs (x ∷ []) none s early) (rw found (all_before x last s early)))
            (cases_lt t (length xs))

    -- ---- how many there are

    -- the place of a pair among all m², counted from 1
    place : Item → ℕ
    place x = (x.0 - 1) * m + x.1

    place_grows : (s : ℕ) → s < length xs → s < (((get_or xs s none).0 - 1) * m + (get_or xs s none).1)
    place_grows zero below = omega (arith, h.second_low 0 below)
    place_grows (suc s) below =
        let y = get_or xs s none in
        let z = get_or xs (suc s) none in
        let early : s < length xs = omega arith in
        go (y.0 - 1) y.1 (z.0 - 1) z.1 (place_grows s early) (h.second_high s early) (h.second_low (suc s) below)
        (order y.0 y.1 z.0 z.1 (h.first_low s early) (h.order s (suc s) (omega arith) below))
      where
        order : (a b c d : ℕ) → 1 ≤ a → PairBefore a b c d → (suc (a - 1) ≤ c - 1) ⊎ ((a - 1 ≡ c - 1) × (b < d))
        order a b c d low (inl p) = inl (omega arith)
        order a b c d low (inr p) = inr (omega (arith, p.0), p.1)

        go : (i k i' k' : ℕ) → s < i * m + k → k ≤ m → 1 ≤ k' → (suc i ≤ i') ⊎ ((i ≡ i') × (k < k'))
            → suc s < i' * m + k'
        go i k i' k' before high low (inl p) = omega (arith, mul-le-mul_right m p)
        go i k i' k' before high low (inr p) = let e : i * m ≡ i' * m = ap (λ j. j * m) p.0 in omega (arith, e, p.1)

    pub few_multipliers : length xs ≤ m * m
    few_multipliers = go (length xs) refl
      where
        go : (count : ℕ) → count ≡ length xs → count ≤ m * m
        go zero e = omega arith
        go (suc s) e =
            let below : s < length xs = omega (arith, e) in
            let z = get_or xs s none in
            let row : suc (z.0 - 1) ≤ m = omega (arith, h.first_low s below, h.first_high s below) in
            omega (arith, place_grows s below, h.second_high s below, mul-le-mul_right m row)
