-- A word of p^(i + 1) letters is left as it is by p^i turns, or all its turns differ, and then one of them is the first
-- in an order.
use Rattle.std.specs.Prelude.{◌≡◌, ℕ, zero, suc, ◌+◌, ◌-◌, ◌^◌, ◌<◌, ◌≤◌, Bool, true, false, List, length, leb, ◌&&◌}
use Rattle.std.proofs.Common.{refl, sym, ◌∙◌, ap, subst, arith, ⊎_elim}
use Rattle.std.proofs.lemmas.Bool.{cases_lt, cases_Bool, le-leb, leb-true, and_parts, and_from}
use Rattle.std.proofs.lemmas.Nat.Gcd.{le_of_dvd}
use Rattle.theory_rings.specs.Prime.{IsPrime}
use Rattle.theory_rings.proofs.Numbers.Primes.{IsPrime-pow_mem}
use Rattle.theory_radical.proofs.Words.Words.{turn, turns, length-turns, turns-add, turns-length, turns_injective}
use Rattle.theory_radical.proofs.Words.Words.{fixing_closed, code, code_injective}

-- the turns 0, .., n − 1 of w have a code of at least c
abbrev pub least_of : ℕ → ℕ → List Bool → Bool
least_of zero c w = true
least_of (suc n) c w = leb c (code w) && least_of n c (turn w)

-- no turn of w comes before w
abbrev pub is_first : ℕ → List Bool → Bool
is_first n w = least_of n (code w) w

least_of-sound : (n c : ℕ) (w : List Bool) → least_of n c w ≡ true → (j : ℕ) → j < n → c ≤ code (turns j w)
least_of-sound zero c w h j l = absurd (omega arith)
least_of-sound (suc n) c w h zero l = leb-true c (code w) (and_parts (leb c (code w)) (least_of n c (turn w)) h).0
least_of-sound (suc n) c w h (suc j) l =
    least_of-sound n c (turn w) (and_parts (leb c (code w)) (least_of n c (turn w)) h).1 j (omega arith)

least_of-complete : (n c : ℕ) (w : List Bool) → ((j : ℕ) → j < n → c ≤ code (turns j w)) → least_of n c w ≡ true
least_of-complete zero c w h = refl
least_of-complete (suc n) c w h =
    and_from (leb c (code w)) (least_of n c (turn w)) (le-leb c (code w) (h 0 (omega arith)))
    (least_of-complete n c (turn w) (λ j l. h (suc j) (omega arith)))

-- the place of a least value
least_place : (n : ℕ) (f : ℕ → ℕ) → (k : ℕ) × (k < suc n) × ((j : ℕ) → j < suc n → f k ≤ f j)
least_place zero f = (0, omega arith, λ j l. let e : j ≡ 0 = omega arith in rw e (omega arith))
least_place (suc n) f =
    let r = least_place n f in
    ⊎_elim
    (λ (h : f (suc n) < f r.0). (
      suc n,
      omega arith,
      λ j l.
          ⊎_elim (λ (g : j < suc n). let a = r.2 j g in omega arith)
          (λ (g : suc n ≤ j). let e : j ≡ suc n = omega arith in rw e (omega arith)) (cases_lt j (suc n)),
    ))
    (λ (h : f r.0 ≤ f (suc n)). (
      r.0,
      (let a = r.1 in omega arith),
      λ j l.
          ⊎_elim (λ (g : j < suc n). r.2 j g) (λ (g : suc n ≤ j). let e : j ≡ suc n = omega arith in rw e h)
          (cases_lt j (suc n)),
    ))
    (cases_lt (f (suc n)) (f r.0))

-- no turn but the 0th gives w again
pub record TurnsDiffer (n : ℕ) (w : List Bool) : Type 0 where
  pub apart : (j : ℕ) → 0 < j → j < n → turns j w ≡ w → ⊥

module _ (n : ℕ) (w : List Bool) (len : length w ≡ n) (pos : 0 < n) (d : TurnsDiffer n w) where
  -- each turn is a turn of each other turn
  between : (k j : ℕ) → k < n → j < n → (i : ℕ) × (i < n) × (turns i (turns k w) ≡ turns j w)
  between k j a b = ⊎_elim
      (λ (l : j < k). (
        n + j - k,
        omega arith,
        sym (turns-add k (n + j - k) w) ∙ (let e : k + (n + j - k) ≡ n + j = omega arith in ap (λ i. turns i w) e)
            ∙ turns-add n j w ∙ ap (turns j) (ap (λ i. turns i w) (sym len) ∙ turns-length w),
      ))
      (λ (l : k ≤ j). (
        j - k,
        omega arith,
        sym (turns-add k (j - k) w)
            ∙ (let e : k + (j - k) ≡ j = omega arith in ap (λ i. turns i w) e),
      ))
      (cases_lt j k)

  same_turn : (k j : ℕ) → k < j → j < n → turns k w ≡ turns j w → ⊥
  same_turn k j a b e =
      let q : j ≡ (j - k) + k = omega arith in
      d.apart (j - k) (omega arith) (omega arith)
      (turns_injective k (turns (j - k) w) w (length-turns (j - k) w)
      (sym (turns-add (j - k) k w) ∙ ap (λ i. turns i w) (sym q) ∙ sym e))

  both_first : (k j : ℕ) → k < n → j < n → is_first n (turns k w) ≡ true → is_first n (turns j w) ≡ true → j ≡ k
  both_first k j a b x y =
      let u = between k j a b in
      let v = between j k b a in
      let h1 = least_of-sound n (code (turns k w)) (turns k w) x u.0 u.1 in
      let h2 = least_of-sound n (code (turns j w)) (turns j w) y v.0 v.1 in
      let g1 : code (turns k w) ≤ code (turns j w) = subst (λ z. code (turns k w) ≤ code z) u.2 h1 in
      let g2 : code (turns j w) ≤ code (turns k w) = subst (λ z. code (turns j w) ≤ code z) v.2 h2 in
      let e : turns k w ≡ turns j w = code_injective (turns k w) (turns j w) (omega arith) in
      ⊎_elim (λ (l : k < j). absurd (same_turn k j l b e))
      (λ (l : j ≤ k). ⊎_elim (λ (g : j < k). absurd (same_turn j k g a (sym e))) (λ (g : k ≤ j). omega arith)
      (cases_lt j k)) (cases_lt k j)

  wrapped : (k j : ℕ) → k < n → j < n → (i : ℕ) × (i < n) × (turns j (turns k w) ≡ turns i w)
  wrapped k j a b = ⊎_elim
      (λ (l : k + j < n). (k + j, l, sym (turns-add k j w)))
      (λ (l : n ≤ k + j). (
        k + j - n,
        omega arith,
        sym (turns-add k j w) ∙ (let e : k + j ≡ n + (k + j - n) = omega arith in ap (λ i. turns i w) e)
            ∙ turns-add n (k + j - n) w ∙ ap (turns (k + j - n)) (ap (λ i. turns i w) (sym len) ∙ turns-length w),
      ))
      (cases_lt (k + j) n)

  -- exactly one turn is the first
  pub one_first : (k : ℕ) × (k < n) × (is_first n (turns k w) ≡ true)
      × ((j : ℕ) → j < n → (j ≡ k → ⊥) → is_first n (turns j w) ≡ false)
  one_first =
      let m = n - 1 in
      let e : suc m ≡ n = omega arith in
      let r = least_place m (λ k. code (turns k w)) in
      let l : r.0 < n = (let a = r.1 in omega arith) in
      let f : is_first n (turns r.0 w) ≡ true = least_of-complete n (code (turns r.0 w)) (turns r.0 w)
      (λ j g. let u = wrapped r.0 j l g in let b = u.1 in
      subst (λ z. code (turns r.0 w) ≤ code z) (sym u.2) (r.2 u.0 (omega arith))) in (
        r.0,
        l,
        f,
        λ j g no.
            ⊎_elim (λ (t : is_first n (turns j w) ≡ true). absurd (no (both_first r.0 j l g f t)))
            (λ (t : is_first n (turns j w) ≡ false). t) (cases_Bool (is_first n (turns j w))),
      )

-- a word of p^(i + 1) letters is left as it is by p^i turns, or its turns differ
pub turns_differ : (p : ℕ) → IsPrime p → (i : ℕ) (w : List Bool) → length w ≡ p ^ suc i → (turns (p ^ i) w ≡ w → ⊥)
    → TurnsDiffer (p ^ suc i) w
turns_differ p prime i w len other = record {
  apart = λ j a b e. other
      (IsPrime-pow_mem p prime i j (λ k. turns k w ≡ w) (fixing_closed w)
      (ap (λ k. turns k w) (sym len) ∙ turns-length w) e
      (λ h. let l = le_of_dvd a h in omega arith));
}
