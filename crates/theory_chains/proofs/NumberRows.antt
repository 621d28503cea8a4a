-- Rows of numbers for elements of a ring of lists: their products by t, by x and by each other.
use Rattle.std.specs.Prelude.{◌≡◌, ℕ, zero, suc, ◌+◌, ◌-◌, ◌*◌, ◌/◌, ◌%◌, ◌<◌, ◌≤◌, List, [], length, get_or, cond}
use Rattle.std.specs.Prelude.{nat_eq, nat_lt}
use Rattle.std.proofs.Common.{sym, ◌∙◌, ap, ap₂, arith, ⊎_elim}
use Rattle.std.proofs.Math.Nat as nat
use Rattle.std.proofs.Math.Nat.{div-add-mod', mod-eq_of_lt, mod-lt}
use Rattle.std.proofs.lemmas.Bool.{cases_lt, cases_eq, lt-ltb, eq-eqb}
use Rattle.std.proofs.lemmas.Nat.{mod-mul-add}
use Rattle.theory_rings.specs.Ring.{CommRingOn}
use Rattle.theory_rings.specs.Sum.{sum, table}
use Rattle.theory_rings.specs.Naturals.{nat_monoid}
use Rattle.theory_rings.specs.IntegersMod.{mod_ops}
use Rattle.theory_rings.proofs.Sums.Sums.{sum_congr}
use Rattle.theory_rings.proofs.Sums.Lists.{get_or-table}
use Rattle.theory_rings.proofs.Sums.NaturalSums.{sum-mod}
use Rattle.theory_spaces.proofs.Matrices.PairIndex.{pair-lt, row-lt}
use Rattle.theory_spaces.proofs.Tuples.Tuples.{IsTuple-is_tuple, IsTuple-table, at-table}
use Rattle.std.proofs.lemmas.Bool.{lt-ltb}
use Rattle.theory_lifts.proofs.ListProducts.{Numbers, ListRing, ent, ent-ext, ent-tau, ent-xi, ent-product}
use Rattle.theory_lifts.proofs.ListProducts.{ent-sum, mono}
use Rattle.theory_lifts.proofs.ListProducts.{top, sum_pairs}
use Rattle.theory_chains.specs.NumberRows.{shifted_number, turned_number, combined_number, AreNumbers, AreRows}

module _ (q E C : ℕ) (two_le : 2 ≤ q) (e c : ℕ) (hE : E ≡ suc e) (hC : C ≡ suc c) (S : CommRingOn (Numbers q E C))
    (H : ListRing q E C e c S) where
  infixl 70 ◌⊗◌
  open S use {monoid, ◌⊗◌}

  abbrev w : ℕ
  w = E * C

  abbrev en : Numbers q E C → ℕ → ℕ
  en = ent q E C two_le e c hE hC S H

  -- element j of a row
  pub block : List ℕ → ℕ → Numbers q E C
  block row j = (
    table w (λ k. get_or row (j * w + k) 0 % q),
    IsTuple-is_tuple (mod_ops q []) w (table w (λ k. get_or row (j * w + k) 0 % q))
        (IsTuple-table (mod_ops q []) w (λ k. get_or row (j * w + k) 0 % q)
        (λ k _. lt-ltb (get_or row (j * w + k) 0 % q) q
        (mod-lt (get_or row (j * w + k) 0) (let t = two_le in omega arith)))),
  )

  pub en-block : (row : List ℕ) (j k : ℕ) → k < w → en (block row j) k ≡ get_or row (j * w + k) 0 % q
  unfolding block
  en-block row j k l = at-table (mod_ops q []) w (λ k. get_or row (j * w + k) 0 % q) k l

  module _ (m : ℕ) where
    place : (j k : ℕ) → j < m → k < w → j * w + k < m * w
    place j k lj lk = pair-lt m w j k lj lk

    pub en-below : (row : List ℕ) → AreNumbers q (m * w) row → (j k : ℕ) → j < m → k < w
        → en (block row j) k ≡ get_or row (j * w + k) 0
    en-below row h j k lj lk = en-block row j k lk
        ∙ mod-eq_of_lt (h.below (j * w + k) 0 (let s = h.count in let p = place j k lj lk in omega arith))

    -- the element of a table
    en-table : (f : ℕ → ℕ) (j k : ℕ) → j < m → k < w → en (block (table (m * w) f) j) k ≡ f (j * w + k) % q
    en-table f j k lj lk = en-block (table (m * w) f) j k lk
        ∙ ap (λ x. x % q) (get_or-table (m * w) f (j * w + k) 0 (place j k lj lk))

    twice : (x : ℕ) → x % q % q ≡ x % q
    twice x = mod-eq_of_lt (mod-lt x (let t = two_le in omega arith))

    unless : (a b x y : ℕ) → ((a ≡ b → ⊥) → x ≡ y) → cond (nat_eq a b) 0 x ≡ cond (nat_eq a b) 0 y
    unless a b x y h = ⊎_elim
        (λ (g : a ≡ b). ap (λ t. cond t 0 x) (eq-eqb a b g) ∙ sym (ap (λ t. cond t 0 y) (eq-eqb a b g)))
        (λ (g : a ≡ b → ⊥). ap (cond (nat_eq a b) 0) (h g)) (cases_eq a b)

    unless_lt : (a b x y : ℕ) → (b ≤ a → x ≡ y) → cond (nat_lt a b) 0 x ≡ cond (nat_lt a b) 0 y
    unless_lt a b x y h = ⊎_elim
        (λ (g : a < b). ap (λ t. cond t 0 x) (lt-ltb a b g) ∙ sym (ap (λ t. cond t 0 y) (lt-ltb a b g)))
        (λ (g : b ≤ a). ap (cond (nat_lt a b) 0) (h g)) (cases_lt a b)

    same_column : (j k : ℕ) → (j * w + k) % C ≡ k % C
    same_column j k =
        let u = k / C in
        let v = k % C in
        let a : k / C * C + k % C ≡ k = div-add-mod' k C in
        let b : j * (E * C) + k ≡ (j * E + u) * C + v = omega arith in
        ap (λ x. x % C) b ∙ mod-mul-add (j * E + u) C v (mod-lt k (let g = hC in omega arith))

    -- products by t
    pub block-tau : (back row : List ℕ) → ((v : ℕ) → v < C → get_or back v 0 ≡ H.back v)
        → AreNumbers q (m * w) row → (j : ℕ) → j < m
        → block (table (m * w) (shifted_number q C back row)) j ≡ H.tau ⊗ block row j
    block-tau back row hb h j lj = ent-ext q E C two_le e c hE hC S H
        (block (table (m * w) (shifted_number q C back row)) j) (H.tau ⊗ block row j) (λ k lk.
        let t = j * w + k in
        let v = k % C in
        let vc : t % C ≡ v = same_column j k in
        let vl : v < C = mod-lt k (let g = hC in omega arith) in
        let a : k / C * C + k % C ≡ k = div-add-mod' k C in
        let last : t - t % C + (C - 1) ≡ j * w + (k / C * C + c) = (let g = hC in omega arith) in
        let ll : k / C * C + c < w = last_lt k lk in
        en-table (shifted_number q C back row) j k lj lk
        ∙ twice (cond (nat_eq (t % C) 0) 0 (get_or row (t - 1) 0)
        + get_or row (t - t % C + (C - 1)) 0 * get_or back (t % C) 0)
        ∙ ap (λ x. x % q) (ap₂ (λ x y. x + y)
        (ap (λ x. cond (nat_eq x 0) 0 (get_or row (t - 1) 0)) vc
        ∙ unless v 0 (get_or row (t - 1) 0) (en (block row j) (k - 1)) (λ n.
        let pos : 1 ≤ k = positive k n in
        let g : t - 1 ≡ j * w + (k - 1) = omega arith in
        ap (λ x. get_or row x 0) g ∙ sym (en-below row h j (k - 1) lj (omega arith))))
        (ap₂ (λ x y. x * y) (ap (λ x. get_or row x 0) last ∙ sym (en-below row h j (k / C * C + c) lj ll))
        (ap (λ x. get_or back x 0) vc ∙ hb v vl)))
        ∙ sym (ent-tau q E C two_le e c hE hC S H (block row j) k lk))
      where
        positive : (k : ℕ) → (k % C ≡ 0 → ⊥) → 1 ≤ k
        positive zero n = absurd (n (nat.zero-mod C))
        positive (suc k) n = omega arith

        last_lt : (k : ℕ) → k < w → k / C * C + c < w
        last_lt k l = let h = pair-lt E C (k / C) c (row-lt E C k l) (let g = hC in omega arith) in h

    -- products by x
    pub block-xi : (turns : List (List ℕ)) (row : List ℕ)
        → ((v : ℕ) → v < C → get_or turns v [] ≡ (top q E C two_le e c hE hC S H v).0)
        → AreNumbers q (m * w) row → (j : ℕ) → j < m
        → block (table (m * w) (turned_number q w C turns row)) j ≡ H.xi ⊗ block row j
    block-xi turns row ht h j lj = ent-ext q E C two_le e c hE hC S H
        (block (table (m * w) (turned_number q w C turns row)) j) (H.xi ⊗ block row j) (λ k lk.
        let t = j * w + k in
        let r : t % w ≡ k = mod-mul-add j w k lk in
        let whole : E * C ≡ e * C + C = ap (λ x. x * C) hE ∙ (let g : suc e * C ≡ e * C + C = omega arith in g) in
        let first : t - t % w + (w - C) ≡ j * w + e * C = omega arith in
        en-table (turned_number q w C turns row) j k lj lk
        ∙ twice (cond (nat_lt (t % w) C) 0 (get_or row (t - C) 0)
        + sum nat_monoid C (λ v. get_or row (t - t % w + (w - C) + v) 0 * get_or (get_or turns v []) (t % w) 0))
        ∙ ap (λ x. x % q) (ap₂ (λ x y. x + y)
        (ap (λ x. cond (nat_lt x C) 0 (get_or row (t - C) 0)) r
        ∙ unless_lt k C (get_or row (t - C) 0) (en (block row j) (k - C)) (λ g.
        let a : t - C ≡ j * w + (k - C) = omega arith in
        ap (λ x. get_or row x 0) a ∙ sym (en-below row h j (k - C) lj (omega arith))))
        (sum_congr nat_monoid C
        (λ v. get_or row (t - t % w + (w - C) + v) 0 * get_or (get_or turns v []) (t % w) 0)
        (λ v. en (block row j) (e * C + v) * en (top q E C two_le e c hE hC S H v) k)
        (λ v lv.
        let a : t - t % w + (w - C) + v ≡ j * w + (e * C + v) = omega arith in
        ap₂ (λ x y. x * y)
        (ap (λ x. get_or row x 0) a ∙ sym (en-below row h j (e * C + v) lj (omega arith)))
        (ap₂ (λ x y. get_or x y 0) (ht v lv) r))))
        ∙ sym (ent-xi q E C two_le e c hE hC S H (block row j) k lk))

    -- a combination of rows that are products of the elements of n rows by the products of powers
    pub block-combination : (a : List ℕ) (out : List (List ℕ)) (B : ℕ → ℕ → Numbers q E C)
        → AreNumbers q (m * w) a → AreRows q (m * w) out → length out ≡ m * w
        → ((k s j : ℕ) → k < m → s < w → j < m
        → block (get_or out (k * w + s) []) j ≡ mono q E C two_le e c hE hC S H s ⊗ B k j)
        → (j : ℕ) → j < m
        → block (table (m * w) (combined_number q (m * w) a out)) j ≡ sum monoid m (λ k. block a k ⊗ B k j)
    block-combination a out B ha ho long hb j lj = ent-ext q E C two_le e c hE hC S H
        (block (table (m * w) (combined_number q (m * w) a out)) j) (sum monoid m (λ k. block a k ⊗ B k j)) (λ k' lk'.
        let t = j * w + k' in
        let mo = mono q E C two_le e c hE hC S H in
        en-table (combined_number q (m * w) a out) j k' lj lk'
        ∙ twice (sum nat_monoid (m * w) (λ r. get_or a r 0 * get_or (get_or out r []) t 0))
        ∙ ap (λ x. x % q) (sum_pairs nat_monoid m w (λ r. get_or a r 0 * get_or (get_or out r []) t 0)
        ∙ sum_congr nat_monoid m
        (λ k. sum nat_monoid w (λ s. get_or a (k * w + s) 0 * get_or (get_or out (k * w + s) []) t 0))
        (λ k. sum nat_monoid w (λ s. en (block a k) s * en (mo s ⊗ B k j) k'))
        (λ k lk. sum_congr nat_monoid w
        (λ s. get_or a (k * w + s) 0 * get_or (get_or out (k * w + s) []) t 0)
        (λ s. en (block a k) s * en (mo s ⊗ B k j) k')
        (λ s ls. ap₂ (λ x y. x * y) (sym (en-below a ha k s lk ls))
        (sym (en-below (get_or out (k * w + s) [])
        (ho (k * w + s) (let p = place k s lk ls in omega (arith, long))) j k' lj lk')
        ∙ ap (λ x. en x k') (hb k s j lk ls lj)))))
        ∙ sym (sum-mod m q (λ k. sum nat_monoid w (λ s. en (block a k) s * en (mo s ⊗ B k j) k')))
        ∙ ap (λ x. x % q) (sum_congr nat_monoid m
        (λ k. sum nat_monoid w (λ s. en (block a k) s * en (mo s ⊗ B k j) k') % q)
        (λ k. en (block a k ⊗ B k j) k')
        (λ k lk. sym (ent-product q E C two_le e c hE hC S H (block a k) (B k j) k' lk')))
        ∙ sym (ent-sum q E C two_le e c hE hC S H m (λ k. block a k ⊗ B k j) k' lk'))
