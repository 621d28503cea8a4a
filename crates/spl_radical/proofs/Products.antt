-- The rows of products by all x^u·t^v, and sums of products by columns, in a ring of lists of numbers.
use Rattle.std.specs.Prelude.{◌≡◌, ℕ, zero, suc, ◌+◌, ◌-◌, ◌*◌, ◌/◌, ◌%◌, ◌<◌, ◌≤◌, List, [], length, get_or}
use Rattle.std.proofs.Common.{sym, ◌∙◌, ap, ap₂, subst, arith, ⊎_elim}
use Rattle.std.proofs.Math.Nat.{mod-eq_of_lt}
use Rattle.std.proofs.lemmas.Bool.{cases_lt, ltb-true}
use Rattle.std.proofs.lemmas.List.{ext_get_or}
use Rattle.std.proofs.lemmas.Nat.{div-mul-add, mod-mul-add}
use Rattle.theory_rings.specs.Ring.{CommRingOn}
use Rattle.theory_rings.specs.Sum.{sum, table}
use Rattle.theory_rings.specs.IntegersMod.{mod_ops}
use Rattle.theory_rings.specs.Naturals.{nat_monoid}
use Rattle.theory_rings.proofs.Sums.Sums.{sum_congr}
use Rattle.theory_rings.proofs.Sums.Lists.{length-table, get_or-table, table_congr, All-table}
use Rattle.theory_spaces.proofs.Matrices.PairIndex.{pair-lt}
use Rattle.theory_spaces.proofs.Tuples.Tuples.{is_tuple-IsTuple}
use Rattle.theory_lifts.proofs.ListProducts.{Numbers, ListRing, ent-ext, mono, mono-zero, mono-tau, mono-xi}
use Rattle.theory_lifts.proofs.ListProducts.{top, top-zero, top-suc}
use Rattle.theory_chains.specs.NumberRows.{shifted_number, turned_number, combined_number, AreNumbers, AreRows}
use Rattle.theory_chains.proofs.NumberRows.{block, en-block, block-tau, block-xi, block-combination}
use Rattle.spl_radical.specs.Multiples.{IsMultiple, AreMultiples, AreTurns}

module _ (q E C : ℕ) (two_le : 2 ≤ q) (e c : ℕ) (hE : E ≡ suc e) (hC : C ≡ suc c) (S : CommRingOn (Numbers q E C))
    (H : ListRing q E C e c S) where
  infixl 70 ◌⊗◌
  open S use {monoid, ◌⊗◌}

  abbrev w : ℕ
  w = E * C

  abbrev element : List ℕ → ℕ → Numbers q E C
  element = block q E C two_le e c hE hC S H

  abbrev mon : ℕ → Numbers q E C
  mon = mono q E C two_le e c hE hC S H

  -- ---- one element as a row

  alone : (row : List ℕ) → AreNumbers q w row → (k : ℕ) → k < w → get_or (element row 0).0 k 0 ≡ get_or row k 0
  alone row h k l =
      let z : 0 * w + k ≡ k = omega arith in
      en-block q E C two_le e c hE hC S H row 0 k l ∙ ap (λ i. get_or row i 0 % q) z
      ∙ mod-eq_of_lt (h.below k 0 (let c = h.count in omega arith))

  count : (x : Numbers q E C) → length x.0 ≡ w
  count x = (is_tuple-IsTuple (mod_ops q []) w x.0 x.1).right_length

  pub row_value : (row : List ℕ) → AreNumbers q w row → (element row 0).0 ≡ row
  row_value row h = ext_get_or 0 (element row 0).0 row (count (element row 0) ∙ sym h.count)
      (λ k l. alone row h k (let c = count (element row 0) in omega arith))

  pub numbers_of : (x : Numbers q E C) → AreNumbers q w x.0
  numbers_of x =
      let h = is_tuple-IsTuple (mod_ops q []) w x.0 x.1 in
      record { count = h.right_length; below = λ i d s. ltb-true (get_or x.0 i d) q (h.of_elements i d s) }

  pub element_value : (x : Numbers q E C) → element x.0 0 ≡ x
  element_value x = ent-ext q E C two_le e c hE hC S H (element x.0 0) x (alone x.0 (numbers_of x))

  -- ---- the products of x^e by the powers of t

  module _ (back first : List ℕ) (turns : List (List ℕ)) (same : length back ≡ C)
      (hb : (v : ℕ) → v < C → get_or back v 0 ≡ H.back v) (long : length first ≡ w)
      (hf : (t : ℕ) → t < w → get_or first t 0 ≡ H.turn (t / C) (t % C))
      (T : AreTurns q back first turns (length back)) where
    turn_numbers : (v : ℕ) → v < C → AreNumbers q w (get_or turns v [])
    turn_numbers v l = subst (λ n. AreNumbers q n (get_or turns v [])) long
        (T.numbers v (let c = T.count in let s = same in omega arith))

    -- the row is the product
    turn_is : (v : ℕ) → v < C → element (get_or turns v []) 0 ≡ top q E C two_le e c hE hC S H v
    turn_is zero l = ent-ext q E C two_le e c hE hC S H (element (get_or turns 0 []) 0)
        (top q E C two_le e c hE hC S H 0) (λ k lk.
        alone (get_or turns 0 []) (turn_numbers 0 l) k lk ∙ ap (λ y. get_or y k 0) T.begins ∙ hf k lk
        ∙ sym (top-zero q E C two_le e c hE hC S H k lk))
    turn_is (suc v) l =
        let u : 1 * w ≡ w = omega arith in
        let n : AreNumbers q (1 * w) (get_or turns v []) =
        subst (λ n. AreNumbers q n (get_or turns v [])) (sym u) (turn_numbers v (omega arith)) in
        ap (λ y. element y 0) (T.next v (let s = same in omega arith)
        ∙ ap₂ (λ n d. table n (shifted_number q d back (get_or turns v []))) (long ∙ sym u) same)
        ∙ block-tau q E C two_le e c hE hC S H 1 back (get_or turns v []) hb n 0 (omega arith)
        ∙ ap (λ y. H.tau ⊗ y) (turn_is v (omega arith))
        ∙ sym (top-suc q E C two_le e c hE hC S H v (let h = hC in omega arith))

    pub turns_are : (v : ℕ) → v < C → get_or turns v [] ≡ (top q E C two_le e c hE hC S H v).0
    turns_are v l = sym (row_value (get_or turns v []) (turn_numbers v l))
        ∙ ap (λ (y : Numbers q E C). y.0) (turn_is v l)

  -- ---- all products by x^u·t^v

  module _ (back : List ℕ) (turns rows out : List (List ℕ)) (same : length back ≡ C)
      (hb : (v : ℕ) → v < C → get_or back v 0 ≡ H.back v)
      (ht : (v : ℕ) → v < C → get_or turns v [] ≡ (top q E C two_le e c hE hC S H v).0)
      (M : AreMultiples q w back turns rows out (length rows * w)) where
    abbrev m : ℕ
    m = length rows

    abbrev at_row : ℕ → ℕ → List ℕ
    at_row k s = get_or out (k * w + s) []

    abbrev Times : ℕ → ℕ → Type 0
    Times k s = (j : ℕ) → j < m → element (at_row k s) j ≡ mon s ⊗ element (get_or rows k []) j

    known : (k s : ℕ) → k < m → s < w → IsMultiple q w back turns rows out (k * w + s) (at_row k s)
    known k s lk ls = M.each (k * w + s) (pair-lt m w k s lk ls)

    at_first : (k : ℕ) → k < m → 0 < w → Times k 0
    at_first k lk l j lj =
        let h = known k 0 lk l in
        ap (λ y. element y j) (h.first (mod-mul-add k w 0 l) ∙ ap (λ i. get_or rows i []) (div-mul-add k w 0 l))
        ∙ sym (mono-zero q E C two_le e c hE hC S H (element (get_or rows k []) j))

    at_tau : (k s : ℕ) → k < m → suc s < w → suc s < C → Times k s → Times k (suc s)
    at_tau k s lk ls lc h j lj =
        let g = known k (suc s) lk ls in
        let r = k * w + suc s in
        let p : r - 1 ≡ k * w + s = omega arith in
        let a : r % w ≡ suc s = mod-mul-add k w (suc s) ls in
        ap (λ y. element y j) (g.shifted (omega arith) (let d = same in omega arith)
        ∙ ap₂ (λ d i. table (m * w) (shifted_number q d back (get_or out i []))) same p)
        ∙ block-tau q E C two_le e c hE hC S H m back (at_row k s) hb (known k s lk (omega arith)).numbers j lj
        ∙ ap (λ y. H.tau ⊗ y) (h j lj)
        ∙ sym (mono-tau q E C two_le e c hE hC S H s lc (element (get_or rows k []) j))

    at_xi : (k s : ℕ) → k < m → s < w → C ≤ s → Times k (s - C) → Times k s
    at_xi k s lk ls lc h j lj =
        let g = known k s lk ls in
        let r = k * w + s in
        let p : r - C ≡ k * w + (s - C) = omega arith in
        let a : r % w ≡ s = mod-mul-add k w s ls in
        let b : s - C + C ≡ s = omega arith in
        ap (λ y. element y j) (g.turned (let d = same in omega arith)
        ∙ ap (λ d. table (m * w) (turned_number q w d turns (get_or out (r - d) []))) same
        ∙ ap (λ i. table (m * w) (turned_number q w C turns (get_or out i []))) p)
        ∙ block-xi q E C two_le e c hE hC S H m turns (at_row k (s - C)) ht (known k (s - C) lk (omega arith)).numbers
        j lj
        ∙ ap (λ y. H.xi ⊗ y) (h j lj)
        ∙ sym (mono-xi q E C two_le e c hE hC S H (s - C) (element (get_or rows k []) j))
        ∙ ap (λ i. mon i ⊗ element (get_or rows k []) j) b

    at_all : (b k s : ℕ) → s < b → k < m → s < w → Times k s
    at_all zero k s lb lk ls = absurd (omega arith)
    at_all (suc b) k zero lb lk ls = at_first k lk ls
    at_all (suc b) k (suc s) lb lk ls = ⊎_elim
        (λ (l : suc s < C). at_tau k s lk ls l (at_all b k s (omega arith) lk (omega arith)))
        (λ (l : C ≤ suc s). at_xi k (suc s) lk ls l
        (at_all b k (suc s - C) (let h = hC in omega arith) lk (omega arith)))
        (cases_lt (suc s) C)

    -- row k·w + s has the products by the power s
    pub multiple_is : (k s : ℕ) → k < m → s < w → Times k s
    multiple_is k s lk ls = at_all (suc s) k s (omega arith) lk ls

    -- ---- sums of products by the columns of these rows

    -- the numbers at place t of each row
    abbrev columns : List (List ℕ)
    columns = table (m * w) (λ t. table (length out) (λ r. get_or (get_or out r []) t 0))

    column-at : (t r : ℕ) → t < m * w → r < m * w
        → get_or (get_or columns t []) r 0 ≡ get_or (get_or out r []) t 0
    column-at t r lt lr =
        let h = M.count in
        ap (λ y. get_or y r 0) (get_or-table (m * w)
        (λ t. table (length out) (λ r. get_or (get_or out r []) t 0)) t [] lt)
        ∙ get_or-table (length out) (λ r. get_or (get_or out r []) t 0) r 0 (omega arith)

    combination_is : (a : List ℕ)
        → table (m * w) (λ t. sum nat_monoid (m * w) (λ r. get_or a r 0 * get_or (get_or columns t []) r 0) % q)
        ≡ table (m * w) (combined_number q (m * w) a out)
    combination_is a = table_congr (m * w)
        (λ t. sum nat_monoid (m * w) (λ r. get_or a r 0 * get_or (get_or columns t []) r 0) % q)
        (combined_number q (m * w) a out) (λ t lt.
        ap (λ x. x % q) (sum_congr nat_monoid (m * w) (λ r. get_or a r 0 * get_or (get_or columns t []) r 0)
        (λ r. get_or a r 0 * get_or (get_or out r []) t 0)
        (λ r lr. ap (λ x. get_or a r 0 * x) (column-at t r lt lr))))

    pub product_is : (a : List ℕ) → AreNumbers q (m * w) a → (j : ℕ) → j < m
        → element (table (m * w)
        (λ t. sum nat_monoid (m * w) (λ r. get_or a r 0 * get_or (get_or columns t []) r 0) % q)) j
        ≡ sum monoid m (λ k. element a k ⊗ element (get_or rows k []) j)
    product_is a h j lj = ap (λ y. element y j) (combination_is a)
        ∙ block-combination q E C two_le e c hE hC S H m a out (λ k j. element (get_or rows k []) j) h
        (λ r l. (M.each r (let c = M.count in omega arith)).numbers) M.count
        (λ k s j lk ls lj. multiple_is k s lk ls j lj) j lj

    -- the columns are numbers below q
    pub columns_below : AreRows q (m * w) columns
    columns_below t lt =
        let c = M.count in
        let n = length-table (m * w) (λ t. table (length out) (λ r. get_or (get_or out r []) t 0)) in
        let l : t < m * w = omega arith in
        subst (AreNumbers q (m * w))
        (sym (get_or-table (m * w) (λ t. table (length out) (λ r. get_or (get_or out r []) t 0)) t [] l)) (record {
          count = length-table (length out) (λ r. get_or (get_or out r []) t 0) ∙ c;
          below = All-table (λ x. x < q) (length out) (λ r. get_or (get_or out r []) t 0) (λ r lr.
              let g = (M.each r (omega arith)).numbers in
              g.below t 0 (let n = g.count in omega arith));
        })
