-- Steps of the rows that are products by t of a first row.
use Rattle.std.specs.Prelude.{◌≡◌, ℕ, suc, ◌+◌, ◌-◌, ◌*◌, ◌%◌, ◌<◌, ◌≤◌, List, [], ◌∷◌, ◌++◌, length, get_or, All}
use Rattle.std.specs.Prelude.{cond, nat_eq}
use Rattle.std.proofs.Common.{refl, sym, ◌∙◌, ap, subst, arith, ⊎_elim}
use Rattle.std.proofs.Math.Nat.{mod-lt}
use Rattle.std.proofs.Math.ListN.{get_or-append}
use Rattle.std.proofs.Math.Seq.{get_or-append_seam}
use Rattle.std.proofs.lemmas.Bool.{cases_lt}
use Rattle.std.proofs.lemmas.List.{length_push}
use Rattle.theory_rings.specs.Sum.{table}
use Rattle.theory_rings.proofs.Sums.Lists.{length-table, All-table}
use Rattle.theory_chains.specs.NumberRows.{shifted_number, AreNumbers}
use Rattle.spl_radical.specs.Multiples.{AreTurns}

module _ (q : ℕ) (positive : 1 ≤ q) (back first : List ℕ) where
  abbrev d : ℕ
  d = length back

  -- each coefficient of a row is whole
  abbrev Whole : List ℕ → Type 0
  Whole y = (k : ℕ) → k < length y → k - k % d + (d - 1) < length y

  pub one_turn : (new out : List (List ℕ)) → All (λ x. x < q) first → new ≡ [] → out ≡ new ++ first ∷ []
      → AreTurns q back first out 1
  one_turn new out h z e = subst (λ o. AreTurns q back first o 1) (sym (e ∙ ap (λ n. n ++ first ∷ []) z)) (record {
    count = let s : suc 0 ≡ 1 = omega arith in s;
    numbers = λ i l. subst (λ i. AreNumbers q (length first) (get_or (first ∷ []) i []))
        (let s : 0 ≡ i = omega arith in s) (record { count = refl; below = h });
    begins = refl;
    next = λ v l. absurd (omega arith);
  })

  pub row_numbers : (out out' : List (List ℕ)) (v : ℕ) → AreTurns q back first out v → 1 ≤ v → out' ≡ out
      → AreNumbers q (length first) (get_or out' (v - 1) [])
  row_numbers out out' v h l e = subst (λ o. AreNumbers q (length first) (get_or o (v - 1) [])) (sym e)
      (h.numbers (v - 1) (let c = h.count in omega arith))

  pub whole_row : (y : List ℕ) → Whole first → AreNumbers q (length first) y → Whole y
  whole_row y w h = subst (λ n. (k : ℕ) → k < n → k - k % d + (d - 1) < n) (sym h.count) w

  -- one more row
  pub next_turn : (out out' : List (List ℕ)) (v : ℕ) (row : List ℕ) → AreTurns q back first out v → 1 ≤ v
      → row ≡ table (length (get_or out (v - 1) [])) (shifted_number q d back (get_or out (v - 1) []))
      → out' ≡ out ++ row ∷ [] → AreTurns q back first out' (v + 1)
  next_turn out out' v row h l e f =
      let c = h.count in
      let last = row_numbers out out v h l refl in
      let g : row ≡ table (length first) (shifted_number q d back (get_or out (v - 1) [])) =
      e ∙ ap (λ n. table n (shifted_number q d back (get_or out (v - 1) []))) last.count in
      let numbers : AreNumbers q (length first) row = subst (AreNumbers q (length first)) (sym g) (below_table (λ k.
      cond (nat_eq (k % d) 0) 0 (get_or (get_or out (v - 1) []) (k - 1) 0)
      + get_or (get_or out (v - 1) []) (k - k % d + (d - 1)) 0 * get_or back (k % d) 0)) in
      subst (λ o. AreTurns q back first o (v + 1)) (sym f) (record {
        count = length_push out row ∙ ap (λ k. k + 1) c;
        numbers = λ i il. let n = length_push out row in ⊎_elim
            (λ (a : i < length out). subst (AreNumbers q (length first)) (kept i a) (h.numbers i a))
            (λ (a : length out ≤ i). subst (AreNumbers q (length first)) (added i (omega arith)) numbers)
            (cases_lt i (length out));
        begins = sym (kept 0 (omega arith)) ∙ h.begins;
        next = λ i il. ⊎_elim
            (λ (a : suc i < v). sym (kept (suc i) (omega arith)) ∙ h.next i a
            ∙ ap (λ y. table (length first) (shifted_number q d back y)) (kept i (omega arith)))
            (λ (a : v ≤ suc i).
            let s : v - 1 ≡ i = omega arith in
            sym (added (suc i) (omega arith)) ∙ g
            ∙ ap (λ j. table (length first) (shifted_number q d back (get_or out j []))) s
            ∙ ap (λ y. table (length first) (shifted_number q d back y)) (kept i (omega arith)))
            (cases_lt (suc i) v);
      })
    where
      kept : (i : ℕ) → i < length out → get_or out i [] ≡ get_or (out ++ row ∷ []) i []
      kept i a = sym (get_or-append out (row ∷ []) [] i a)

      added : (i : ℕ) → length out ≡ i → row ≡ get_or (out ++ row ∷ []) i []
      added i a = sym (get_or-append_seam out row [] []) ∙ ap (λ j. get_or (out ++ row ∷ []) j []) a

      below_table : (f : ℕ → ℕ) → AreNumbers q (length first) (table (length first) (λ k. f k % q))
      below_table f = record {
        count = length-table (length first) (λ k. f k % q);
        below = All-table (λ x. x < q) (length first) (λ k. f k % q)
            (λ k _. mod-lt (f k) (let p = positive in omega arith));
      }
