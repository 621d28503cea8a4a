-- The rows after a pivot, and after each change on the way to them.
use Rattle.std.proofs.Common.{◌≡◌, ◌≢◌, inl, inr, ℕ, ◌<◌, cond, nat_eq, List, [], length, get_or, refl, sym, ap, ap₂}
use Rattle.std.proofs.Common.{◌∙◌, arith, get_or-set_same, get_or-set_other}
use Rattle.std.specs.List.{All, SwappedAt}
use Rattle.std.proofs.Math.ListN.{set}
use Rattle.std.proofs.lemmas.Bool.{cases_eq, eq-eqb}
use Rattle.std.proofs.lemmas.List.{length-set, ext_get_or}
use Rattle.theory_rings.specs.Ops.{Ops, IsElem, FieldLaws}
use Rattle.theory_rings.specs.Sum.{table, at}
use Rattle.theory_rings.proofs.Rings.Elements.{at-elem}
use Rattle.theory_rings.proofs.Sums.Lists.{length-table, get_or-table}
use Rattle.theory_spaces.specs.Tuples.{IsTuple}
use Rattle.theory_spaces.proofs.Tuples.Tuples.{IsTuple-table}
use Rattle.theory_tables.specs.Matrix.{entry, IsMatrix}
use Rattle.spl_matrix.specs.Elimination.{divided, lead_of, reduced_by, cleared_row, pivoted_row, pivoted}
use Rattle.theory_tables.proofs.Rows.Sums.{entry-elem}
use Rattle.theory_tables.proofs.Rows.Terms.{add-zero, zero-mul, neg-zero, cond_yes, cond_no}

module _ {E : Type 0} (o : Ops E) where
  pub pivoted_row-same : (n : ℕ) (rows : List (List E)) (p r col i : ℕ) → i ≡ r
      → pivoted_row o n rows p r col i ≡ lead_of o n rows p col
  pivoted_row-same n rows p r col i e = rw (eq-eqb i r e) refl

  -- a row but row r after the swap, where row r is taken out
  pub taken_row : (rows swapped taken : List (List E)) (p r i : ℕ) → SwappedAt rows swapped p r
      → taken ≡ set swapped r [] → i ≢ r
      → get_or taken i [] ≡ get_or rows (cond (nat_eq i p) r i) []
  taken_row rows swapped taken p r i swaps taken_is d =
      ap (λ (m : List (List E)). get_or m i []) taken_is
      ∙ get_or-set_other swapped r i [] [] d
      ∙ elim (cases_eq i p) [
        | inl e ↦ ap (λ k. get_or swapped k []) e ∙ swaps.0 [] ∙ sym (ap (λ k. get_or rows k []) (cond_yes i p r i e))
        | inr d' ↦ swaps.2 i [] d' d ∙ sym (ap (λ k. get_or rows k []) (cond_no i p r i d'))
      ]

  -- the rows are swapped, the lead is taken out, the others are cleared, and the lead is put back
  pub pivoted_by : (n : ℕ) (rows swapped taken cleared new : List (List E)) (p r col : ℕ) (lead : List E)
      → r < length rows
      → length swapped ≡ length rows → SwappedAt rows swapped p r → taken ≡ set swapped r []
      → lead ≡ lead_of o n rows p col
      → cleared ≡ table (length taken) (cleared_row o n taken r col lead) → new ≡ set cleared r lead
      → new ≡ pivoted o (length rows) n rows p r col
  pivoted_by n rows swapped taken cleared new p r col lead r_in long swaps taken_is lead_is cleared_is new_is =
      let h = length rows in
      let taken_long : length taken ≡ h = ap length taken_is ∙ length-set swapped r [] ∙ long in
      let cleared_long : length cleared ≡ h = ap length cleared_is
      ∙ length-table (length taken) (cleared_row o n taken r col lead) ∙ taken_long in
      let new_long : length new ≡ h = ap length new_is ∙ length-set cleared r lead ∙ cleared_long in
      let r_in' : r < length cleared = omega arith in
      ext_get_or [] new (pivoted o h n rows p r col) (new_long ∙ sym (length-table h (pivoted_row o n rows p r col)))
      (λ i i_new.
      let i_in : i < h = omega arith in
      let source = cond (nat_eq i p) r i in
      ap (λ (m : List (List E)). get_or m i []) new_is
      ∙ elim (cases_eq i r) [
        | inl e ↦
            ap (λ k. get_or (set cleared r lead) k []) e ∙ get_or-set_same cleared r lead [] r_in' ∙ lead_is
            ∙ sym (pivoted_row-same n rows p r col i e)
        | inr d ↦
            let i_taken : i < length taken = omega arith in
            get_or-set_other cleared r i lead [] d
            ∙ ap (λ (m : List (List E)). get_or m i []) cleared_is
            ∙ get_or-table (length taken) (cleared_row o n taken r col lead) i [] i_taken
            ∙ cond_no i r (get_or taken i []) (reduced_by o n (get_or taken i []) col lead) d
            ∙ ap₂ (λ (row lead : List E). reduced_by o n row col lead)
            (taken_row rows swapped taken p r i swaps taken_is d) lead_is
            ∙ sym (cond_no i r (lead_of o n rows p col)
            (reduced_by o n (get_or rows source []) col (lead_of o n rows p col)) d)
      ]
      ∙ sym (get_or-table h (pivoted_row o n rows p r col) i [] i_in))

  pub lead_by : (n : ℕ) (rows : List (List E)) (p col : ℕ) (row lead : List E) → row ≡ get_or rows p []
      → length (get_or rows p []) ≡ n
      → lead ≡ divided o (length row) row col → lead ≡ lead_of o n rows p col
  lead_by n rows p col row lead row_is long lead_is =
      lead_is ∙ ap (λ (xs : List E). divided o (length xs) xs col) row_is
      ∙ ap (λ k. divided o k (get_or rows p []) col) long

  pub divided_by : (row items new : List E) (col : ℕ) (factor : E) → items ≡ row → factor ≡ o.inv (at o row col)
      → new ≡ table (length items) (λ j. o.mul factor (at o items j)) → new ≡ divided o (length row) row col
  divided_by row items new col factor items_is factor_is new_is =
      new_is ∙ ap (λ (xs : List E). table (length xs) (λ j. o.mul factor (at o xs j))) items_is
      ∙ ap (λ (x : E). table (length row) (λ j. o.mul x (at o row j))) factor_is

  pub reduced_by-multiple : (row items new : List E) (col : ℕ) (lead : List E) (c : E) → items ≡ row
      → c ≡ o.neg (at o row col)
      → new ≡ table (length items) (λ j. o.add (at o items j) (o.mul c (at o lead j)))
      → new ≡ reduced_by o (length row) row col lead
  reduced_by-multiple row items new col lead c items_is c_is new_is =
      new_is ∙ ap (λ (xs : List E). table (length xs) (λ j. o.add (at o xs j) (o.mul c (at o lead j)))) items_is
      ∙ ap (λ (x : E). table (length row) (λ j. o.add (at o row j) (o.mul x (at o lead j)))) c_is

module _ {E : Type 0} (o : Ops E) (L : FieldLaws o) where
  pub lead_of-tuple : (n : ℕ) (rows : List (List E)) (p col : ℕ) → IsMatrix o n rows
      → IsTuple o n (lead_of o n rows p col)
  lead_of-tuple n rows p col shape =
      let rows_in = entry-elem o L n rows shape in
      IsTuple-table o n (λ j. o.mul (o.inv (entry o rows p col)) (entry o rows p j))
      (λ j _. L.mul-elem _ _ (L.inv-elem _ (rows_in p col)) (rows_in p j))

  -- a row that is 0 in the column stays
  pub reduced_by-zero : (row : List E) (col : ℕ) (lead : List E) → All (IsElem o) row → All (IsElem o) lead
      → at o row col ≡ o.zero → row ≡ reduced_by o (length row) row col lead
  reduced_by-zero row col lead row_in lead_in e =
      let f : ℕ → E = λ j. o.add (at o row j) (o.mul (o.neg (at o row col)) (at o lead j)) in
      ext_get_or o.zero row (table (length row) f) (sym (length-table (length row) f)) (λ j j_in.
      sym (add-zero o L (at o row j) (at-elem o L row row_in j))
      ∙ ap (o.add (at o row j))
      (sym (ap (λ x. o.mul x (at o lead j)) (ap o.neg e ∙ neg-zero o L)
      ∙ zero-mul o L (at o lead j) (at-elem o L lead lead_in j)))
      ∙ sym (get_or-table (length row) f j o.zero j_in))
