-- A pivot keeps the form of the columns before it, and brings its own column into it.
use Rattle.std.proofs.Common.{◌≡◌, ◌≢◌, ◌⊎◌, inl, inr, ℕ, ◌+◌, ◌<◌, ◌≤◌, List, [], ◌∷◌, ◌++◌, length, get_or, cond}
use Rattle.std.proofs.Common.{nat_eq, refl, sym, ap, ◌∙◌, arith}
use Rattle.std.proofs.lemmas.Bool.{cases_eq, cases_lt}
use Rattle.std.proofs.lemmas.List.{get_or_append_left, get_or_push, length_push}
use Rattle.theory_rings.specs.Ops.{Ops, IsElem, FieldLaws}
use Rattle.theory_rings.specs.Sum.{at}
use Rattle.theory_tables.specs.Matrix.{entry}
use Rattle.spl_matrix.specs.Elimination.{lead_of, reduced_by, pivoted_row, pivoted}
use Rattle.theory_tables.specs.Echelon.{IsReducedEchelon}
use Rattle.theory_rings.proofs.Sums.Lists.{get_or-table}
use Rattle.spl_matrix.proofs.Pivots.{pivoted_row-same}
use Rattle.theory_tables.proofs.Rows.Terms.{add-zero, add-neg, mul-one, mul-zero, mul-inv, cond_yes, cond_no}

module _ {E : Type 0} (o : Ops E) (L : FieldLaws o) (h n : ℕ) (rows : List (List E))
    (rows_in : (i j : ℕ) → IsElem o (entry o rows i j))
    (p r col : ℕ) (col_in : col < n) (p_in : p < h) (r_le : r ≤ p) (nonzero : entry o rows p col ≢ o.zero) where
  abbrev pub x : E
  x = entry o rows p col

  abbrev pub new : List (List E)
  new = pivoted o h n rows p r col

  abbrev pub source : ℕ → ℕ
  source i = cond (nat_eq i p) r i

  pub inv_in : IsElem o (o.inv x)
  inv_in = L.inv-elem x (rows_in p col)

  pub inv_mul : o.mul (o.inv x) x ≡ o.one
  inv_mul = L.mul_comm (o.inv x) x inv_in (rows_in p col) ∙ mul-inv o L x (rows_in p col) nonzero

  pub entry_new : (i j : ℕ) → i < h → entry o new i j ≡ at o (pivoted_row o n rows p r col i) j
  entry_new i j i_in = ap (λ row. at o row j) (get_or-table h (pivoted_row o n rows p r col) i [] i_in)

  pub lead_at : (j : ℕ) → j < n → at o (lead_of o n rows p col) j ≡ o.mul (o.inv x) (entry o rows p j)
  lead_at j j_in = get_or-table n (λ j. o.mul (o.inv x) (entry o rows p j)) j o.zero j_in

  pub new_lead : (j : ℕ) → j < n → entry o new r j ≡ o.mul (o.inv x) (entry o rows p j)
  new_lead j j_in =
      let r_in : r < h = omega arith in
      entry_new r j r_in ∙ ap (λ row. at o row j) (pivoted_row-same o n rows p r col r refl) ∙ lead_at j j_in

  pub new_other : (i j : ℕ) → i < h → i ≢ r → j < n
      → entry o new i j ≡ o.add (entry o rows (source i) j)
      (o.mul (o.neg (entry o rows (source i) col)) (o.mul (o.inv x) (entry o rows p j)))
  new_other i j i_in d j_in =
      entry_new i j i_in
      ∙ ap (λ row. at o row j)
      (cond_no i r (lead_of o n rows p col)
      (reduced_by o n (get_or rows (source i) []) col (lead_of o n rows p col)) d)
      ∙ get_or-table n (λ j.
      o.add (entry o rows (source i) j)
      (o.mul (o.neg (entry o rows (source i) col)) (at o (lead_of o n rows p col) j))) j o.zero j_in
      ∙ ap (λ y. o.add (entry o rows (source i) j) (o.mul (o.neg (entry o rows (source i) col)) y)) (lead_at j j_in)

  neg_in : (i : ℕ) → IsElem o (o.neg (entry o rows i col))
  neg_in i = L.neg-elem _ (rows_in i col)

  -- where the row of the pivot is 0, the lead is 0 and the others stay
  lead_zero : (j : ℕ) → j < n → entry o rows p j ≡ o.zero → entry o new r j ≡ o.zero
  lead_zero j j_in e = new_lead j j_in ∙ ap (o.mul (o.inv x)) e ∙ mul-zero o L (o.inv x) inv_in

  other_stays : (i j : ℕ) → i < h → i ≢ r → j < n → entry o rows p j ≡ o.zero
      → entry o new i j ≡ entry o rows (source i) j
  other_stays i j i_in d j_in e =
      new_other i j i_in d j_in
      ∙ ap (o.add (entry o rows (source i) j)) (
      ap (o.mul (o.neg (entry o rows (source i) col))) (ap (o.mul (o.inv x)) e ∙ mul-zero o L (o.inv x) inv_in)
      ∙ mul-zero o L (o.neg (entry o rows (source i) col)) (neg_in (source i)))
      ∙ add-zero o L (entry o rows (source i) j) (rows_in (source i) j)

  lead_one : entry o new r col ≡ o.one
  lead_one = new_lead col col_in ∙ inv_mul

  other_zero : (i : ℕ) → i < h → i ≢ r → entry o new i col ≡ o.zero
  other_zero i i_in d =
      new_other i col i_in d col_in
      ∙ ap (o.add (entry o rows (source i) col))
      (ap (o.mul (o.neg (entry o rows (source i) col))) inv_mul ∙ mul-one o L _ (neg_in (source i)))
      ∙ add-neg o L _ (rows_in (source i) col)

  module _ (pivots : List ℕ) (r_is : length pivots ≡ r) (form : IsReducedEchelon o h rows pivots col) where
    places : (s : ℕ) → s < length (pivots ++ col ∷ [])
        → ((s < r) × (get_or (pivots ++ col ∷ []) s 0 ≡ get_or pivots s 0))
        ⊎ ((s ≡ r) × (get_or (pivots ++ col ∷ []) s 0 ≡ col))
    places s s_in =
        let long : length (pivots ++ col ∷ []) ≡ length pivots + 1 = length_push pivots col in
        elim (cases_lt s r) [
          | inl low ↦ let low' : s < length pivots = omega arith in
              inl (low, get_or_append_left pivots (col ∷ []) 0 s low')
          | inr high ↦ let last : length pivots ≡ s = omega arith in inr (omega arith, get_or_push pivots col 0 s last)
        ]

    -- the row of the pivot is 0 before its column
    p_zero : (j : ℕ) → j < col → entry o rows p j ≡ o.zero
    p_zero j j_low = let high : length pivots ≤ p = omega arith in form.rest p j high p_in j_low

    unit_old : (s i : ℕ) → s < r → i < h → entry o new i (get_or pivots s 0) ≡ cond (nat_eq i s) o.one o.zero
    unit_old s i low i_in =
        let low' : s < length pivots = omega arith in
        let q = get_or pivots s 0 in
        let q_low : q < col = form.below s low' in
        let q_in : q < n = omega arith in
        let r_in : r < h = omega arith in
        elim (cases_eq i r) [
          | inl e ↦ let d : i ≢ s = omega arith in ap (λ k. entry o new k q) e ∙ lead_zero q q_in (p_zero q q_low)
              ∙ sym (cond_no i s o.one o.zero d)
          | inr d ↦ other_stays i q i_in d q_in (p_zero q q_low) ∙ elim (cases_eq i p) [
            | inl e ↦
                let d₁ : r ≢ s = omega arith in
                let d₂ : i ≢ s = omega arith in
                ap (λ k. entry o rows k q) (cond_yes i p r i e) ∙ form.unit s r low' r_in
                ∙ cond_no r s o.one o.zero d₁ ∙ sym (cond_no i s o.one o.zero d₂)
            | inr d' ↦ ap (λ k. entry o rows k q) (cond_no i p r i d') ∙ form.unit s i low' i_in
          ]
        ]

    unit_new : (s i : ℕ) → s ≡ r → i < h → entry o new i col ≡ cond (nat_eq i s) o.one o.zero
    unit_new s i e i_in = elim (cases_eq i r) [
      | inl f ↦ let same : i ≡ s = omega arith in ap (λ k. entry o new k col) f ∙ lead_one
          ∙ sym (cond_yes i s o.one o.zero same)
      | inr d ↦ let other : i ≢ s = omega arith in other_zero i i_in d ∙ sym (cond_no i s o.one o.zero other)
    ]

    left_old : (s j : ℕ) → s < r → j < get_or pivots s 0 → entry o new s j ≡ o.zero
    left_old s j low j_low =
        let low' : s < length pivots = omega arith in
        let q_low : get_or pivots s 0 < col = form.below s low' in
        let j_col : j < col = omega arith in
        let j_in : j < n = omega arith in
        let s_in : s < h = omega arith in
        let d : s ≢ r = omega arith in
        let d' : s ≢ p = omega arith in
        other_stays s j s_in d j_in (p_zero j j_col) ∙ ap (λ k. entry o rows k j) (cond_no s p r s d')
        ∙ form.left s j low' j_low

    rest_after : (i j : ℕ) → r < i → i < h → j < col + 1 → entry o new i j ≡ o.zero
    rest_after i j i_high i_in j_low =
        let d : i ≢ r = omega arith in
        let r_in : r < h = omega arith in
        let r_high : length pivots ≤ r = omega arith in
        let i_high' : length pivots ≤ i = omega arith in
        elim (cases_lt j col) [
          | inl low ↦
              let j_in : j < n = omega arith in
              other_stays i j i_in d j_in (p_zero j low) ∙ elim (cases_eq i p) [
                | inl e ↦ ap (λ k. entry o rows k j) (cond_yes i p r i e) ∙ form.rest r j r_high r_in low
                | inr d' ↦ ap (λ k. entry o rows k j) (cond_no i p r i d') ∙ form.rest i j i_high' i_in low
              ]
          | inr high ↦ let e : j ≡ col = omega arith in ap (λ k. entry o new i k) e ∙ other_zero i i_in d
        ]

    pub form_after : IsReducedEchelon o h new (pivots ++ col ∷ []) (col + 1)
    form_after =
        let long : length (pivots ++ col ∷ []) ≡ length pivots + 1 = length_push pivots col in
        record {
          count = omega arith;
          below = λ s s_in. elim
              (places s s_in) [ inl (low, e) ↦ omega (arith, form.below s) | inr (_, e) ↦ omega arith ];
          order = λ s t s_lt t_in.
              let s_in : s < length (pivots ++ col ∷ []) = omega arith in
              elim (places s s_in) [
                | inl (low, e) ↦ elim
                    (places t t_in) [
                      | inl (low', e') ↦ omega (arith, form.order s t s_lt)
                      | inr (_, e') ↦ omega
                          (arith, form.below s)
                    ]
                | inr (e, _) ↦ absurd (omega arith)
              ];
          unit = λ s i s_in i_in. elim (places s s_in) [
            | inl (low, e) ↦ ap (λ q. entry o new i q) e ∙ unit_old s i low i_in
            | inr (e, f) ↦ ap (λ q. entry o new i q) f ∙ unit_new s i e i_in
          ];
          left = λ s j s_in j_low. elim (places s s_in) [
            | inl (low, e) ↦ let j_low' : j < get_or pivots s 0 = omega arith in left_old s j low j_low'
            | inr (e, f) ↦
                let j_col : j < col = omega arith in
                let j_in : j < n = omega arith in
                ap (λ k. entry o new k j) e ∙ lead_zero j j_in (p_zero j j_col)
          ];
          rest = λ i j i_high i_in j_low. let above : r < i = omega arith in rest_after i j above i_in j_low;
        }

-- a column without a pivot
pub form_skipped : {E : Type 0} (o : Ops E) (h : ℕ) (rows : List (List E)) (pivots : List ℕ) (col : ℕ)
    → ((i : ℕ) → length pivots ≤ i → i < h → entry o rows i col ≡ o.zero) → IsReducedEchelon o h rows pivots col
    → IsReducedEchelon o h rows pivots (col + 1)
form_skipped o h rows pivots col none form = record {
  count = form.count;
  below = λ s s_in. omega (arith, form.below s);
  order = form.order;
  unit = form.unit;
  left = form.left;
  rest = λ i j i_high i_in j_low. elim (cases_lt j col) [
    | inl low ↦ form.rest i j i_high i_in low
    | inr high ↦ let e : j ≡ col = omega arith in ap (λ k. entry o rows i k) e ∙ none i i_high i_in
  ];
}
