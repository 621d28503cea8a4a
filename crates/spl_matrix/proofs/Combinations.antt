-- The rows before and after a pivot are combinations of each other.
use Rattle.std.proofs.Common.{◌≡◌, ◌≢◌, inl, inr, ℕ, ◌<◌, ◌≤◌, List, cond, nat_eq, sym, ap, ap₂, ◌∙◌, arith}
use Rattle.std.proofs.lemmas.Bool.{cases_eq}
use Rattle.theory_rings.specs.Ops.{Ops, IsElem, FieldLaws}
use Rattle.theory_rings.specs.Sum.{sum_of}
use Rattle.theory_tables.specs.Matrix.{entry}
use Rattle.spl_matrix.specs.Elimination.{pivoted, Combines}
use Rattle.theory_rings.proofs.Rings.Elements.{sum_of_congr, sum_of-elem}
use Rattle.spl_matrix.proofs.Forms.{inv_in, new_lead, new_other}
use Rattle.spl_matrix.proofs.ReducedBases.{cond_flip}
use Rattle.theory_tables.proofs.Rows.Terms.{add-zero, mul-one, zero-mul, add-mul, mul-inv, cond_yes, cond_no}
use Rattle.theory_tables.proofs.Rows.Terms.{cond_either}
use Rattle.theory_tables.proofs.Rows.Sums.{sum_of-add, mul-sum_of, sum_of_zeros, sum_of-delta_mul, sums_assoc, cancel}

module _ {E : Type 0} (o : Ops E) (L : FieldLaws o) where
  -- c times row m of the identity, times a column
  pub scaled_delta-mul : (n m : ℕ) (c : E) (z : ℕ → E) → IsElem o c → ((k : ℕ) → IsElem o (z k)) → m < n
      → sum_of o n (λ k. o.mul (o.mul c (cond (nat_eq k m) o.one o.zero)) (z k)) ≡ o.mul c (z m)
  scaled_delta-mul n m c z c_in z_in l =
      let d : ℕ → E = λ k. cond (nat_eq k m) o.one o.zero in
      let d_in : (k : ℕ) → IsElem o (d k) = λ k.
      cond_either (IsElem o) (nat_eq k m) o.one o.zero L.one-elem L.zero-elem in
      sum_of_congr o n _ _ (λ k _. L.mul_assoc c (d k) (z k) c_in (d_in k) (z_in k))
      ∙ sym (mul-sum_of o L n c (λ k. o.mul (d k) (z k)) c_in (λ k. L.mul-elem _ _ (d_in k) (z_in k)))
      ∙ ap (o.mul c) (sum_of-delta_mul o L n m z z_in l)

  -- a row times column i of the identity
  pub sum_of-mul_delta : (n i : ℕ) (g : ℕ → E) → ((k : ℕ) → IsElem o (g k)) → i < n
      → sum_of o n (λ k. o.mul (g k) (cond (nat_eq i k) o.one o.zero)) ≡ g i
  sum_of-mul_delta n i g g_in l =
      let d_in : (k : ℕ) → IsElem o (cond (nat_eq i k) o.one o.zero) = λ k.
      cond_either (IsElem o) (nat_eq i k) o.one o.zero L.one-elem L.zero-elem in
      sum_of_congr o n _ _ (λ k _. L.mul_comm (g k) (cond (nat_eq i k) o.one o.zero) (g_in k) (d_in k)
      ∙ ap (λ c. o.mul c (g k)) (cond_flip i k o.one o.zero))
      ∙ sum_of-delta_mul o L n i g g_in l

  pub Combines-refl : (h n : ℕ) (rows : List (List E)) → ((i j : ℕ) → IsElem o (entry o rows i j))
      → Combines o h n rows rows
  Combines-refl h n rows rows_in = record {
    weight = λ i k. cond (nat_eq k i) o.one o.zero;
    weight-elem = λ i k. cond_either (IsElem o) (nat_eq k i) o.one o.zero L.one-elem L.zero-elem;
    combines = λ i j i_in j_in. sum_of-delta_mul o L h i (λ k. entry o rows k j) (λ k. rows_in k j) i_in;
  }

  pub Combines-trans : (h n : ℕ) (a b c : List (List E)) → ((i j : ℕ) → IsElem o (entry o a i j)) → Combines o h n a b
      → Combines o h n b c → Combines o h n a c
  Combines-trans h n a b c a_in x y = record {
    weight = λ i k. sum_of o h (λ m. o.mul (y.weight i m) (x.weight m k));
    weight-elem = λ i k. sum_of-elem o L h (λ m. o.mul (y.weight i m) (x.weight m k))
        (λ m _. L.mul-elem _ _ (y.weight-elem i m) (x.weight-elem m k));
    combines = λ i j i_in j_in.
        sums_assoc o L h h (y.weight i) x.weight (λ k. entry o a k j) (y.weight-elem i) x.weight-elem (λ k. a_in k j)
        ∙ sum_of_congr o h _ _ (λ m m_in. ap (o.mul (y.weight i m)) (x.combines m j m_in j_in))
        ∙ y.combines i j i_in j_in;
  }

module _ {E : Type 0} (o : Ops E) (L : FieldLaws o) (h n : ℕ) (rows : List (List E))
    (rows_in : (i j : ℕ) → IsElem o (entry o rows i j))
    (p r col : ℕ) (col_in : col < n) (p_in : p < h) (r_le : r ≤ p) (nonzero : entry o rows p col ≢ o.zero)
    (new_in : (i j : ℕ) → IsElem o (entry o (pivoted o h n rows p r col) i j)) where
  -- where row m stands afterwards
  abbrev pub target : ℕ → ℕ
  target m = cond (nat_eq m r) p m

  abbrev pub unit_at : ℕ → ℕ → E
  unit_at k j = cond (nat_eq j k) o.one o.zero

  abbrev pub back : ℕ → ℕ → E
  back m j = o.add (o.mul (entry o rows m col) (unit_at r j)) (cond (nat_eq m p) o.zero (unit_at (target m) j))

  unit_in : (k j : ℕ) → IsElem o (unit_at k j)
  unit_in k j = cond_either (IsElem o) (nat_eq j k) o.one o.zero L.one-elem L.zero-elem

  back_in : (m j : ℕ) → IsElem o (back m j)
  back_in m j = L.add-elem _ _ (L.mul-elem _ _ (rows_in m col) (unit_in r j))
      (cond_either (IsElem o) (nat_eq m p) o.zero (unit_at (target m) j) L.zero-elem (unit_in (target m) j))

  -- row m is its item in column col times the lead, and the row that stands in its place
  second : (m c : ℕ) → m < h → c < n
      → o.add (o.mul (entry o rows m col) (entry o (pivoted o h n rows p r col) r c))
      (sum_of o h (λ j. o.mul (cond (nat_eq m p) o.zero (unit_at (target m) j))
      (entry o (pivoted o h n rows p r col) j c))) ≡ entry o rows m c
  second m c m_in c_in =
      let new = pivoted o h n rows p r col in
      let x = entry o rows p col in
      let y = o.mul (o.inv x) (entry o rows p c) in
      let i_in = inv_in o L h n rows rows_in p r col col_in p_in r_le nonzero in
      let y_in = L.mul-elem _ _ i_in (rows_in p c) in
      let lead = new_lead o L h n rows rows_in p r col col_in p_in r_le nonzero c c_in in
      elim (cases_eq m p) [
        | inl e ↦
            ap₂ o.add (ap₂ o.mul (ap (λ k. entry o rows k col) e) lead)
            (sum_of_congr o h _ _
            (λ j _. ap (λ b. o.mul b (entry o new j c)) (cond_yes m p o.zero (unit_at (target m) j) e)
            ∙ zero-mul o L _ (new_in j c)) ∙ sum_of_zeros o L h)
            ∙ add-zero o L _ (L.mul-elem _ _ (rows_in p col) y_in)
            ∙ sym (L.mul_assoc x (o.inv x) (entry o rows p c) (rows_in p col) i_in (rows_in p c))
            ∙ ap (λ s. o.mul s (entry o rows p c)) (mul-inv o L x (rows_in p col) nonzero)
            ∙ L.mul_comm o.one (entry o rows p c) L.one-elem (rows_in p c)
            ∙ mul-one o L _ (rows_in p c)
            ∙ ap (λ k. entry o rows k c) (sym e)
        | inr d ↦
            let t_in : target m < h = cond_either (λ k. k < h) (nat_eq m r) p m p_in m_in in
            let t_ne : target m ≢ r =
            elim (cases_eq m r) [
              | inl e ↦ λ f. d (e ∙ sym f ∙ cond_yes m r p m e)
              | inr d' ↦ λ f.
                  d' (sym (cond_no m r p m d') ∙ f)
            ] in
            let back_to : cond (nat_eq (target m) p) r (target m) ≡ m = elim (cases_eq m r) [
              | inl e ↦ cond_yes (target m) p r (target m) (cond_yes m r p m e) ∙ sym e
              | inr d' ↦ cond_no (target m) p r (target m) (λ q. d (sym (cond_no m r p m d') ∙ q)) ∙ cond_no m r p m d'
            ] in
            ap₂ o.add (ap (o.mul (entry o rows m col)) lead)
            (sum_of_congr o h _ _
            (λ j _. ap (λ b. o.mul b (entry o new j c)) (cond_no m p o.zero (unit_at (target m) j) d))
            ∙ sum_of-delta_mul o L h (target m) (λ j. entry o new j c) (λ j. new_in j c) t_in
            ∙ new_other o L h n rows rows_in p r col col_in p_in r_le nonzero (target m) c t_in t_ne c_in
            ∙ ap (λ k. o.add (entry o rows k c) (o.mul (o.neg (entry o rows k col)) y)) back_to)
            ∙ cancel o L (entry o rows m col) y (entry o rows m c) (rows_in m col) y_in (rows_in m c)
      ]

  back_row : (m c : ℕ) → m < h → c < n
      → sum_of o h (λ j. o.mul (back m j) (entry o (pivoted o h n rows p r col) j c)) ≡ entry o rows m c
  back_row m c m_in c_in =
      let new = pivoted o h n rows p r col in
      let z = λ (j : ℕ). entry o new j c in
      let z_in = λ (j : ℕ). new_in j c in
      let a = entry o rows m col in
      let second_part = λ (j : ℕ). cond (nat_eq m p) o.zero (unit_at (target m) j) in
      let second_in = λ (j : ℕ).
      cond_either (IsElem o) (nat_eq m p) o.zero (unit_at (target m) j) L.zero-elem (unit_in (target m) j) in
      let r_in : r < h = omega arith in
      sum_of_congr o h _ _ (λ j _.
      add-mul o L (o.mul a (unit_at r j)) (second_part j) (z j) (L.mul-elem _ _ (rows_in m col) (unit_in r j))
      (second_in j) (z_in j))
      ∙ sum_of-add o L h (λ j. o.mul (o.mul a (unit_at r j)) (z j)) (λ j. o.mul (second_part j) (z j))
      (λ j. L.mul-elem _ _ (L.mul-elem _ _ (rows_in m col) (unit_in r j)) (z_in j))
      (λ j. L.mul-elem _ _ (second_in j) (z_in j))
      ∙ ap (λ s. o.add s (sum_of o h (λ j. o.mul (second_part j) (z j)))) (
      scaled_delta-mul o L h r a z (rows_in m col) z_in r_in)
      ∙ second m c m_in c_in

  pub pivoted_back : Combines o h n (pivoted o h n rows p r col) rows
  pivoted_back = record { weight = back; weight-elem = back_in; combines = back_row }

  abbrev pub source : ℕ → ℕ
  source i = cond (nat_eq i p) r i

  inv_x_in : IsElem o (o.inv (entry o rows p col))
  inv_x_in = inv_in o L h n rows rows_in p r col col_in p_in r_le nonzero

  -- a multiple of the lead, by the rows before
  abbrev pub of_lead : ℕ → E
  of_lead k = o.mul (o.inv (entry o rows p col)) (unit_at p k)

  of_lead_in : (k : ℕ) → IsElem o (of_lead k)
  of_lead_in k = L.mul-elem _ _ inv_x_in (unit_in p k)

  abbrev pub ahead : ℕ → ℕ → E
  ahead i k = cond (nat_eq i r) (of_lead k)
      (o.add (unit_at (source i) k) (o.mul (o.neg (entry o rows (source i) col)) (of_lead k)))

  ahead_in : (i k : ℕ) → IsElem o (ahead i k)
  ahead_in i k = cond_either (IsElem o) (nat_eq i r) (of_lead k)
      (o.add (unit_at (source i) k) (o.mul (o.neg (entry o rows (source i) col)) (of_lead k)))
      (of_lead_in k) (L.add-elem _ _ (unit_in (source i) k)
      (L.mul-elem _ _ (L.neg-elem _ (rows_in (source i) col)) (of_lead_in k)))

  ahead_row : (i j : ℕ) → i < h → j < n
      → sum_of o h (λ k. o.mul (ahead i k) (entry o rows k j)) ≡ entry o (pivoted o h n rows p r col) i j
  ahead_row i j i_in j_in =
      let new = pivoted o h n rows p r col in
      let z : ℕ → E = λ k. entry o rows k j in
      let z_in : (k : ℕ) → IsElem o (z k) = λ k. rows_in k j in
      let e = o.neg (entry o rows (source i) col) in
      let e_in = L.neg-elem _ (rows_in (source i) col) in
      let r_in : r < h = omega arith in
      let lead = scaled_delta-mul o L h p (o.inv (entry o rows p col)) z inv_x_in z_in p_in in
      elim (cases_eq i r) [
        | inl f ↦
            sum_of_congr o h _ _ (λ k _.
            ap (λ x. o.mul x (z k))
            (cond_yes i r (of_lead k) (o.add (unit_at (source i) k) (o.mul e (of_lead k))) f))
            ∙ lead
            ∙ sym (new_lead o L h n rows rows_in p r col col_in p_in r_le nonzero j j_in)
            ∙ ap (λ k. entry o new k j) (sym f)
        | inr d ↦
            let s_in : source i < h = cond_either (λ k. k < h) (nat_eq i p) r i r_in i_in in
            sum_of_congr o h _ _ (λ k _.
            ap (λ x. o.mul x (z k)) (cond_no i r (of_lead k) (o.add (unit_at (source i) k) (o.mul e (of_lead k))) d)
            ∙ add-mul o L (unit_at (source i) k) (o.mul e (of_lead k)) (z k) (unit_in (source i) k)
            (L.mul-elem _ _ e_in (of_lead_in k)) (z_in k)
            ∙ ap (o.add (o.mul (unit_at (source i) k) (z k)))
            (L.mul_assoc e (of_lead k) (z k) e_in (of_lead_in k) (z_in k)))
            ∙ sum_of-add o L h (λ k. o.mul (unit_at (source i) k) (z k)) (λ k. o.mul e (o.mul (of_lead k) (z k)))
            (λ k. L.mul-elem _ _ (unit_in (source i) k) (z_in k))
            (λ k. L.mul-elem _ _ e_in (L.mul-elem _ _ (of_lead_in k) (z_in k)))
            ∙ ap₂ o.add (sum_of-delta_mul o L h (source i) z z_in s_in)
            (sym (mul-sum_of o L h e (λ k. o.mul (of_lead k) (z k)) e_in
            (λ k. L.mul-elem _ _ (of_lead_in k) (z_in k))) ∙ ap (o.mul e) lead)
            ∙ sym (new_other o L h n rows rows_in p r col col_in p_in r_le nonzero i j i_in d j_in)
      ]

  pub pivoted_forth : Combines o h n rows (pivoted o h n rows p r col)
  pivoted_forth = record { weight = ahead; weight-elem = ahead_in; combines = ahead_row }
