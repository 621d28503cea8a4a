-- What an echelon form gives of a linear system.
use Rattle.std.proofs.Common.{◌≡◌, ◌≢◌, inl, inr, ℕ, ◌<◌, ◌≤◌, List, length, get_or, cond, nat_eq, sym, ap, ap₂, subst}
use Rattle.std.proofs.Common.{◌∙◌, arith}
use Rattle.std.proofs.lemmas.Bool.{cases_eq, cases_lt}
use Rattle.theory_rings.specs.Ops.{Ops, IsElem, FieldLaws}
use Rattle.theory_rings.specs.Sum.{sum_of, at}
use Rattle.theory_tables.specs.Matrix.{entry, IsMatrix}
use Rattle.theory_spaces.specs.Tuples.{IsTuple}
use Rattle.theory_tables.specs.Echelon.{IsEchelon}
use Rattle.theory_tables.specs.Matrix.{image}
use Rattle.theory_tables.specs.Solve.{IsSolved, IsRefuted, IsScattered}
use Rattle.theory_rings.proofs.Rings.Elements.{sum_of_congr, at-elem}
use Rattle.theory_rings.proofs.Sums.Lists.{get_or-table}
use Rattle.theory_tables.proofs.Rows.Terms.{mul-zero, zero-mul, mul-inv, cond_yes, cond_no}
use Rattle.theory_tables.proofs.Rows.Sums.{mul-sum_of, sum_of_zeros, sum_of-delta_mul, sums_assoc, entry-elem}
use Rattle.theory_tables.proofs.Rows.Sums.{entry_table}

module _ {E : Type 0} (o : Ops E) (L : FieldLaws o) (h w : ℕ) (a : List (List E)) (right : List E)
    (a_shape : IsMatrix o w a) (right_shape : IsTuple o h right)
    (rows : List (List E)) (pivots : List ℕ) (transform : List (List E))
    (echelon : IsEchelon o h w a rows pivots transform) where
  a_in : (i j : ℕ) → IsElem o (entry o a i j)
  a_in = entry-elem o L w a a_shape

  rows_in : (i j : ℕ) → IsElem o (entry o rows i j)
  rows_in = entry-elem o L w rows echelon.rows_shape

  t_in : (i j : ℕ) → IsElem o (entry o transform i j)
  t_in = entry-elem o L h transform echelon.transform_shape

  u_in : (i j : ℕ) → IsElem o (entry o echelon.invertible.inverse i j)
  u_in = entry-elem o L h echelon.invertible.inverse echelon.invertible.is_inverse.shape

  b_in : (i : ℕ) → IsElem o (at o right i)
  b_in = at-elem o L right right_shape.of_elements

  -- T·a = rows, item by item
  makes_at : (i j : ℕ) → i < h → j < w
      → sum_of o h (λ k. o.mul (entry o transform i k) (entry o a k j)) ≡ entry o rows i j
  makes_at i j i_in j_in =
      sym (entry_table o L h w (λ i j. sum_of o h (λ k. o.mul (entry o transform i k) (entry o a k j))) i j i_in j_in)
      ∙ ap (λ m. entry o m i j) echelon.makes

  -- u·T = 1
  undoes_at : (i j : ℕ) → i < h → j < h
      → sum_of o h (λ k. o.mul (entry o echelon.invertible.inverse i k) (entry o transform k j)) ≡ cond
      (nat_eq j i) o.one o.zero
  undoes_at i j i_in j_in =
      sym (entry_table o L h h
      (λ i j. sum_of o h (λ k.
      o.mul (entry o echelon.invertible.inverse i k) (entry o transform k j))) i j i_in j_in)
      ∙ ap (λ m. entry o m i j) echelon.invertible.is_inverse.inverse-mul
      ∙ entry_table o L h h (λ i j. cond (nat_eq j i) o.one o.zero) i j i_in j_in

  -- u·(T·z) = z, for a column z
  undo_column : (z : ℕ → E) → ((k : ℕ) → IsElem o (z k)) → (i : ℕ) → i < h
      → sum_of o h (λ k. o.mul (entry o echelon.invertible.inverse i k)
      (sum_of o h (λ l. o.mul (entry o transform k l) (z l)))) ≡ z i
  undo_column z z_in i i_in =
      sym (sums_assoc o L h h (entry o echelon.invertible.inverse i) (entry o transform) z (u_in i) t_in z_in)
      ∙ sum_of_congr o h _ _ (λ l l_in. ap (λ x. o.mul x (z l)) (undoes_at i l i_in l_in))
      ∙ sum_of-delta_mul o L h i z z_in i_in

  -- a row of multipliers past the pivots kills a
  pub refuted : (i : ℕ) (factor : E) (c m : List E) → length pivots ≤ i → i < h → c ≡ image o h h transform right
      → at o c i ≢ o.zero → factor ≡ o.inv (at o c i) → IsTuple o h m → IsElem o (at o c i)
      → ((k : ℕ) → k < h → at o m k ≡ o.mul factor (entry o transform i k)) → IsRefuted o h w a right m
  refuted i factor c m past i_in c_is nonzero factor_is tuple c_in m_is =
      let factor_in : IsElem o factor = subst (IsElem o) (sym factor_is) (L.inv-elem (at o c i) c_in) in
      let pull = λ (z : ℕ → E) (z_in : (k : ℕ) → IsElem o (z k)).
      let e : sum_of o h (λ k. o.mul (at o m k) (z k)) ≡ o.mul factor
      (sum_of o h (λ k. o.mul (entry o transform i k) (z k))) =
      sum_of_congr o h _ _ (λ k k_in. ap (λ x. o.mul x (z k)) (m_is k k_in)
      ∙ L.mul_assoc factor (entry o transform i k) (z k) factor_in (t_in i k) (z_in k))
      ∙ sym (mul-sum_of o L h factor (λ k. o.mul (entry o transform i k) (z k)) factor_in
      (λ k. L.mul-elem _ _ (t_in i k) (z_in k))) in
      e in
      record {
        tuple = tuple;
        kills = λ j j_in.
            pull (λ k. entry o a k j) (λ k. a_in k j)
            ∙ ap (o.mul factor) (makes_at i j i_in j_in ∙ echelon.reduced.rest i j past i_in j_in)
            ∙ mul-zero o L factor factor_in;
        refutes =
            pull (λ k. at o right k) b_in
            ∙ ap (o.mul factor) (sym
            (ap (λ v. at o v i) c_is
            ∙ get_or-table h (λ i. sum_of o h (λ k. o.mul (entry o transform i k) (at o right k))) i o.zero i_in))
            ∙ ap (λ x. o.mul x (at o c i)) factor_is
            ∙ L.mul_comm (o.inv (at o c i)) (at o c i) (L.inv-elem (at o c i) c_in) c_in
            ∙ mul-inv o L (at o c i) c_in nonzero;
      }

  -- rows·v = c
  rows_solved : (c v : List E) → ((k : ℕ) → IsElem o (at o c k)) → ((k : ℕ) → IsElem o (at o v k))
      → ((i : ℕ) → length pivots ≤ i → i < h → at o c i ≡ o.zero)
      → ((j : ℕ) → j < w → IsScattered o pivots c j (at o v j)) → (i : ℕ) → i < h
      → sum_of o w (λ j. o.mul (entry o rows i j) (at o v j)) ≡ at o c i
  rows_solved c v c_in v_in past item i i_in = elim (cases_lt i (length pivots)) [
    | inl low ↦
        let q = get_or pivots i 0 in
        let q_in : q < w = echelon.reduced.below i low in
        let none = λ (j : ℕ) (d : j ≢ q) (e : o.mul (entry o rows i j) (at o v j) ≡ o.zero).
        let r : o.mul (entry o rows i j) (at o v j) ≡ o.mul (cond (nat_eq j q) o.one o.zero) (at o c i) =
        e ∙ sym (ap (λ x. o.mul x (at o c i)) (cond_no j q o.one o.zero d) ∙ zero-mul o L (at o c i) (c_in i)) in
        r in
        sum_of_congr o w _ _ (λ j j_in. elim (item j j_in) [
          | inl (s, lands) ↦ elim (cases_eq i s) [
            | inl e ↦
                let at_q : j ≡ q = sym lands.column ∙ ap (λ k. get_or pivots k 0) (sym e) in
                ap₂ o.mul
                (ap (entry o rows i) (sym lands.column) ∙ echelon.reduced.unit s i lands.is_pivot i_in
                ∙ cond_yes i s o.one o.zero e ∙ sym (cond_yes j q o.one o.zero at_q))
                (lands.item ∙ ap (at o c) (sym e))
            | inr d ↦
                let col = lands.column in
                let up = echelon.reduced.order i s in
                let down = echelon.reduced.order s i in
                let s_in = lands.is_pivot in
                let away : j ≢ q = λ f. elim (cases_lt i s) [
                  | inl low' ↦ let g = up low' s_in in absurd (omega arith)
                  | inr high ↦ let low' : s < i = omega arith in let g = down low' low in absurd (omega arith)
                ] in
                none j away (ap (λ x. o.mul x (at o v j))
                (ap (entry o rows i) (sym lands.column) ∙ echelon.reduced.unit s i lands.is_pivot i_in
                ∙ cond_no i s o.one o.zero d) ∙ zero-mul o L (at o v j) (v_in j))
          ]
          | inr misses ↦ none j (λ f. misses.none i low (sym f))
              (ap (o.mul (entry o rows i j)) misses.item ∙ mul-zero o L (entry o rows i j) (rows_in i j))
        ])
        ∙ sum_of-delta_mul o L w q (λ _. at o c i) (λ _. c_in i) q_in
    | inr high ↦
        sum_of_congr o w _ _ (λ j j_in. ap (λ x. o.mul x (at o v j)) (echelon.reduced.rest i j high i_in j_in)
        ∙ zero-mul o L (at o v j) (v_in j))
        ∙ sum_of_zeros o L w
        ∙ sym (past i high i_in)
  ]

  pub solved : (c v : List E) → c ≡ image o h h transform right → ((k : ℕ) → IsElem o (at o c k))
      → ((i : ℕ) → length pivots ≤ i → i < h → at o c i ≡ o.zero) → IsTuple o w v
      → ((j : ℕ) → j < w → IsScattered o pivots c j (at o v j)) → IsSolved o h w a right v
  solved c v c_is c_in past tuple item =
      let v_in = at-elem o L v tuple.of_elements in
      record {
        tuple = tuple;
        solves = λ i i_in.
            let u = entry o echelon.invertible.inverse i in
            sum_of_congr o w _ _ (λ j j_in. ap (λ x. o.mul x (at o v j)) (sym (
            sum_of_congr o h _ _ (λ k k_in. ap (o.mul (u k)) (sym (makes_at k j k_in j_in)))
            ∙ undo_column (λ k. entry o a k j) (λ k. a_in k j) i i_in)))
            ∙ sums_assoc o L h w u (entry o rows) (at o v) (u_in i) rows_in v_in
            ∙ sum_of_congr o h _ _ (λ k k_in. ap (o.mul (u k)) (
            rows_solved c v c_in v_in past item k k_in
            ∙ ap (λ v. at o v k) c_is
            ∙ get_or-table h (λ i. sum_of o h (λ k. o.mul (entry o transform i k) (at o right k))) k o.zero k_in))
            ∙ undo_column (at o right) b_in i i_in;
      }
