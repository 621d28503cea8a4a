-- A left inverse of a square matrix over a field is a right inverse.
use Rattle.std.specs.Prelude.{◌≡◌, ℕ, zero, suc, ◌<◌, ◌≤◌, List, length, cond, eqb, ltb}
use Rattle.std.proofs.Common.{refl, sym, ◌∙◌, ap, ap₂, ⊎_elim}
use Rattle.std.proofs.lemmas.Bool.{cases_lt, cases_eq, lt-ltb, le-ltb}
use Rattle.std.proofs.Math.Path.{fun_ext}
use Rattle.theory_rings.specs.Ring.{FieldOn}
use Rattle.theory_rings.specs.Ops.{Ops, IsElem, FieldLaws}
use Rattle.theory_rings.specs.Elements.{Elem, Elem-path, elements}
use Rattle.theory_rings.specs.Sum.{sum, sum_of}
use Rattle.theory_rings.proofs.Rings.RingLaws.{mul-zero, add-neg, neg_unique, neg_neg}
use Rattle.theory_rings.proofs.Rings.Elements.{sum_of-elements}
use Rattle.theory_rings.proofs.Sums.Lists.{table_congr}
use Rattle.theory_rings.proofs.Sums.Sums.{sum_congr, sum_eq_zero}
use Rattle.theory_spaces.specs.Matrix.{Matrix, mat_mul, delta}
use Rattle.theory_spaces.specs.Functions.{functions}
use Rattle.theory_spaces.specs.Linear.{comb, Independent, InSpan}
use Rattle.theory_spaces.proofs.Linear.Dimension.{independent_of_span}
use Rattle.theory_spaces.proofs.Matrices.Matrices.{mat_mul_assoc, mat_mul_congr, add-mul_mat, mat_mul-delta}
use Rattle.theory_spaces.proofs.Matrices.Matrices.{delta-mat_mul, sum-mul_delta}
use Rattle.theory_tables.specs.Matrix.{entry, IsMatrix}
use Rattle.theory_tables.specs.Inverse.{IsInverse}
use Rattle.theory_tables.proofs.Rows.Sums.{entry-elem}
use Rattle.theory_tables.proofs.Rows.Terms.{cond_yes, cond_no}

module _ {K : Type 0} (F : FieldOn K) (n : ℕ) where
  -- row i of a matrix, with 0 from place n on
  abbrev row : Matrix K → ℕ → ℕ → K
  row A i j = cond (ltb j n) (A i j) F.zero

  row-in : (A : Matrix K) (i j : ℕ) → j < n → row A i j ≡ A i j
  row-in A i j l = ap (λ b. cond b (A i j) F.zero) (lt-ltb j n l)

  row-out : (A : Matrix K) (i j : ℕ) → n ≤ j → row A i j ≡ F.zero
  row-out A i j l = ap (λ b. cond b (A i j) F.zero) (le-ltb j n l)

  comb-at : (m : ℕ) (c : ℕ → K) (v : ℕ → ℕ → K) (j : ℕ)
      → comb (functions F.ring) m c v j ≡ sum F.monoid m (λ k. F.◌⊗◌ (c k) (v k j))
  comb-at zero c v j = refl
  comb-at (suc m) c v j = ap (λ x. F.◌⊕◌ x (F.◌⊗◌ (c m) (v m j))) (comb-at m c v j)

  comb-rows_in : (c : ℕ → K) (A : Matrix K) (j : ℕ) → j < n
      → comb (functions F.ring) n c (row A) j ≡ mat_mul F.ring n (λ _. c) A zero j
  comb-rows_in c A j l = comb-at n c (row A) j
      ∙ sum_congr F.monoid n (λ k. F.◌⊗◌ (c k) (row A k j)) (λ k. F.◌⊗◌ (c k) (A k j))
      (λ k _. ap (F.◌⊗◌ (c k)) (row-in A k j l))

  comb-rows_out : (c : ℕ → K) (A : Matrix K) (j : ℕ) → n ≤ j → comb (functions F.ring) n c (row A) j ≡ F.zero
  comb-rows_out c A j l = comb-at n c (row A) j
      ∙ sum_eq_zero F.monoid n (λ k. F.◌⊗◌ (c k) (row A k j))
      (λ k _. ap (F.◌⊗◌ (c k)) (row-out A k j l) ∙ mul-zero F.ring (c k))

  -- the rows of the unit matrix are independent
  unit_rows : Independent (functions F.ring) n (row (delta F.ring))
  unit_rows = record {
    only_zero = λ c e j l. sym (comb-rows_in c (delta F.ring) j l ∙ sum-mul_delta F.ring n c j l)
        ∙ ap (λ f. f j) e;
  }

  pub mul_eq_one_comm : (U T : Matrix K) → ((i j : ℕ) → i < n → j < n → mat_mul F.ring n U T i j ≡ delta F.ring i j)
      → (i j : ℕ) → i < n → j < n → mat_mul F.ring n T U i j ≡ delta F.ring i j
  mul_eq_one_comm U T h i j i_in j_in =
      let R = F.ring in
      let spans : (k : ℕ) → k < n → InSpan (functions F.ring) n (row T) (row (delta F.ring) k) = λ k k_in. record {
        weights = U k;
        combines = fun_ext (λ l. ⊎_elim
            (λ (a : l < n). row-in (delta F.ring) k l a ∙ sym (h k l k_in a) ∙ sym (comb-rows_in (U k) T l a))
            (λ (a : n ≤ l). row-out (delta F.ring) k l a ∙ sym (comb-rows_out (U k) T l a))
            (cases_lt l n));
      } in
      let free : Independent (functions F.ring) n (row T) =
      independent_of_span F (functions F.ring) n (row (delta F.ring)) (row T) unit_rows spans in
      let P : Matrix K = mat_mul F.ring n T U in
      let N : Matrix K = λ k l. F.neg (delta F.ring k l) in
      let c : ℕ → K = λ k. F.◌⊕◌ (P i k) (N i k) in
      let gone : comb (functions F.ring) n c (row T) ≡ (functions F.ring).zero = fun_ext (λ l. ⊎_elim
      (λ (a : l < n).
      let first : mat_mul F.ring n P T i l ≡ T i l = ap (λ (A : Matrix K). A i l) (mat_mul_assoc F.ring n n T U T)
      ∙ mat_mul_congr F.ring n T T (mat_mul F.ring n U T) (delta F.ring) i l (λ k _. refl) (λ k k_in. h k l k_in a)
      ∙ mat_mul-delta F.ring n T i l a in
      let second : mat_mul F.ring n N T i l ≡ F.neg (T i l) =
      neg_unique F.additive (T i l) (mat_mul F.ring n N T i l)
      (ap (λ x. F.◌⊕◌ x (mat_mul F.ring n N T i l)) (sym (delta-mat_mul F.ring n T i l i_in))
      ∙ sym (add-mul_mat F.ring n (delta F.ring) N T i l)
      ∙ sum_eq_zero F.monoid n (λ k. F.◌⊗◌ (F.◌⊕◌ (delta F.ring i k) (N i k)) (T k l))
      (λ k _. ap (λ x. F.◌⊗◌ x (T k l)) (add-neg F.additive (delta F.ring i k)) ∙ F.mul_comm F.zero (T k l)
      ∙ mul-zero F.ring (T k l))) in
      comb-rows_in c T l a ∙ add-mul_mat F.ring n P N T i l ∙ ap₂ F.◌⊕◌ first second ∙ add-neg F.additive (T i l))
      (λ (a : n ≤ l). comb-rows_out c T l a)
      (cases_lt l n)) in
      let zero_at : F.◌⊕◌ (P i j) (N i j) ≡ F.zero = free.only_zero c gone j j_in in
      sym (neg_neg F.additive (P i j)) ∙ ap F.neg (sym (neg_unique F.additive (P i j) (N i j) zero_at))
      ∙ neg_neg F.additive (delta F.ring i j)

-- the same of lists of rows
pub right_inverse : {E : Type 0} (o : Ops E) (L : FieldLaws o) (h : ℕ) (u t : List (List E))
    → ((i j : ℕ) → IsElem o (entry o u i j)) → ((i j : ℕ) → IsElem o (entry o t i j))
    → ((i j : ℕ) → i < h → j < h
    → sum_of o h (λ k. o.mul (entry o u i k) (entry o t k j)) ≡ cond (eqb j i) o.one o.zero)
    → (i j : ℕ) → i < h → j < h → sum_of o h (λ k. o.mul (entry o t i k) (entry o u k j)) ≡ cond (eqb j i) o.one o.zero
right_inverse {E} o L h u t u_in t_in e i j i_in j_in =
    let F = elements o L in
    let U : Matrix (Elem o) = λ i j. (entry o u i j, u_in i j) in
    let T : Matrix (Elem o) = λ i j. (entry o t i j, t_in i j) in
    let one_at : (i j : ℕ) → (delta F.ring i j).0 ≡ cond (eqb j i) o.one o.zero = λ i j. ⊎_elim
    (λ (q : i ≡ j). ap (λ (x : Elem o). x.0) (cond_yes i j F.one F.zero q) ∙ sym (cond_yes j i o.one o.zero (sym q)))
    (λ (d : i ≡ j → ⊥). ap (λ (x : Elem o). x.0) (cond_no i j F.one F.zero d)
    ∙ sym (cond_no j i o.one o.zero (λ q. d (sym q))))
    (cases_eq i j) in
    sum_of-elements o L h (λ k. F.◌⊗◌ (T i k) (U k j))
    ∙ ap (λ (x : Elem o). x.0)
    (mul_eq_one_comm F h U T (λ i j i_in j_in. Elem-path o (mat_mul F.ring h U T i j) (delta F.ring i j)
    (sym (sum_of-elements o L h (λ k. F.◌⊗◌ (U i k) (T k j))) ∙ e i j i_in j_in ∙ sym (one_at i j))) i j i_in j_in)
    ∙ one_at i j

pub IsInverse-left : {E : Type 0} (o : Ops E) (L : FieldLaws o) (h : ℕ) (u t : List (List E)) → IsMatrix o h u
    → length u ≡ h → IsMatrix o h t
    → ((i j : ℕ) → i < h → j < h
    → sum_of o h (λ k. o.mul (entry o u i k) (entry o t k j)) ≡ cond (eqb j i) o.one o.zero) → IsInverse o h t u
IsInverse-left o L h u t u_shape long t_shape left = record {
  shape = u_shape;
  height = long;
  inverse-mul = table_congr h _ _ (λ i i_in. table_congr h _ _ (λ j j_in. left i j i_in j_in));
  mul-inverse = table_congr h _ _
      (λ i i_in. table_congr h _ _
      (λ j j_in. right_inverse o L h u t (entry-elem o L h u u_shape) (entry-elem o L h t t_shape) left i j i_in j_in));
}
