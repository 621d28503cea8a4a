-- Square matrices: the transform of the echelon form is the inverse where each column has a pivot, and else its last
-- row shows that the rows are dependent.
use Rattle.std.specs.Prelude.{◌≡◌, ◌≢◌, ℕ, zero, suc, ◌+◌, ◌-◌, ◌<◌, ◌≤◌, List, [], length, get_or, cond, nat_eq}
use Rattle.std.proofs.Common.{refl, sym, ◌∙◌, ap, arith, ⊎_elim}
use Rattle.theory_rings.specs.Ops.{Ops, IsElem, FieldLaws}
use Rattle.theory_rings.specs.Elements.{Elem, Elem-path, elements}
use Rattle.theory_rings.specs.Sum.{sum_of, at}
use Rattle.theory_rings.proofs.Rings.Elements.{at-elem, sum_of_congr}
use Rattle.theory_spaces.proofs.Linear.Decide.{NotAllZero, pivot}
use Rattle.theory_tables.specs.Matrix.{entry, IsMatrix}
use Rattle.theory_tables.specs.Echelon.{IsEchelon}
use Rattle.theory_tables.specs.Inverse.{IsInverse, AreDependent}
use Rattle.theory_tables.specs.Subspace.{InSpan, IsReducedBasis}
use Rattle.theory_spaces.specs.Tuples.{IsTuple}
use Rattle.spl_matrix.proofs.Combinations.{sum_of-mul_delta}
use Rattle.theory_tables.proofs.Rows.Inverses.{IsInverse-left}
use Rattle.spl_matrix.proofs.ReducedBases.{cond_flip, combined-pivot}
use Rattle.theory_tables.proofs.Rows.Spans.{combined, InSpan-by}
use Rattle.theory_tables.proofs.Rows.Sums.{sum_of_zeros, sums_assoc, entry-elem, entry_table}
use Rattle.theory_tables.proofs.Rows.Terms.{zero-mul, cond_yes}

-- n numbers below n that go up are 0, 1, .., n − 1
goes_up-id : (n : ℕ) (p : ℕ → ℕ) → ((s : ℕ) → s < n → p s < n) → ((s t : ℕ) → s < t → t < n → p s < p t) → (s : ℕ)
    → s < n → p s ≡ s
goes_up-id n p below up s s_in =
    let l = low s s_in in
    let e : s + suc (n - suc s) ≡ n = omega arith in
    let h = high (n - suc s) s e in
    omega arith
  where
    low : (s : ℕ) → s < n → s ≤ p s
    low zero l = omega arith
    low (suc s) l =
        let k : s < n = omega arith in
        let m : s < suc s = omega arith in
        let a = low s k in
        let b = up s (suc s) m l in
        omega arith

    high : (k s : ℕ) → s + suc k ≡ n → p s + suc k ≤ n
    high zero s e = let l : s < n = omega arith in let b = below s l in omega arith
    high (suc k) s e =
        let l : suc s < n = omega arith in
        let m : s < suc s = omega arith in
        let f : suc s + suc k ≡ n = omega arith in
        let a = high k (suc s) f in
        let b = up s (suc s) m l in
        omega arith

-- a reduced basis of as many rows as columns, or more, spans all tuples
pub full_basis_spans : {E : Type 0} (o : Ops E) (L : FieldLaws o) (w : ℕ) (rows : List (List E))
    → IsReducedBasis o w rows → w ≤ length rows
    → (v : List E) → IsTuple o w v → InSpan o w rows v
full_basis_spans o L w rows x full v tuple =
    let r = x.reduced in
    let each = x.each in
    let v_in = at-elem o L v tuple.of_elements in
    InSpan-by o L w rows v (at o v) v_in (λ j j_in.
    let j_row : j < length rows = omega arith in
    let at_j : get_or x.pivots j 0 ≡ j = goes_up-id w (λ s. get_or x.pivots s 0)
    (λ s s_in. let s_piv : s < length x.pivots = omega arith in r.below s s_piv)
    (λ s t s_low t_in. let t_piv : t < length x.pivots = omega arith in r.order s t s_low t_piv) j j_in in
    sym (ap (combined o L rows (at o v)) (sym at_j)
    ∙ combined-pivot o L w rows x.shape x.pivots each r (at o v) v_in j j_row))

module _ {E : Type 0} (o : Ops E) (L : FieldLaws o) (h : ℕ) (a rows : List (List E)) (pivots : List ℕ)
    (transform : List (List E))
    (a_shape : IsMatrix o h a) (echelon : IsEchelon o h h a rows pivots transform) where
  makes_at : (i j : ℕ) → i < h → j < h
      → sum_of o h (λ k. o.mul (entry o transform i k) (entry o a k j)) ≡ entry o rows i j
  makes_at i j i_in j_in =
      sym (entry_table o L h h (λ i j. sum_of o h (λ k. o.mul (entry o transform i k) (entry o a k j))) i j i_in j_in)
      ∙ ap (λ m. entry o m i j) echelon.makes

  t_in : (i j : ℕ) → IsElem o (entry o transform i j)
  t_in = entry-elem o L h transform echelon.transform_shape

  -- each column has a pivot
  pub is_inverse : length pivots ≡ h → IsInverse o h a transform
  is_inverse full =
      let r = echelon.reduced in
      let left : (i j : ℕ) → i < h → j < h
      → sum_of o h (λ k. o.mul (entry o transform i k) (entry o a k j)) ≡ cond (nat_eq j i) o.one o.zero =
      λ i j i_in j_in.
      let j_piv : j < length pivots = omega arith in
      let at_j : get_or pivots j 0 ≡ j = goes_up-id h (λ s. get_or pivots s 0)
      (λ s s_in. let s_piv : s < length pivots = omega arith in r.below s s_piv)
      (λ s t s_low t_in. let t_piv : t < length pivots = omega arith in r.order s t s_low t_piv) j j_in in
      makes_at i j i_in j_in ∙ ap (entry o rows i) (sym at_j) ∙ r.unit j i j_piv i_in ∙ cond_flip i j o.one o.zero in
      IsInverse-left o L h transform a echelon.transform_shape echelon.transform_height a_shape left

  -- the last row of the transform makes 0, and is not 0 itself
  pub are_dependent : length pivots ≢ h → AreDependent o h h a
  are_dependent short =
      let count = echelon.reduced.count in
      let last = h - 1 in
      let last_in : last < h = omega arith in
      let past : length pivots ≤ last = omega arith in
      let low : last < length transform = omega (arith, echelon.transform_height) in
      let F = elements o L in
      let f : ℕ → Elem o = λ k. (entry o transform last k, t_in last k) in
      let u = echelon.invertible.inverse in
      let u_in = entry-elem o L h u echelon.invertible.is_inverse.shape in
      ⊎_elim
      (λ (n : NotAllZero F h f). record {
        multipliers = get_or transform last [];
        tuple = echelon.transform_shape last [] low;
        kills = λ j j_in. makes_at last j last_in j_in ∙ echelon.reduced.rest last j past last_in j_in;
        place = n.place;
        within = n.within;
        nonzero = λ e. n.nonzero (Elem-path o (f n.place) F.zero e);
      })
      (λ (z : (k : ℕ) → k < h → f k ≡ F.zero). absurd (L.one-nonzero (
      sym (cond_yes last last o.one o.zero refl)
      ∙ sym (entry_table o L h h (λ i j. cond (nat_eq j i) o.one o.zero) last last last_in last_in)
      ∙ ap (λ m. entry o m last last) (sym echelon.invertible.is_inverse.mul-inverse)
      ∙ entry_table o L h h
      (λ i j. sum_of o h (λ k. o.mul (entry o transform i k) (entry o u k j))) last last last_in last_in
      ∙ sum_of_congr o h _ _
      (λ k k_in. ap (λ x. o.mul x (entry o u k last)) (ap (λ (x : Elem o). x.0) (z k k_in))
      ∙ zero-mul o L (entry o u k last) (u_in k last))
      ∙ sum_of_zeros o L h)))
      (pivot F h f)

-- the rows of a matrix with an inverse are independent
pub not_dependent : {E : Type 0} (o : Ops E) (L : FieldLaws o) (h : ℕ) (a b : List (List E)) → IsMatrix o h a
    → IsInverse o h a b → AreDependent o h h a → ⊥
not_dependent o L h a b a_shape inverse d =
    let m = at o d.multipliers in
    let m_in : (i : ℕ) → IsElem o (m i) = at-elem o L d.multipliers d.tuple.of_elements in
    let b_in = entry-elem o L h b inverse.shape in
    let p = d.place in
    let right = λ (i : ℕ) (i_in : i < h).
    let e : cond (nat_eq p i) o.one o.zero ≡ sum_of o h (λ k. o.mul (entry o a i k) (entry o b k p)) =
    sym (entry_table o L h h (λ i j. cond (nat_eq j i) o.one o.zero) i p i_in d.within)
    ∙ ap (λ x. entry o x i p) (sym inverse.mul-inverse)
    ∙ entry_table o L h h (λ i j. sum_of o h (λ k. o.mul (entry o a i k) (entry o b k j))) i p i_in d.within in
    e in
    d.nonzero (
    sym (sum_of-mul_delta o L h p m m_in d.within)
    ∙ sum_of_congr o h _ _ (λ i i_in. ap (o.mul (m i)) (right i i_in))
    ∙ sym (sums_assoc o L h h m (entry o a) (λ k. entry o b k p) m_in (entry-elem o L h a a_shape) (λ k. b_in k p))
    ∙ sum_of_congr o h _ _
    (λ k k_in. ap (λ x. o.mul x (entry o b k p)) (d.kills k k_in) ∙ zero-mul o L (entry o b k p) (b_in k p))
    ∙ sum_of_zeros o L h)
