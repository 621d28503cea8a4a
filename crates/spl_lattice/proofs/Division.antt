-- The division of a row by reduced rows, on lists over a program's field: what was taken away and what is left make the
-- row, and what is left in the end tells whether the row is in the lattice.
use Rattle.std.specs.Prelude.{◌≡◌, ℕ, ◌<◌, ◌≤◌, List, [], length, get_or}
use Rattle.std.proofs.Common.{refl, sym, ◌∙◌, ap, ap₂, subst, arith, ⊎_elim}
use Rattle.std.proofs.lemmas.Bool.{cases_lt}
use Rattle.std.proofs.lemmas.List.{length-set, get_or-set_same, get_or-set_other}
use Rattle.std.proofs.lemmas.List.Elements.{All-nil, All-set}
use Rattle.std.proofs.Math.Path.{fun_ext}
use Rattle.theory_rings.specs.Ring.{CommRingOn}
use Rattle.theory_rings.specs.Ops.{Ops, IsElem, FieldLaws}
use Rattle.theory_rings.specs.Sum.{at, sum_of}
use Rattle.theory_rings.specs.Polynomial.{Poly, IsTrimmed, convolution_of}
use Rattle.theory_rings.proofs.Rings.RingLaws.{zero-mul, add-zero}
use Rattle.theory_rings.proofs.Rings.Solver.{◌⊞◌, ◌⊠◌, minus, nil, ring2, ring3, ring4}
use Rattle.theory_rings.proofs.Sums.Lists.{length-table, get_or-table, All-table}
use Rattle.theory_rings.proofs.Sums.Sums.{sum_congr, sum-add, sum_eq_single, sum_eq_zero}
use Rattle.theory_fractions.proofs.Lifting.{has-lift, has-add, eq_of_coefficients, coefficients_of_eq, lift_nil}
use Rattle.theory_spaces.specs.Linear.{comb, InSpan}
use Rattle.theory_spaces.proofs.Linear.Modules.{InSpan-add, InSpan-neg}
use Rattle.theory_rows.specs.Augmented.{zero_row}
use Rattle.theory_rows.specs.Rows.{IsPolynomialRow, IsPolynomialMatrix, InRowLattice, IsRowCombination}
use Rattle.theory_rows.specs.LeadingPositions.{HasLeadingPosition, HaveLeadingPositions, IsZeroUpTo}
use Rattle.theory_rows.proofs.LiftedRows.{G, Q, M, up, up_row, up_rows, combined, has-combined, comb_at}
use Rattle.theory_rows.proofs.LiftedRows.{entry-over, entry_past, matrix-over, row_at, combination_of_up}
use Rattle.theory_rows.proofs.LiftedRows.{span_of_lattice, lattice_of_span}
use Rattle.theory_rows.proofs.Lowering.{height}
use Rattle.theory_rows.proofs.Positions.{member_position}
use Rattle.spl_poly.specs.Operations.{IsOver}
use Rattle.spl_lattice.specs.Division.{CanDivide, IsDivisionStep}
use Rattle.spl_lattice.proofs.RowReduction.{rest-entry, rest_lower}

-- ---- what is left

-- the row is the combination of the rows with these coordinates and what is left
pub record IsDividing {E : Type 0} (o : Ops E) (w : ℕ) (rows : List (List (List E)))
    (row coordinates rest : List (List E)) : Type 0 where
  pub coordinates_row : IsPolynomialRow o (length rows) coordinates
  pub rest_row : IsPolynomialRow o w rest
  pub whole : (j k : ℕ) → at o (get_or row j []) k ≡ o.add (sum_of o (length rows)
      (λ i. convolution_of o (at o (get_or coordinates i [])) (at o (get_or (get_or rows i []) j [])) k))
      (at o (get_or rest j []) k)

module _ {E : Type 0} (o : Ops E) (L : FieldLaws o) (w : ℕ) (rows : List (List (List E)))
    (hm : IsPolynomialMatrix o w rows) (row : List (List E)) (hr : IsPolynomialRow o w row) where
  abbrev P : CommRingOn (Poly (let F = G o L in F.cring))
  P = Q o L

  abbrev n : ℕ
  n = length rows

  -- ---- over the polynomials

  parts : (c rest : List (List E)) → IsDividing o w rows row c rest → (j : ℕ)
      → up_row o L row j ≡ P.◌⊕◌ (combined o L c rows j) (up_row o L rest j)
  parts c rest d j = eq_of_coefficients o L (up_row o L row j) (P.◌⊕◌ (combined o L c rows j) (up_row o L rest j))
      (at o (get_or row j []))
      (λ k. o.add (sum_of o n
      (λ i. convolution_of o (at o (get_or c i [])) (at o (get_or (get_or rows i []) j [])) k))
      (at o (get_or rest j []) k))
      (has-lift o L (get_or row j []) (entry-over o L w row hr j))
      (has-add o L (combined o L c rows j) (up_row o L rest j)
      (λ k. sum_of o n (λ i. convolution_of o (at o (get_or c i [])) (at o (get_or (get_or rows i []) j [])) k))
      (at o (get_or rest j []))
      (has-combined o L c rows (entry-over o L n c d.coordinates_row) (matrix-over o L w rows hm) j)
      (has-lift o L (get_or rest j []) (entry-over o L w rest d.rest_row j))) (d.whole j)

  dividing_of_parts : (c rest : List (List E)) → IsPolynomialRow o n c → IsPolynomialRow o w rest
      → ((j : ℕ) → up_row o L row j ≡ P.◌⊕◌ (combined o L c rows j) (up_row o L rest j))
      → IsDividing o w rows row c rest
  dividing_of_parts c rest hc ht e = record {
    coordinates_row = hc;
    rest_row = ht;
    whole = λ j. coefficients_of_eq o L (up_row o L row j) (P.◌⊕◌ (combined o L c rows j) (up_row o L rest j))
        (at o (get_or row j []))
        (λ k. o.add (sum_of o n
        (λ i. convolution_of o (at o (get_or c i [])) (at o (get_or (get_or rows i []) j [])) k))
        (at o (get_or rest j []) k))
        (has-lift o L (get_or row j []) (entry-over o L w row hr j))
        (has-add o L (combined o L c rows j) (up_row o L rest j)
        (λ k. sum_of o n (λ i. convolution_of o (at o (get_or c i [])) (at o (get_or (get_or rows i []) j [])) k))
        (at o (get_or rest j []))
        (has-combined o L c rows (entry-over o L n c hc) (matrix-over o L w rows hm) j)
        (has-lift o L (get_or rest j []) (entry-over o L w rest ht j))) (e j);
  }

  -- ---- at the start

  zero_row-polynomials : (m : ℕ) → IsPolynomialRow o m (zero_row m)
  zero_row-polynomials m = record {
    width = length-table {X = List E} m (λ _. []);
    over = All-table (IsOver o) m (λ _. []) (λ k g. All-nil (IsElem o));
    trimmed = All-table (IsTrimmed o.zero) m (λ _. []) (λ k g. tt);
  }

  pub dividing_start : IsDividing o w rows row (zero_row n) row
  dividing_start = dividing_of_parts (zero_row n) row (zero_row-polynomials n) hr (λ j.
      sym (ap (λ t. P.◌⊕◌ t (up_row o L row j)) (sum_eq_zero P.monoid n
      (λ i. P.◌⊗◌ (up_row o L (zero_row n) i) (up_rows o L rows i j))
      (λ i l. ap (λ t. P.◌⊗◌ t (up_rows o L rows i j)) (ap (up o L) (get_or-table n (λ _. []) i [] l) ∙ lift_nil o L)
      ∙ zero-mul P.ring (up_rows o L rows i j))) ∙ P.zero-add (up_row o L row j)))

  -- ---- a step

  module _ (c rest c' rest' : List (List E)) (d : IsDividing o w rows row c rest) (p i : ℕ) (l : i < n)
      (ht : IsPolynomialRow o w rest') (s : IsDivisionStep o p i (get_or rows i []) rest c rest' c') where
    abbrev by : List (List E)
    by = get_or rows i []

    hb : IsPolynomialRow o w by
    hb = row_at o L w rows hm i l

    hc : IsPolynomialRow o n c
    hc = d.coordinates_row

    q : Poly (let F = G o L in F.cring)
    q = (let r = s.rest in up o L r.quotient)

    new_coordinates : IsPolynomialRow o n c'
    new_coordinates = (let a = s.added in subst (IsPolynomialRow o n) (sym a.whole) (record {
      width = length-set c i a.sum ∙ hc.width;
      over = All-set (IsOver o) c i a.sum a.sum_over hc.over;
      trimmed = All-set (IsTrimmed o.zero) c i a.sum a.sum_trimmed hc.trimmed;
    }))

    at_place : up_row o L c' i ≡ P.◌⊕◌ (up_row o L c i) q
    unfolding q
    at_place = (let a = s.added in let r = s.rest in
        ap (λ x. up o L (get_or x i [])) a.whole
        ∙ ap (up o L) (get_or-set_same c i a.sum [] (let e = hc.width in omega (arith, l)))
        ∙ eq_of_coefficients o L (up o L a.sum) (P.◌⊕◌ (up_row o L c i) (up o L r.quotient)) (at o a.sum)
        (λ k. o.add (at o (get_or c i []) k) (at o r.quotient k)) (has-lift o L a.sum a.sum_over)
        (has-add o L (up_row o L c i) (up o L r.quotient) (at o (get_or c i [])) (at o r.quotient)
        (has-lift o L (get_or c i []) (entry-over o L n c hc i)) (has-lift o L r.quotient r.quotient_over)) a.value)

    elsewhere : (k : ℕ) → (k ≡ i → ⊥) → up_row o L c' k ≡ up_row o L c k
    elsewhere k ne = (let a = s.added in ap (λ x. up o L (get_or x k [])) a.whole
        ∙ ap (up o L) (get_or-set_other c i k a.sum [] ne))

    -- by how much a coordinate grows
    abbrev more : ℕ → Poly (let F = G o L in F.cring)
    more k = P.◌⊕◌ (up_row o L c' k) (P.neg (up_row o L c k))

    grown : (j : ℕ) → combined o L c' rows j ≡ P.◌⊕◌ (combined o L c rows j) (P.◌⊗◌ q (up_row o L by j))
    grown j =
        sum_congr P.monoid n (λ k. P.◌⊗◌ (up_row o L c' k) (up_rows o L rows k j))
        (λ k. P.◌⊕◌ (P.◌⊗◌ (up_row o L c k) (up_rows o L rows k j)) (P.◌⊗◌ (more k) (up_rows o L rows k j)))
        (λ k _. ring3 P (λ x y v. (x ⊠ v, y ⊠ v ⊞ (x ⊞ minus y) ⊠ v)) refl (up_row o L c' k) (up_row o L c k)
        (up_rows o L rows k j))
        ∙ sum-add P.monoid n (λ k. P.◌⊗◌ (up_row o L c k) (up_rows o L rows k j))
        (λ k. P.◌⊗◌ (more k) (up_rows o L rows k j))
        ∙ ap (λ t. P.◌⊕◌ (combined o L c rows j) t)
        (sum_eq_single P.monoid n i (λ k. P.◌⊗◌ (more k) (up_rows o L rows k j)) l
        (λ k _ ne. ap (λ t. P.◌⊗◌ (P.◌⊕◌ t (P.neg (up_row o L c k))) (up_rows o L rows k j)) (elsewhere k ne)
        ∙ ring2 P (λ x v. ((x ⊞ minus x) ⊠ v, nil)) refl (up_row o L c k) (up_rows o L rows k j))
        ∙ ap (λ t. P.◌⊗◌ (P.◌⊕◌ t (P.neg (up_row o L c i))) (up_row o L by j)) at_place
        ∙ ring3 P (λ x y v. ((x ⊞ y ⊞ minus x) ⊠ v, y ⊠ v)) refl (up_row o L c i) q (up_row o L by j))

    pub dividing_step : IsDividing o w rows row c' rest'
    unfolding q
    dividing_step = dividing_of_parts c' rest' new_coordinates ht (λ j.
        let r = s.rest in
        parts c rest d j
        ∙ ring4 P (λ x a b r. (x ⊞ r, (x ⊞ a ⊠ b) ⊞ (r ⊞ minus a ⊠ b))) refl (combined o L c rows j) q
        (up_row o L by j) (up_row o L rest j)
        ∙ sym (ap₂ P.◌⊕◌ (grown j) (rest-entry o L w w p rest by rest' d.rest_row hb ht s.rest j)))

    pub step_lower : HasLeadingPosition w rest p → HasLeadingPosition w by p
        → length (get_or by p []) ≤ length (get_or rest p []) → height w rest' < height w rest
    step_lower a b g = rest_lower o L w w p rest by rest' d.rest_row hb ht s.rest a b g

  -- ---- in the end

  module _ (c rest : List (List E)) (d : IsDividing o w rows row c rest) where
    pub combination_of_none : IsZeroUpTo w rest → IsRowCombination o c rows row
    combination_of_none z = combination_of_up o L c rows row (entry-over o L n c d.coordinates_row)
        (matrix-over o L w rows hm) (entry-over o L w row hr) (λ j.
        parts c rest d j
        ∙ ap (λ t. P.◌⊕◌ (combined o L c rows j) t) (ap (up o L) (nothing j) ∙ lift_nil o L)
        ∙ add-zero P.monoid (combined o L c rows j)
        ∙ sym (comb_at o L n (up_row o L c) (up_rows o L rows) j))
      where
        nothing : (j : ℕ) → get_or rest j [] ≡ []
        nothing j = ⊎_elim (λ (g : j < w). z j g) (λ (g : w ≤ j). entry_past o L w rest d.rest_row j g) (cases_lt j w)

    rest_in : InRowLattice o rows row → InRowLattice o rows rest
    rest_in h = lattice_of_span o L w rows hm rest d.rest_row (subst (InSpan (M o L) n (up_rows o L rows))
        (sym (fun_ext same))
        (InSpan-add (M o L) n (up_rows o L rows) (up_row o L row)
        ((let N = M o L in N.neg) (comb (M o L) n (up_row o L c) (up_rows o L rows)))
        (span_of_lattice o L w rows hm row hr h)
        (InSpan-neg (M o L) n (up_rows o L rows) (comb (M o L) n (up_row o L c) (up_rows o L rows))
        (record { weights = up_row o L c; combines = refl }))))
      where
        same : (j : ℕ) → up_row o L rest j ≡ P.◌⊕◌ (up_row o L row j)
            (P.neg (comb (M o L) n (up_row o L c) (up_rows o L rows) j))
        same j = ring2 P (λ x r. (r, x ⊞ r ⊞ minus x)) refl (combined o L c rows j) (up_row o L rest j)
            ∙ sym (ap₂ (λ a b. P.◌⊕◌ a (P.neg b)) (parts c rest d j)
            (comb_at o L n (up_row o L c) (up_rows o L rows) j))

    pub outside : (places : List ℕ) (p : ℕ) → HaveLeadingPositions w rows places → HasLeadingPosition w rest p
        → ((i : ℕ) → CanDivide w rows places rest i → ⊥) → InRowLattice o rows row → ⊥
    outside places p hp lead none h =
        let m = member_position o L w rows places hm hp rest p d.rest_row lead (rest_in h) in
        none m.0 (record {
          within = m.1;
          leads = subst (HasLeadingPosition w rest) (sym m.2) lead;
          lower = subst (λ q. length (get_or (get_or rows m.0 []) q []) ≤ length (get_or rest q [])) (sym m.2) m.3;
        })

-- ---- what was read

pub divisor_read : {E : Type 0} (w w' : ℕ) (rows rows' : List (List (List E))) (places places' : List ℕ)
    (row row' : List (List E)) (i : ℕ) → w' ≡ w → rows' ≡ rows → places' ≡ places → row' ≡ row
    → CanDivide w' rows' places' row' i → CanDivide w rows places row i
divisor_read w w' rows rows' places places' row row' i ew er ep ex h =
    subst (λ x. CanDivide w rows places x i) ex (subst (λ x. CanDivide w rows x row' i) ep
    (subst (λ x. CanDivide w x places' row' i) er (subst (λ x. CanDivide x rows' places' row' i) ew h)))

pub no_divisor_read : {E : Type 0} (w w' : ℕ) (rows rows' : List (List (List E))) (places places' : List ℕ)
    (row row' : List (List E)) → w' ≡ w → rows' ≡ rows → places' ≡ places → row' ≡ row
    → ((i : ℕ) → CanDivide w' rows' places' row' i → ⊥) → (i : ℕ) → CanDivide w rows places row i → ⊥
no_divisor_read w w' rows rows' places places' row row' ew er ep ex h i d =
    h i (divisor_read w' w rows' rows places' places row' row i (sym ew) (sym er) (sym ep) (sym ex) d)

-- what a step gives
pub record IsNext {E : Type 0} (o : Ops E) (w : ℕ) (rows : List (List (List E)))
    (row rest new_coordinates new_rest : List (List E)) : Type 0 where
  pub dividing : IsDividing o w rows row new_coordinates new_rest
  pub lower : height w new_rest < height w rest

-- the division by a row of the basis that was read, at a place that was read
pub next : {E : Type 0} (o : Ops E) (L : FieldLaws o) (w : ℕ) (rows : List (List (List E)))
    → IsPolynomialMatrix o w rows → (places : List ℕ) → HaveLeadingPositions w rows places → (row : List (List E))
    → IsPolynomialRow o w row → (coordinates rest new_coordinates new_rest : List (List E))
    → IsDividing o w rows row coordinates rest → (i : ℕ) → CanDivide w rows places rest i → (p : ℕ) (by : List (List E))
    → p ≡ get_or places i 0 → by ≡ get_or rows i [] → IsPolynomialRow o (length rest) new_rest
    → IsDivisionStep o p i by rest coordinates new_rest new_coordinates
    → IsNext o w rows row rest new_coordinates new_rest
next o L w rows hm places hp row hr c rest c' rest' d i can p b ep eb ht s =
    let t = d.rest_row in
    let ht' = subst (λ m. IsPolynomialRow o m rest') t.width ht in
    let s' = subst (λ x. IsDivisionStep o x i (get_or rows i []) rest c rest' c') ep
    (subst (λ x. IsDivisionStep o p i x rest c rest' c') eb s) in
    record {
      dividing = dividing_step o L w rows hm row hr c rest c' rest' d (get_or places i 0) i can.within ht' s';
      lower = step_lower o L w rows hm row hr c rest c' rest' d (get_or places i 0) i can.within ht' s' can.leads
          (hp.leads i can.within) can.lower;
    }
