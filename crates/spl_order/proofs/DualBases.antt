-- The dual basis by the inverse of the matrix of the values of the trace form.
use Rattle.std.specs.Prelude.{◌≡◌, ◌≢◌, ◌<◌, ℕ, Bool, true, false, List, [], length, get_or, cond, nat_eq}
use Rattle.std.specs.Prelude.{◌≤◌}
use Rattle.std.proofs.Common.{sym, ◌∙◌, ap, ap₂, subst, arith, ⊎_elim}
use Rattle.std.proofs.lemmas.Bool.{cases_lt}
use Rattle.std.proofs.lemmas.List.{get_or_past}
use Rattle.std.proofs.lemmas.List.Elements.{All-nil}
use Rattle.theory_rings.specs.Ring.{FieldOn}
use Rattle.theory_rings.specs.Ops.{Ops, IsElem, FieldLaws}
use Rattle.theory_rings.specs.Elements.{Elem, Elem-path, elements}
use Rattle.theory_rings.specs.Sum.{at, sum, sum_of, table}
use Rattle.theory_rings.proofs.Rings.Elements.{sum_of-elements, sum_of_congr}
use Rattle.theory_rings.proofs.Rings.Fields.{field_mul-ne-zero, eq-zero_of_mul-eq-zero}
use Rattle.theory_rings.proofs.Rings.RingLaws.{mul-zero}
use Rattle.theory_rings.proofs.Sums.Sums.{sum_eq_zero}
use Rattle.theory_fractions.specs.PolynomialLists.{IsProduct, IsPolynomialList}
use Rattle.theory_fractions.specs.Fraction.{Pair}
use Rattle.theory_fractions.specs.CommonDenominator.{as_fraction}
use Rattle.theory_fractions.proofs.CommonDenominators.{nonzero_of_monic}
use Rattle.theory_fractions.proofs.ElementClauses.{zero_is, ne_zero}
use Rattle.theory_fractions.proofs.PolynomialFractions.{as_fraction-elem, as_fraction-mul}
use Rattle.theory_spaces.specs.Matrix.{delta}
use Rattle.theory_spaces.specs.Module.{ModuleOn}
use Rattle.theory_spaces.specs.Tuples.{Tuple}
use Rattle.theory_spaces.proofs.Forms.Forms.{form-comb_left}
use Rattle.theory_spaces.proofs.Tuples.Tuples.{IsTuple-table, at-table, tuples, tuples-zero}
use Rattle.theory_tables.specs.Matrix.{entry, IsMatrix}
use Rattle.theory_tables.specs.Structure.{Structure, IsOver, IsAssociative}
use Rattle.theory_tables.specs.Subspace.{AreIndependent}
use Rattle.theory_tables.specs.Traces.{IsNondegenerate, trace_matrix}
use Rattle.theory_tables.proofs.Algebras.Bridge.{row, row-at, as_tuple, to_span, IsTuple-of}
use Rattle.theory_tables.proofs.Rows.Terms.{mul-one as list-mul-one}
use Rattle.theory_tables.proofs.Rows.Terms.{mul-zero as list-mul-zero}
use Rattle.theory_rows.specs.Rows.{IsPolynomialRow, IsPolynomialMatrix, IsRowCombination, RowsAreIndependent}
use Rattle.theory_rows.proofs.LiftedRows.{matrix-over, matrix-trimmed, entry-over, entry-trimmed}
use Rattle.theory_bases.specs.TupleLattices.{AreTraceDual}
use Rattle.theory_bases.specs.Bases.{BasisForm, IsBasis, tuples_of}
use Rattle.theory_bases.proofs.DualRows.{scaled_form, dual_pairing, trace_dual, dual_independent, delta-value}
use Rattle.theory_bases.proofs.FractionsOver.{K, M, mul-over, entry-tuples, over_rows-matrix, count-tuples}
use Rattle.theory_bases.proofs.PolynomialDivisors.{up}
use Rattle.theory_bases.proofs.PolynomialSums.{as_fraction-sum}
use Rattle.theory_bases.proofs.TraceForms.{units, form, coord-is, matrix, matrix-is, form_symmetric, form_nondegenerate}
use Rattle.theory_bases.proofs.SpanningRows.{spans_of_count}
use Rattle.theory_bases.proofs.TraceForms.{form_bilinear}
use Rattle.spl_order.specs.Forms.{IsClearedForm}
use Rattle.spl_order.specs.Values.{HasMatrix, fraction_entry, product_entry, IsScaledInverse}
use Rattle.spl_order.proofs.Values.{matrix_is}

module _ {E : Type 0} (o : Ops E) (L : FieldLaws o) (A : Structure (Pair E)) (over : IsOver (K o L) A)
    (assoc : IsAssociative (K o L) A) (regular : IsNondegenerate (K o L) A) (e : List E) (N : List (List (List E)))
    (C : IsClearedForm o L A e N) (b : BasisForm E) (B : IsBasis o L A.dim b) where
  abbrev k : Ops (Pair E)
  k = K o L

  abbrev laws : FieldLaws k
  laws = M o L

  abbrev F : FieldOn (Elem k)
  F = elements k laws

  abbrev m : ℕ
  m = A.dim

  abbrev d : List E
  d = b.denominator

  abbrev rows : List (List (List E))
  rows = b.numerators

  abbrev V : ModuleOn F.ring (Tuple k m)
  V = tuples k laws m

  abbrev f : Tuple k m → Tuple k m → Elem k
  f = form k laws A over.of_elements assoc

  abbrev coord : Tuple k m → ℕ → Elem k
  coord x i = (let U = units k laws A over.of_elements assoc in U.coord) x i

  d-nonzero : d ≢ []
  d-nonzero = nonzero_of_monic o L d (let l = B.least in l.monic)

  rows-count : length rows ≡ m
  rows-count = sym (count-tuples o L b) ∙ (let i = B.independent in i.count)

  pub form-count : length N ≡ m
  form-count = let v = C.values in v.count

  pub form-matrix : IsPolynomialMatrix o m N
  form-matrix = matrix_is o (λ i j. k.mul (as_fraction o e) (entry k (trace_matrix k A) i j)) m m N C.values

  pub order-matrix : IsPolynomialMatrix o (length N) rows
  order-matrix = subst (λ w. IsPolynomialMatrix o w rows) (sym form-count) B.rows

  -- an entry as an element
  entry_of : (w : ℕ) (xs : List (List (List E))) → IsPolynomialMatrix o w xs → ℕ → ℕ → Elem k
  entry_of w xs h i j = (
    fraction_entry o xs i j,
    as_fraction-elem o L (get_or (get_or xs i []) j [])
        (record { over = matrix-over o L w xs h i j; trimmed = matrix-trimmed o L w xs h i j }),
  )

  a : ℕ → ℕ → Elem k
  a = entry_of m rows B.rows

  n : ℕ → ℕ → Elem k
  n = entry_of m N form-matrix

  ud : Elem k
  ud = up o L d B.polynomial

  ue : Elem k
  ue = up o L e C.polynomial

  T-matrix : IsMatrix k m (tuples_of o L b)
  T-matrix = over_rows-matrix o L d B.polynomial d-nonzero m rows B.rows

  X : ℕ → Tuple k m
  X = row k laws m (tuples_of o L b) T-matrix

  X-is : (i t : ℕ) → i < m → t < m → F.◌⊗◌ ud (coord (X i) t) ≡ a i t
  unfolding a ud X entry_of
  X-is i t i_in t_in = Elem-path k (F.◌⊗◌ ud (coord (X i) t)) (a i t)
      (ap (k.mul (as_fraction o d)) (coord-is k laws A over.of_elements assoc (X i) t t_in
      ∙ row-at k laws m (tuples_of o L b) T-matrix i t t_in
      ∙ entry-tuples o L m b B.rows i t (omega (arith, i_in, rows-count)) t_in)
      ∙ mul-over o L d B.polynomial d-nonzero (get_or (get_or rows i []) t [])
      (record { over = matrix-over o L m rows B.rows i t; trimmed = matrix-trimmed o L m rows B.rows i t }))

  n-is : (t l : ℕ) → t < m → l < m → n t l ≡ F.◌⊗◌ ue (matrix k laws A over.of_elements assoc t l)
  unfolding n ue entry_of
  n-is t l t_in l_in = Elem-path k (n t l) (F.◌⊗◌ ue (matrix k laws A over.of_elements assoc t l))
      ((let v = C.values in let r = v.each t t_in in r.values l l_in)
      ∙ ap (k.mul (as_fraction o e)) (sym (matrix-is k laws A over.of_elements assoc t l t_in l_in)))

  de-nonzero : F.◌⊗◌ ud ue ≢ F.zero
  unfolding ud ue
  de-nonzero = field_mul-ne-zero F ud ue (λ z. ne_zero o L (as_fraction o d) d-nonzero (ap (λ (t : Elem k). t.0) z))
      (λ z. ne_zero o L (as_fraction o e) C.nonzero (ap (λ (t : Elem k). t.0) z))

  module _ (q : List (List (List E))) (Q : HasMatrix o (product_entry o L (length N) rows N) (length rows) m q)
      (p : List (List (List E))) (P : HasMatrix o (λ j i. fraction_entry o q i j) m (length q) p) where
    pub values-matrix : IsPolynomialMatrix o m q
    values-matrix = matrix_is o (product_entry o L (length N) rows N) (length rows) m q Q

    q-count : length q ≡ m
    q-count = Q.count ∙ rows-count

    p-matrix : IsPolynomialMatrix o (length q) p
    p-matrix = matrix_is o (λ j i. fraction_entry o q i j) m (length q) p P

    pub columns-square : IsPolynomialMatrix o (length p) p
    columns-square = subst (λ w. IsPolynomialMatrix o w p) (q-count ∙ sym P.count) p-matrix

    -- an entry of the columns
    column_is : (l j : ℕ) → l < m → j < m
        → fraction_entry o p l j ≡ (sum F.monoid m (λ t. F.◌⊗◌ (a j t) (n t l))).0
    unfolding a n entry_of
    column_is l j l_in j_in =
        (let r = P.each l l_in in r.values j (omega (arith, j_in, q-count)))
        ∙ (let r = Q.each j (omega (arith, j_in, rows-count)) in r.values l l_in)
        ∙ ap (λ s. sum_of k s (λ t. k.mul (fraction_entry o rows j t) (fraction_entry o N t l))) form-count
        ∙ sum_of-elements k laws m (λ t. F.◌⊗◌ (a j t) (n t l))

    -- the tuple of the weights is orthogonal to all, where they combine the columns to 0
    module _ (c : List (List E)) (hc : IsPolynomialRow o (length p) c) (z : IsRowCombination o c p []) where
      weight : ℕ → Pair E
      weight l = as_fraction o (get_or c l [])

      weight-elem : (l : ℕ) → IsElem k (weight l)
      unfolding weight
      weight-elem l = as_fraction-elem o L (get_or c l [])
          (record { over = entry-over o L (length p) c hc l; trimmed = entry-trimmed o L (length p) c hc l })

      y : Tuple k m
      y = as_tuple k laws m (table m weight) (IsTuple-table k m weight (λ l _. weight-elem l))

      y-is : (l : ℕ) → l < m → (coord y l).0 ≡ weight l
      unfolding y
      y-is l l_in = coord-is k laws A over.of_elements assoc y l l_in ∙ at-table k m weight l l_in

      combines : (j : ℕ) → j < m → sum_of k m (λ l. k.mul (weight l) (fraction_entry o p l j)) ≡ k.zero
      unfolding weight
      combines j j_in =
          ap (λ t. sum_of k t (λ l. k.mul (weight l) (fraction_entry o p l j))) (sym P.count)
          ∙ sym (as_fraction-sum o L (length p) (λ l. get_or c l []) (λ l. get_or (get_or p l []) j []) []
          (λ l _. record { over = entry-over o L (length p) c hc l; trimmed = entry-trimmed o L (length p) c hc l })
          (λ l _. record {
            over = matrix-over o L (length q) p p-matrix l j;
            trimmed = matrix-trimmed o L (length q) p p-matrix l j;
          }) (record { over = All-nil (IsElem o); trimmed = tt }) (z j)) ∙ sym (zero_is o L)

      at_row : (j : ℕ) → j < m → f (X j) y ≡ F.zero
      at_row j j_in =
          let de = F.◌⊗◌ ud ue in
          let t : ℕ → Elem k = λ l. sum F.monoid m (λ t. F.◌⊗◌ (a j t) (n t l)) in
          ⊎_elim (λ (w : de ≡ F.zero). absurd (de-nonzero w)) (λ (w : f (X j) y ≡ F.zero). w)
          (eq-zero_of_mul-eq-zero F de (f (X j) y)
          (scaled_form k laws A over.of_elements assoc (X j) y (a j) n ud ue (λ t. X-is j t j_in) n-is
          ∙ Elem-path k (sum F.monoid m (λ l. F.◌⊗◌ (t l) (coord y l))) F.zero
          (sym (sum_of-elements k laws m (λ l. F.◌⊗◌ (t l) (coord y l)))
          ∙ sum_of_congr k m (λ l. k.mul (t l).0 (coord y l).0) (λ l. k.mul (weight l) (fraction_entry o p l j))
          (λ l l_in. ap (λ (w : Elem k). w.0) (F.mul_comm (t l) (coord y l))
          ∙ ap₂ k.mul (y-is l l_in) (sym (column_is l j l_in j_in)))
          ∙ combines j j_in)))

      row_zero : (j : ℕ) → j < m → f (row k laws m (tuples_of o L b) T-matrix j) y ≡ F.zero
      unfolding X
      row_zero j j_in = at_row j j_in

      orthogonal : (x : Tuple k m) → f y x ≡ F.zero
      orthogonal x =
          let T = tuples_of o L b in
          let i = B.independent in
          let h = to_span k laws m T T-matrix x
          (spans_of_count k laws m T T-matrix i.independent i.count x.0 (IsTuple-of k laws m x)) in
          let bi = form_bilinear k laws A over.of_elements assoc in
          form_symmetric k laws A over.of_elements assoc y x
          ∙ ap (λ w. f w y) h.combines
          ∙ form-comb_left F.cring V f bi (length T) h.weights (row k laws m T T-matrix) y
          ∙ sum_eq_zero F.monoid (length T) (λ j. F.◌⊗◌ (h.weights j) (f (row k laws m T T-matrix j) y))
          (λ j j_in. ap (F.◌⊗◌ (h.weights j)) (row_zero j (omega (arith, j_in, i.count)))
          ∙ mul-zero F.ring (h.weights j))

      weights_zero : (i : ℕ) → get_or c i [] ≡ []
      unfolding y weight
      weights_zero i = ⊎_elim
          (λ (low : i < m). ap (λ (t : Pair E). t.0) (sym (at-table k m weight i low)
          ∙ ap (λ (t : Tuple k m). at k t.0 i)
          ((let g = form_nondegenerate k laws A over.of_elements assoc regular in g.only_zero) y orthogonal)
          ∙ ap (λ xs. at k xs i) (tuples-zero k laws m) ∙ at-table k m (λ _. k.zero) i low ∙ zero_is o L))
          (λ (high : m ≤ i). get_or_past c i [] (omega (arith, high, hc.width, P.count)))
          (cases_lt i m)

    pub columns-free : RowsAreIndependent o p
    columns-free c hc z = weights_zero c hc z

    module _ (R : List (List (List E))) (s : List E) (I : IsScaledInverse o L (length p) p R s) (c : List E)
        (hc : IsPolynomialList o c) (c-is : IsProduct o d e c) where
      pub inverse-matrix : IsPolynomialMatrix o m R
      inverse-matrix = subst (λ w. IsPolynomialMatrix o w R) P.count I.matrix

      module _ (new : List (List (List E)))
          (H : HasMatrix o (λ i j. k.mul (as_fraction o c) (fraction_entry o R i j)) (length R) m new) where
        abbrev T' : List (List (Pair E))
        T' = tuples_of o L (record { denominator = s; numerators = new })

        new-count : length new ≡ m
        new-count = H.count ∙ I.count ∙ P.count

        new-matrix : IsPolynomialMatrix o m new
        new-matrix = matrix_is o (λ i j. k.mul (as_fraction o c) (fraction_entry o R i j)) (length R) m new H

        T'-matrix : IsMatrix k m T'
        T'-matrix = over_rows-matrix o L s I.polynomial I.nonzero m new new-matrix

        T'-count : length T' ≡ m
        T'-count = count-tuples o L (record { denominator = s; numerators = new }) ∙ new-count

        us : Elem k
        us = up o L s I.polynomial

        r : ℕ → ℕ → Elem k
        r = entry_of m R inverse-matrix

        Y : ℕ → Tuple k m
        Y = row k laws m T' T'-matrix

        Y-is : (j l : ℕ) → j < m → l < m → F.◌⊗◌ us (coord (Y j) l) ≡ F.◌⊗◌ (F.◌⊗◌ ud ue) (r j l)
        unfolding us ud ue r Y entry_of
        Y-is j l j_in l_in = Elem-path k (F.◌⊗◌ us (coord (Y j) l)) (F.◌⊗◌ (F.◌⊗◌ ud ue) (r j l))
            (ap (k.mul (as_fraction o s)) (coord-is k laws A over.of_elements assoc (Y j) l l_in
            ∙ row-at k laws m T' T'-matrix j l l_in
            ∙ entry-tuples o L m (record { denominator = s; numerators = new }) new-matrix j l
            (omega (arith, j_in, new-count)) l_in)
            ∙ mul-over o L s I.polynomial I.nonzero (get_or (get_or new j []) l [])
            (record { over = matrix-over o L m new new-matrix j l; trimmed = matrix-trimmed o L m new new-matrix j l })
            ∙ (let h = H.each j (omega (arith, j_in, I.count, P.count)) in h.values l l_in)
            ∙ ap (λ t. k.mul t (fraction_entry o R j l)) (as_fraction-mul o L d e c B.polynomial C.polynomial hc c-is))

        us-nonzero : us ≢ F.zero
        unfolding us
        us-nonzero w = ne_zero o L (as_fraction o s) I.nonzero (ap (λ (t : Elem k). t.0) w)

        unit_value : (t : Bool) → as_fraction o (cond t s []) ≡ k.mul (as_fraction o s) (cond t k.one k.zero)
        unit_value true = sym (list-mul-one k laws (as_fraction o s) (as_fraction-elem o L s I.polynomial))
        unit_value false = sym (zero_is o L)
            ∙ sym (list-mul-zero k laws (as_fraction o s) (as_fraction-elem o L s I.polynomial))

        inverts : (i j : ℕ) → i < m → j < m → sum F.monoid m
            (λ l. F.◌⊗◌ (r j l) (sum F.monoid m (λ t. F.◌⊗◌ (a i t) (n t l)))) ≡ F.◌⊗◌ us (delta F.ring i j)
        unfolding us r entry_of
        inverts i j i_in j_in =
            let t : ℕ → Elem k = λ l. sum F.monoid m (λ t. F.◌⊗◌ (a i t) (n t l)) in
            Elem-path k (sum F.monoid m (λ l. F.◌⊗◌ (r j l) (t l))) (F.◌⊗◌ us (delta F.ring i j))
            (sym (sum_of-elements k laws m (λ l. F.◌⊗◌ (r j l) (t l)))
            ∙ sum_of_congr k m (λ l. k.mul (r j l).0 (t l).0)
            (λ l. k.mul (fraction_entry o R j l) (fraction_entry o p l i))
            (λ l l_in. ap (k.mul (fraction_entry o R j l)) (sym (column_is l i l_in i_in)))
            ∙ ap (λ w. sum_of k w (λ l. k.mul (fraction_entry o R j l) (fraction_entry o p l i))) (sym P.count)
            ∙ I.left j i (omega (arith, j_in, P.count)) (omega (arith, i_in, P.count))
            ∙ unit_value (nat_eq i j) ∙ ap (k.mul (as_fraction o s)) (sym (delta-value k laws i j)))

        pairs : (i j : ℕ) → i < m → j < m → f (X i) (Y j) ≡ delta F.ring i j
        pairs = dual_pairing k laws A over.of_elements assoc X Y a n r ud ue us us-nonzero de-nonzero X-is n-is Y-is
            inverts

        order-count : length (tuples_of o L b) ≡ m
        order-count = let i = B.independent in i.count

        pub rows-dual : AreTraceDual k A (tuples_of o L b) T'
        unfolding X Y
        rows-dual = trace_dual k laws A over.of_elements assoc (tuples_of o L b) T' T-matrix T'-matrix order-count
            T'-count pairs

        rows-free : AreIndependent k m T'
        unfolding X Y
        rows-free = dual_independent k laws A over.of_elements assoc (tuples_of o L b) T' T-matrix T'-matrix order-count
            T'-count pairs

        pub new-square : IsPolynomialMatrix o (length new) new
        new-square = subst (λ w. IsPolynomialMatrix o w new) (sym new-count) new-matrix

        pub new-free : AreIndependent k (length new) T'
        new-free = subst (λ w. AreIndependent k w T') (sym new-count) rows-free

        pub new-basis : (found : BasisForm E) → IsBasis o L (length new) found → IsBasis o L m found
        new-basis found h = subst (λ w. IsBasis o L w found) new-count h
