-- The lattice of the tuples of rows over a denominator, with polynomials as weights, is the row lattice over it.
use Rattle.std.specs.Prelude.{◌≡◌, ◌≢◌, ◌<◌, ◌≤◌, ℕ, List, [], ◌∷◌, length, get_or, map}
use Rattle.std.proofs.Common.{refl, sym, ◌∙◌, ap, subst, arith, ext_get_or, ⊎_elim}
use Rattle.std.proofs.lemmas.Bool.{cases_lt}
use Rattle.std.proofs.lemmas.List.{length-map, get_or-map}
use Rattle.std.proofs.lemmas.List.Elements.{All-map, All-get_or}
use Rattle.theory_rings.specs.Ops.{Ops, IsElem, FieldLaws}
use Rattle.theory_rings.specs.Sum.{at, sum, sum_of}
use Rattle.theory_rings.specs.Polynomial.{IsTrimmed, Poly, convolution_of}
use Rattle.theory_rings.proofs.Rings.Elements.{sum_of_congr}
use Rattle.theory_fractions.specs.PolynomialLists.{IsOver, IsPolynomialList}
use Rattle.theory_fractions.specs.Fraction.{Pair}
use Rattle.theory_fractions.specs.CommonDenominator.{as_fraction}
use Rattle.theory_fractions.proofs.ElementClauses.{lowest_of_elem}
use Rattle.theory_fractions.proofs.PolynomialFractions.{as_fraction-elem}
use Rattle.theory_spaces.specs.Sets.{Within}
use Rattle.theory_spaces.specs.Tuples.{IsTuple}
use Rattle.theory_tables.specs.Matrix.{entry}
use Rattle.theory_rows.specs.Rows.{IsPolynomialRow, IsPolynomialMatrix, InRowLattice, SameRowLattice}
use Rattle.theory_rows.proofs.LiftedRows.{G, Q, up_row, up_rows, comb_at, row_of, row_of-row, up-row_of, up_row-nil}
use Rattle.theory_rows.proofs.LiftedRows.{entry-over, entry-trimmed, entry_past, matrix-over, matrix-trimmed}
use Rattle.theory_rows.proofs.LiftedRows.{combination_of_up}
use Rattle.theory_rows.proofs.Splits.{comb_past}
use Rattle.theory_bases.specs.TupleLattices.{TupleLattice, SameTupleLattice}
use Rattle.theory_bases.specs.Bases.{IsPolynomialFraction, fraction_over, tuples_of}
use Rattle.theory_bases.proofs.FractionsOver.{K, inverse, over_row-tuple, count-tuples}
use Rattle.theory_bases.proofs.PolynomialSums.{as_fraction-sum}
use Rattle.theory_bases.proofs.KernelTests.{combined}

module _ {E : Type 0} (o : Ops E) (L : FieldLaws o) (w : ℕ) (c : List E) (hc : IsPolynomialList o c)
    (nonzero : c ≢ []) where
  abbrev k : Ops (Pair E)
  k = K o L

  abbrev inv : Pair E
  inv = inverse o L c hc nonzero

  abbrev over : List E → Pair E
  over = fraction_over o L c

  abbrev tuples : List (List (List E)) → List (List (Pair E))
  tuples rows = tuples_of o L (record { denominator = c; numerators = rows })

  module _ (rows : List (List (List E))) (hr : IsPolynomialMatrix o w rows) where
    abbrev n : ℕ
    n = length rows

    abbrev T : List (List (Pair E))
    T = tuples rows

    n-is : length T ≡ n
    n-is = count-tuples o L (record { denominator = c; numerators = rows })

    abbrev a : ℕ → ℕ → List E
    a i j = get_or (get_or rows i []) j []

    a-is : (i j : ℕ) → IsPolynomialList o (a i j)
    a-is i j = record { over = matrix-over o L w rows hr i j; trimmed = matrix-trimmed o L w rows hr i j }

    -- weights that are polynomials
    module _ (p : List (List E)) (hp : IsPolynomialRow o n p) (y : List (List E)) (hy : IsPolynomialRow o w y)
        (e : (j t : ℕ) → at o (get_or y j []) t ≡ sum_of o n
        (λ i. convolution_of o (at o (get_or p i [])) (at o (a i j)) t)) (v : List (Pair E)) (hv : IsTuple k n v)
        (same : (i : ℕ) → i < n → at k v i ≡ as_fraction o (get_or p i [])) (j : ℕ) (j_in : j < w) where
      entry-is : over (get_or y j []) ≡ sum_of k (length T) (λ i. k.mul (at k v i) (entry k T i j))
      entry-is =
          ap (λ x. k.mul x inv)
          (as_fraction-sum o L n (λ i. get_or p i []) (λ i. a i j) (get_or y j [])
          (λ i _. record { over = entry-over o L n p hp i; trimmed = entry-trimmed o L n p hp i })
          (λ i _. a-is i j) (record { over = entry-over o L w y hy j; trimmed = entry-trimmed o L w y hy j }) (e j)
          ∙ sum_of_congr k n (λ i. k.mul (as_fraction o (get_or p i [])) (as_fraction o (a i j)))
          (λ i. k.mul (at k v i) (as_fraction o (a i j)))
          (λ i i_in. ap (λ x. k.mul x (as_fraction o (a i j))) (sym (same i i_in))))
          ∙ sym (combined o L w c rows hc nonzero hr v hv j j_in)

    -- a row of the lattice, over c
    pub lattice_of_row : (y : List (List E)) → IsPolynomialRow o w y → InRowLattice o rows y
        → TupleLattice k (IsPolynomialFraction o) w T (map over y)
    lattice_of_row y hy h = (
      over_row-tuple o L c hc nonzero w y hy,
      record {
        weights = v;
        tuple = subst (λ m. IsTuple k m v) (sym n-is) v-tuple;
        allowed = All-map (IsPolynomialFraction o) (as_fraction o) p (λ i d l. refl);
        combines = λ j j_in. get_or-map over y j [] k.zero (omega (arith, j_in, hy.width))
            ∙ entry-is p h.polynomials y hy h.combines v v-tuple
            (λ i i_in. get_or-map (as_fraction o) p i [] k.zero (omega (arith, i_in, p-width))) j j_in;
      },
    )
      where
        p : List (List E)
        p = h.weights

        p-width : length p ≡ n
        p-width = let q = h.polynomials in q.width

        v : List (Pair E)
        v = map (as_fraction o) p

        v-tuple : IsTuple k n v
        v-tuple = record {
          right_length = length-map p (as_fraction o) ∙ p-width;
          of_elements = All-map (IsElem k) (as_fraction o) p (λ i d l.
              let q = h.polynomials in
              as_fraction-elem o L (get_or p i d) (record { over = q.over i d l; trimmed = q.trimmed i d l }));
        }

    -- a tuple of the lattice is such a row over c
    pub record RowOver (x : List (Pair E)) : Type 0 where
      pub row : List (List E)
      pub is_row : IsPolynomialRow o w row
      pub inside : InRowLattice o rows row
      pub value : map over row ≡ x

    pub row_of_lattice : (x : List (Pair E)) → TupleLattice k (IsPolynomialFraction o) w T x → RowOver x
    row_of_lattice x h = record {
      row = y;
      is_row = y-row;
      inside = record { weights = p; polynomials = p-row; combines = y-combines };
      value = ext_get_or k.zero (map over y) x (length-map y over ∙ y-row.width ∙ sym h.0.right_length) (λ j l.
          let j_in : j < w = omega (arith, l, length-map y over, y-row.width) in
          get_or-map over y j [] k.zero (omega (arith, j_in, y-row.width))
          ∙ entry-is p p-row y y-row y-combines v v-tuple v-same j j_in ∙ sym (h.1.combines j j_in));
    }
      where
        v : List (Pair E)
        v = h.1.weights

        v-tuple : IsTuple k n v
        v-tuple = subst (λ m. IsTuple k m v) n-is h.1.tuple

        v-length : length v ≡ n
        v-length = v-tuple.right_length

        p : List (List E)
        p = map (λ z. z.0) v

        p-row : IsPolynomialRow o n p
        p-row = record {
          width = length-map v (λ z. z.0) ∙ v-length;
          over = All-map (IsOver o) (λ z. z.0) v
              (λ i d l. let q = lowest_of_elem o L (get_or v i d) (v-tuple.of_elements i d l) in q.numerator_over);
          trimmed = All-map (IsTrimmed o.zero) (λ z. z.0) v
              (λ i d l. let q = lowest_of_elem o L (get_or v i d) (v-tuple.of_elements i d l) in q.numerator_trimmed);
        }

        v-same : (i : ℕ) → i < n → at k v i ≡ as_fraction o (get_or p i [])
        v-same i i_in =
            let l : i < length v = omega (arith, i_in, v-length) in
            ap (λ t. ((at k v i).0, t)) (All-get_or (IsPolynomialFraction o) v i k.zero l h.1.allowed)
            ∙ ap (as_fraction o) (sym (get_or-map (λ (z : Pair E). z.0) v i k.zero [] l))

        f : ℕ → Poly (G o L).cring
        f j = sum (Q o L).monoid n (λ i. (Q o L).◌⊗◌ (up_row o L p i) (up_rows o L rows i j))

        y : List (List E)
        y = row_of o L w f

        y-row : IsPolynomialRow o w y
        y-row = row_of-row o L w f

        y-combines : (j t : ℕ) → at o (get_or y j []) t ≡ sum_of o n
            (λ i. convolution_of o (at o (get_or p i [])) (at o (a i j)) t)
        y-combines = combination_of_up o L p rows y (entry-over o L n p p-row) (matrix-over o L w rows hr)
            (entry-over o L w y y-row) (λ j. ⊎_elim
            (λ (l : j < w). up-row_of o L w f j l ∙ sym (comb_at o L n (up_row o L p) (up_rows o L rows) j))
            (λ (l : w ≤ j). ap (λ r. up_row o L (r ∷ []) 0) (entry_past o L w y y-row j l) ∙ up_row-nil o L j
            ∙ sym (comb_past o L w rows hr (up_row o L p) j l)) (cases_lt j w))

  -- rows with the same lattice are tuples with the same lattice
  within : (a b : List (List (List E))) → IsPolynomialMatrix o w a → IsPolynomialMatrix o w b
      → ((x : List (List E)) → IsPolynomialRow o w x → InRowLattice o a x → InRowLattice o b x)
      → Within (TupleLattice k (IsPolynomialFraction o) w (tuples a)) (TupleLattice k (IsPolynomialFraction o) w
      (tuples b))
  within a b ha hb f x h =
      let r = row_of_lattice a ha x h in
      subst (TupleLattice k (IsPolynomialFraction o) w (tuples b)) r.value
      (lattice_of_row b hb r.row r.is_row (f r.row r.is_row r.inside))

  pub same_tuples : (a b : List (List (List E))) → IsPolynomialMatrix o w a → IsPolynomialMatrix o w b
      → SameRowLattice o w a b → SameTupleLattice k (IsPolynomialFraction o) w (tuples a) (tuples b)
  same_tuples a b ha hb s =
      (within a b ha hb (λ x hx. (s x hx).0), within b a hb ha (λ x hx. (s x hx).1))
