-- The inverse of rows by the coordinates of units in reduced rows and the transform that reduced them.
use Rattle.std.specs.Prelude.{◌≡◌, ◌≢◌, ◌+◌, ◌<◌, ℕ, List, [], ◌∷◌, ◌++◌, length, get_or, cond, nat_eq}
use Rattle.std.proofs.Common.{refl, sym, ◌∙◌, ap, subst, arith}
use Rattle.std.proofs.lemmas.List.Elements.{All-from_get_or}
use Rattle.theory_rings.specs.Ops.{Ops, IsElem, FieldLaws}
use Rattle.theory_rings.specs.Sum.{sum_of}
use Rattle.theory_rings.proofs.Rings.Elements.{sum_of_congr}
use Rattle.theory_rings.proofs.Sums.Lists.{get_or-table}
use Rattle.theory_fractions.specs.PolynomialLists.{IsPolynomialList}
use Rattle.theory_fractions.specs.Fraction.{Pair}
use Rattle.theory_fractions.specs.CommonDenominator.{as_fraction}
use Rattle.theory_fractions.proofs.CommonDenominators.{over_one}
use Rattle.theory_fractions.proofs.PolynomialFractions.{as_fraction-elem}
use Rattle.theory_tables.proofs.Rows.Spans.{grow_at}
use Rattle.theory_tables.proofs.Rows.Sums.{sums_assoc}
use Rattle.theory_tables.specs.Matrix.{width_of}
use Rattle.theory_rows.specs.LeadingPositions.{HaveLeadingPositions}
use Rattle.theory_rows.specs.Rows.{IsPolynomialRow, IsPolynomialMatrix, IsRowCombination, RowsAreIndependent}
use Rattle.theory_rows.specs.Rows.{SameRowLattice, IsRowTransform}
use Rattle.theory_rows.proofs.LiftedRows.{row_at, matrix-over, matrix-trimmed, entry-over, entry-trimmed}
use Rattle.theory_rows.proofs.Positions.{reduced_independent}
use Rattle.theory_bases.specs.Bases.{tuples_of}
use Rattle.theory_bases.proofs.FractionsOver.{K, M, count-tuples, over_rows-matrix}
use Rattle.theory_bases.proofs.PolynomialSums.{as_fraction-sum}
use Rattle.theory_bases.proofs.SpanningRows.{independent_of_rows, count_of_basis, spans_of_count}
use Rattle.spl_order.specs.Values.{HasMatrix, fraction_entry, product_entry, scaled_unit, AreUnitCoordinates}
use Rattle.spl_order.specs.Values.{IsScaledInverse}
use Rattle.spl_order.proofs.StartRows.{unit-row}
use Rattle.spl_order.proofs.Values.{longer, matrix_is}

module _ {E : Type 0} (o : Ops E) (rows : List (List (List E))) (n : ℕ) (scale : List E) where
  pub no_coordinates : (weights : List (List (List E))) → weights ≡ [] → AreUnitCoordinates o rows n scale 0 weights
  no_coordinates weights e = record {
    count = ap length e;
    polynomials = λ i l. absurd (omega arith);
    combines = λ i l. absurd (omega arith);
  }

  pub more_coordinates : (m : ℕ) (before after : List (List (List E))) (x : List (List E))
      → AreUnitCoordinates o rows n scale m before → after ≡ before ++ x ∷ [] → IsPolynomialRow o (length rows) x
      → IsRowCombination o x rows (scaled_unit scale n m) → AreUnitCoordinates o rows n scale (m + 1) after
  more_coordinates m before after x h e hx c = record {
    count = longer m before after x h.count e;
    polynomials = grow_at (λ _. IsPolynomialRow o (length rows)) [] m before after x h.count h.polynomials hx e;
    combines = grow_at (λ i y. IsRowCombination o y rows (scaled_unit scale n i)) [] m before after x h.count h.combines c
        e;
  }

-- as many rows as each has entries
pub square-width : {E : Type 0} (o : Ops E) (rows : List (List (List E))) → IsPolynomialMatrix o (length rows) rows
    → width_of rows ≡ length rows
square-width o [] h = refl
square-width o (x ∷ xs) h = let r = h 0 [] (omega arith) in r.width

module _ {E : Type 0} (o : Ops E) (L : FieldLaws o) (rows : List (List (List E)))
    (hr : IsPolynomialMatrix o (length rows) rows) (free : RowsAreIndependent o rows)
    (basis transform : List (List (List E))) (hb : IsPolynomialMatrix o (width_of rows) basis)
    (same : SameRowLattice o (width_of rows) rows basis) (places : List ℕ)
    (positions : HaveLeadingPositions (width_of rows) basis places) (U : IsRowTransform o rows basis transform) where
  abbrev n : ℕ
  n = length rows

  abbrev k : Ops (Pair E)
  k = K o L

  abbrev laws : FieldLaws k
  laws = M o L

  wide : width_of rows ≡ n
  wide = square-width o rows hr

  pub basis_matrix : IsPolynomialMatrix o n basis
  basis_matrix = subst (λ w. IsPolynomialMatrix o w basis) wide hb

  pub basis_free : RowsAreIndependent o basis
  basis_free = reduced_independent o L (width_of rows) basis places hb positions

  pub basis_count : length basis ≡ n
  basis_count =
      let one : List E = o.one ∷ [] in
      let h1 : IsPolynomialList o one = record { over = over_one o L; trimmed = L.one-nonzero } in
      let n1 : one ≢ [] = λ t. let u : length one ≡ length {A = E} [] = ap length t in absurd (omega arith) in
      let T = tuples_of o L (record { denominator = one; numerators = rows }) in
      count_of_basis o L n one h1 n1 rows hr basis basis_matrix
      (subst (λ w. SameRowLattice o w rows basis) wide same) basis_free
      (spans_of_count k laws n T (over_rows-matrix o L one h1 n1 n rows hr)
      (independent_of_rows o L n one h1 n1 rows hr free)
      (count-tuples o L (record { denominator = one; numerators = rows })))

  -- a combination of polynomials as one of fractions
  entry-elem : (w : ℕ) (xs : List (List (List E))) → IsPolynomialMatrix o w xs → (i j : ℕ)
      → IsElem k (fraction_entry o xs i j)
  entry-elem w xs h i j = as_fraction-elem o L (get_or (get_or xs i []) j [])
      (record { over = matrix-over o L w xs h i j; trimmed = matrix-trimmed o L w xs h i j })

  combination : (w : ℕ) (xs : List (List (List E))) → IsPolynomialMatrix o w xs → (c x : List (List E))
      → IsPolynomialRow o (length xs) c → IsPolynomialRow o w x → IsRowCombination o c xs x → (j : ℕ)
      → as_fraction o (get_or x j []) ≡ sum_of k (length xs)
      (λ i. k.mul (as_fraction o (get_or c i [])) (fraction_entry o xs i j))
  combination w xs hxs c x hc hx e j = as_fraction-sum o L (length xs) (λ i. get_or c i [])
      (λ i. get_or (get_or xs i []) j []) (get_or x j [])
      (λ i _. record { over = entry-over o L (length xs) c hc i; trimmed = entry-trimmed o L (length xs) c hc i })
      (λ i _. record { over = matrix-over o L w xs hxs i j; trimmed = matrix-trimmed o L w xs hxs i j })
      (record { over = entry-over o L w x hx j; trimmed = entry-trimmed o L w x hx j }) (e j)

  module _ (scale : List E) (hs : IsPolynomialList o scale) (ns : scale ≢ []) (weights : List (List (List E)))
      (C : AreUnitCoordinates o basis n scale n weights) where
    pub weights_matrix : IsPolynomialMatrix o (length basis) weights
    weights_matrix = All-from_get_or (IsPolynomialRow o (length basis)) weights []
        (λ i l. C.polynomials i (omega (arith, l, C.count)))

    pub transform_matrix : IsPolynomialMatrix o n transform
    transform_matrix = U.matrix

    module _ (inverse : List (List (List E)))
        (I : HasMatrix o (product_entry o L (length transform) weights transform) (length weights) n inverse) where
      entries : (i j : ℕ) → i < n → j < n
          → product_entry o L n inverse rows i j ≡ as_fraction o (cond (nat_eq j i) scale [])
      entries i j i_in j_in =
          let m = length transform in
          let u : ℕ → Pair E = λ t. fraction_entry o weights i t in
          let b : ℕ → ℕ → Pair E = fraction_entry o transform in
          let z : ℕ → Pair E = λ l. fraction_entry o rows l j in
          sum_of_congr k n (λ l. k.mul (fraction_entry o inverse i l) (z l))
          (λ l. k.mul (sum_of k m (λ t. k.mul (u t) (b t l))) (z l))
          (λ l l_in. let row = I.each i (omega (arith, i_in, C.count)) in ap (λ x. k.mul x (z l)) (row.values l l_in))
          ∙ sums_assoc k laws m n u b z (entry-elem (length basis) weights weights_matrix i)
          (entry-elem n transform U.matrix) (λ l. entry-elem n rows hr l j)
          ∙ ap (λ q. sum_of k q (λ t. k.mul (u t) (sum_of k n (λ l. k.mul (b t l) (z l))))) U.count
          ∙ sum_of_congr k (length basis) (λ t. k.mul (u t) (sum_of k n (λ l. k.mul (b t l) (z l))))
          (λ t. k.mul (u t) (fraction_entry o basis t j))
          (λ t t_in. ap (k.mul (u t)) (sym (combination n rows hr (get_or transform t []) (get_or basis t [])
          (row_at o L n transform U.matrix t (omega (arith, t_in, U.count)))
          (row_at o L n basis basis_matrix t t_in) (U.combines t t_in) j)))
          ∙ sym (combination n basis basis_matrix (get_or weights i []) (scaled_unit scale n i)
          (C.polynomials i i_in) (unit-row o L n scale i hs) (C.combines i i_in) j)
          ∙ ap (as_fraction o) (get_or-table n (λ t. cond (nat_eq t i) scale []) j [] j_in)

      pub scaled_inverse : IsScaledInverse o L n rows inverse scale
      scaled_inverse = record {
        matrix = matrix_is o (product_entry o L (length transform) weights transform) (length weights) n inverse I;
        count = I.count ∙ C.count;
        polynomial = hs;
        nonzero = ns;
        left = entries;
      }
