-- The Gram matrix of a basis for the trace form, by products of matrices of polynomials.
use Rattle.std.specs.Prelude.{◌≡◌, ◌≢◌, ◌<◌, ℕ, List, [], length, get_or}
use Rattle.std.proofs.Common.{refl, sym, ◌∙◌, ap, ap₂, subst, arith}
use Rattle.theory_rings.specs.Ring.{FieldOn}
use Rattle.theory_rings.specs.Ops.{Ops, IsElem, FieldLaws}
use Rattle.theory_rings.specs.Elements.{Elem, Elem-path, elements}
use Rattle.theory_rings.specs.Sum.{sum, sum_of}
use Rattle.theory_rings.proofs.Rings.Elements.{sum_of-elements, sum_of_congr}
use Rattle.theory_rings.proofs.Rings.Fields.{field_mul-ne-zero}
use Rattle.theory_rings.proofs.Rings.Solver.{◌⊠◌, ring3}
use Rattle.theory_rings.proofs.Sums.Sums.{sum_congr, mul-sum}
use Rattle.theory_fractions.specs.PolynomialLists.{IsProduct, IsPolynomialList}
use Rattle.theory_fractions.specs.Fraction.{Pair}
use Rattle.theory_fractions.specs.CommonDenominator.{as_fraction}
use Rattle.theory_fractions.proofs.CommonDenominators.{nonzero_of_monic}
use Rattle.theory_fractions.proofs.ElementClauses.{zero_is, ne_zero}
use Rattle.theory_fractions.proofs.PolynomialFractions.{as_fraction-elem, as_fraction-mul}
use Rattle.theory_spaces.specs.Tuples.{Tuple}
use Rattle.theory_tables.specs.Matrix.{entry, IsMatrix}
use Rattle.theory_tables.specs.Structure.{Structure, IsOver, IsAssociative}
use Rattle.theory_tables.specs.Traces.{trace_matrix}
use Rattle.theory_tables.proofs.Algebras.Bridge.{row, row-is, row-at}
use Rattle.theory_rows.specs.Rows.{IsPolynomialMatrix}
use Rattle.theory_rows.proofs.LiftedRows.{matrix-over, matrix-trimmed}
use Rattle.theory_bases.specs.TupleLattices.{AreIndependentTuples, AreTraceDual, trace_of_product}
use Rattle.theory_bases.specs.Bases.{BasisForm, IsBasis, IsDenominatorOf, tuples_of}
use Rattle.theory_bases.specs.Grams.{gram_entry, IsGramDenominator}
use Rattle.theory_bases.proofs.DualRows.{scaled_form}
use Rattle.theory_bases.proofs.FractionsOver.{K, M, mul-over, entry-tuples, over_rows-matrix, count-tuples}
use Rattle.theory_bases.proofs.FractionsOver.{over_of_multiple}
use Rattle.theory_bases.proofs.PolynomialDivisors.{up}
use Rattle.theory_bases.proofs.TraceForms.{units, form, form-is, coord-is, matrix, matrix-is}
use Rattle.spl_order.specs.Forms.{IsClearedForm, IsClearedGram}
use Rattle.spl_order.specs.Values.{HasMatrix, fraction_entry, product_entry}
use Rattle.spl_order.proofs.InverseGrams.{inverse_of_dual}
use Rattle.spl_order.proofs.Values.{matrix_is}

module _ {E : Type 0} (o : Ops E) (L : FieldLaws o) (A : Structure (Pair E)) (over : IsOver (K o L) A)
    (assoc : IsAssociative (K o L) A) (e : List E) (N : List (List (List E)))
    (C : IsClearedForm o L A e N) (b : BasisForm E) (B : IsBasis o L A.dim b) where
  abbrev k : Ops (Pair E)
  k = K o L

  abbrev laws : FieldLaws k
  laws = M o L

  abbrev F : FieldOn (Elem k)
  F = elements k laws

  abbrev m : ℕ
  m = A.dim

  abbrev d : List E
  d = b.denominator

  abbrev rows : List (List (List E))
  rows = b.numerators

  abbrev f : Tuple k m → Tuple k m → Elem k
  f = form k laws A over.of_elements assoc

  abbrev coord : Tuple k m → ℕ → Elem k
  coord x i = (let U = units k laws A over.of_elements assoc in U.coord) x i

  d-nonzero : d ≢ []
  d-nonzero = nonzero_of_monic o L d (let l = B.least in l.monic)

  rows-count : length rows ≡ m
  rows-count = sym (count-tuples o L b) ∙ (let i = B.independent in i.count)

  form-count : length N ≡ m
  form-count = let v = C.values in v.count

  pub form-matrix : IsPolynomialMatrix o m N
  form-matrix = matrix_is o (λ i j. k.mul (as_fraction o e) (entry k (trace_matrix k A) i j)) m m N C.values

  pub order-matrix : IsPolynomialMatrix o (length N) rows
  order-matrix = subst (λ w. IsPolynomialMatrix o w rows) (sym form-count) B.rows

  -- an entry as an element
  entry_of : (w : ℕ) (xs : List (List (List E))) → IsPolynomialMatrix o w xs → ℕ → ℕ → Elem k
  entry_of w xs h i j = (
    fraction_entry o xs i j,
    as_fraction-elem o L (get_or (get_or xs i []) j [])
        (record { over = matrix-over o L w xs h i j; trimmed = matrix-trimmed o L w xs h i j }),
  )

  a : ℕ → ℕ → Elem k
  a = entry_of m rows B.rows

  n : ℕ → ℕ → Elem k
  n = entry_of m N form-matrix

  ud : Elem k
  ud = up o L d B.polynomial

  ue : Elem k
  ue = up o L e C.polynomial

  abbrev T : List (List (Pair E))
  T = tuples_of o L b

  T-matrix : IsMatrix k m T
  T-matrix = over_rows-matrix o L d B.polynomial d-nonzero m rows B.rows

  X : ℕ → Tuple k m
  X = row k laws m T T-matrix

  X-is : (i t : ℕ) → i < m → t < m → F.◌⊗◌ ud (coord (X i) t) ≡ a i t
  unfolding a ud X entry_of
  X-is i t i_in t_in = Elem-path k (F.◌⊗◌ ud (coord (X i) t)) (a i t)
      (ap (k.mul (as_fraction o d)) (coord-is k laws A over.of_elements assoc (X i) t t_in
      ∙ row-at k laws m T T-matrix i t t_in
      ∙ entry-tuples o L m b B.rows i t (omega (arith, i_in, rows-count)) t_in)
      ∙ mul-over o L d B.polynomial d-nonzero (get_or (get_or rows i []) t [])
      (record { over = matrix-over o L m rows B.rows i t; trimmed = matrix-trimmed o L m rows B.rows i t }))

  n-is : (t l : ℕ) → t < m → l < m → n t l ≡ F.◌⊗◌ ue (matrix k laws A over.of_elements assoc t l)
  unfolding n ue entry_of
  n-is t l t_in l_in = Elem-path k (n t l) (F.◌⊗◌ ue (matrix k laws A over.of_elements assoc t l))
      ((let v = C.values in let r = v.each t t_in in r.values l l_in)
      ∙ ap (k.mul (as_fraction o e)) (sym (matrix-is k laws A over.of_elements assoc t l t_in l_in)))

  gram-is : (i j : ℕ) → i < m → j < m → (f (X i) (X j)).0 ≡ gram_entry k A T i j
  unfolding X
  gram-is i j i_in j_in = form-is k laws A over.of_elements assoc (X i) (X j)
      ∙ ap₂ (trace_of_product k A)
      (row-is k laws m T T-matrix i (omega (arith, i_in, rows-count, count-tuples o L b)))
      (row-is k laws m T T-matrix j (omega (arith, j_in, rows-count, count-tuples o L b)))

  abbrev z : ℕ → ℕ → Elem k
  z i l = sum F.monoid m (λ t. F.◌⊗◌ (a i t) (n t l))

  -- the product of the rows, the matrix of the form and the columns
  scaled : (i j : ℕ) → i < m → j < m
      → F.◌⊗◌ (F.◌⊗◌ ud (F.◌⊗◌ ud ue)) (f (X i) (X j)) ≡ sum F.monoid m (λ l. F.◌⊗◌ (z i l) (a j l))
  scaled i j i_in j_in =
      F.mul_assoc ud (F.◌⊗◌ ud ue) (f (X i) (X j))
      ∙ ap (F.◌⊗◌ ud) (scaled_form k laws A over.of_elements assoc (X i) (X j) (a i) n ud ue (λ t. X-is i t i_in) n-is)
      ∙ mul-sum F.ring m ud (λ l. F.◌⊗◌ (z i l) (coord (X j) l))
      ∙ sum_congr F.monoid m (λ l. F.◌⊗◌ ud (F.◌⊗◌ (z i l) (coord (X j) l))) (λ l. F.◌⊗◌ (z i l) (a j l))
      (λ l l_in. ring3 F.cring (λ d z x. (d ⊠ (z ⊠ x), z ⊠ (d ⊠ x))) refl ud (z i l) (coord (X j) l)
      ∙ ap (F.◌⊗◌ (z i l)) (X-is j l j_in l_in))

  module _ (q : List (List (List E))) (Q : HasMatrix o (product_entry o L (length N) rows N) (length rows) m q)
      (p : List (List (List E))) (P : HasMatrix o (λ j i. fraction_entry o rows i j) m (length rows) p) where
    pub values-matrix : IsPolynomialMatrix o (length p) q
    values-matrix = subst (λ w. IsPolynomialMatrix o w q) (sym P.count)
        (matrix_is o (product_entry o L (length N) rows N) (length rows) m q Q)

    pub columns-matrix : IsPolynomialMatrix o m p
    columns-matrix = subst (λ w. IsPolynomialMatrix o w p) rows-count
        (matrix_is o (λ j i. fraction_entry o rows i j) m (length rows) p P)

    value_is : (i l : ℕ) → i < m → l < m → fraction_entry o q i l ≡ (z i l).0
    unfolding a n entry_of
    value_is i l i_in l_in =
        (let r = Q.each i (omega (arith, i_in, rows-count)) in r.values l l_in)
        ∙ ap (λ s. sum_of k s (λ t. k.mul (fraction_entry o rows i t) (fraction_entry o N t l))) form-count
        ∙ sum_of-elements k laws m (λ t. F.◌⊗◌ (a i t) (n t l))

    column_is : (l j : ℕ) → l < m → j < m → fraction_entry o p l j ≡ (a j l).0
    unfolding a entry_of
    column_is l j l_in j_in = let r = P.each l l_in in r.values j (omega (arith, j_in, rows-count))

    module _ (g : List (List (List E))) (G : HasMatrix o (product_entry o L (length p) q p) (length q) m g)
        (s c : List E) (hs : IsPolynomialList o s) (hc : IsPolynomialList o c) (s-is : IsProduct o d e s)
        (c-is : IsProduct o d s c) where
      scale_is : as_fraction o c ≡ (F.◌⊗◌ ud (F.◌⊗◌ ud ue)).0
      unfolding ud ue
      scale_is = as_fraction-mul o L d s c B.polynomial hs hc c-is
          ∙ ap (k.mul (as_fraction o d)) (as_fraction-mul o L d e s B.polynomial C.polynomial hs s-is)

      nonzero : c ≢ []
      unfolding ud ue
      nonzero t =
          let ud_ne : ud ≢ F.zero = λ w. ne_zero o L (as_fraction o d) d-nonzero (ap (λ (x : Elem k). x.0) w) in
          let ue_ne : ue ≢ F.zero = λ w. ne_zero o L (as_fraction o e) C.nonzero (ap (λ (x : Elem k). x.0) w) in
          field_mul-ne-zero F ud (F.◌⊗◌ ud ue) ud_ne (field_mul-ne-zero F ud ue ud_ne ue_ne)
          (Elem-path k (F.◌⊗◌ ud (F.◌⊗◌ ud ue)) F.zero (sym scale_is ∙ ap (as_fraction o) t ∙ sym (zero_is o L)))

      gram_value : (i j : ℕ) → i < m → j < m
          → fraction_entry o g i j ≡ k.mul (as_fraction o c) (gram_entry k A T i j)
      gram_value i j i_in j_in =
          (let r = G.each i (omega (arith, i_in, rows-count, Q.count)) in r.values j j_in)
          ∙ ap (λ w. sum_of k w (λ l. k.mul (fraction_entry o q i l) (fraction_entry o p l j))) P.count
          ∙ sum_of_congr k m (λ l. k.mul (fraction_entry o q i l) (fraction_entry o p l j))
          (λ l. (F.◌⊗◌ (z i l) (a j l)).0)
          (λ l l_in. ap₂ k.mul (value_is i l i_in l_in) (column_is l j l_in j_in))
          ∙ sum_of-elements k laws m (λ l. F.◌⊗◌ (z i l) (a j l))
          ∙ ap (λ (x : Elem k). x.0) (sym (scaled i j i_in j_in))
          ∙ ap₂ k.mul (sym scale_is) (gram-is i j i_in j_in)

      pub cleared_gram : IsClearedGram o L A T c g
      cleared_gram = record {
        polynomial = hc;
        nonzero = nonzero;
        values = record {
          count = G.count ∙ Q.count ∙ rows-count;
          each = λ i i_in.
              let r = G.each i (omega (arith, i_in, rows-count, Q.count)) in
              record {
                count = r.count;
                polynomials = r.polynomials;
                values = λ j j_in. gram_value i j i_in j_in;
              };
        };
      }

-- the tuples of the numerators over the denominator have the entries of the Gram matrix
module _ {E : Type 0} (o : Ops E) (L : FieldLaws o) (A : Structure (Pair E)) (over : IsOver (K o L) A)
    (assoc : IsAssociative (K o L) A) (tuples duals : List (List (Pair E)))
    (free : AreIndependentTuples (K o L) A.dim tuples) (dual_free : AreIndependentTuples (K o L) A.dim duals)
    (D : AreTraceDual (K o L) A tuples duals) (c : List E) (g : List (List (List E)))
    (G : IsClearedGram o L A duals c g) where
  abbrev G-form : BasisForm E
  G-form = record { denominator = c; numerators = g }

  pub gram-matrix : IsPolynomialMatrix o A.dim g
  gram-matrix = let v = G.values in
      matrix_is o (λ i j. (K o L).mul (as_fraction o c) (gram_entry (K o L) A duals i j)) A.dim A.dim g v

  g-count : length g ≡ A.dim
  g-count = let v = G.values in v.count

  gram-elem : (i j : ℕ) → i < A.dim → j < A.dim → IsElem (K o L) (gram_entry (K o L) A duals i j)
  gram-elem i j i_in j_in =
      let v : ℕ → Tuple (K o L) A.dim = row (K o L) (M o L) A.dim duals dual_free.shape in
      subst (IsElem (K o L)) (form-is (K o L) (M o L) A over.of_elements assoc (v i) (v j)
      ∙ ap₂ (trace_of_product (K o L) A)
      (row-is (K o L) (M o L) A.dim duals dual_free.shape i (let e = dual_free.count in omega (arith, i_in, e)))
      (row-is (K o L) (M o L) A.dim duals dual_free.shape j (let e = dual_free.count in omega (arith, j_in, e))))
      (form (K o L) (M o L) A over.of_elements assoc (v i) (v j)).1

  entries : (i j : ℕ) → i < A.dim → j < A.dim
      → entry (K o L) (tuples_of o L G-form) i j ≡ gram_entry (K o L) A duals i j
  entries i j i_in j_in =
      entry-tuples o L A.dim G-form gram-matrix i j (omega (arith, i_in, g-count)) j_in
      ∙ over_of_multiple o L c G.polynomial G.nonzero (get_or (get_or g i []) j []) (gram_entry (K o L) A duals i j)
      (gram-elem i j i_in j_in)
      (let v = G.values in let r = v.each i i_in in r.values j j_in)

  pub gram_denominator_is : (d : List E) → IsDenominatorOf o (tuples_of o L G-form) d → IsGramDenominator o L A tuples d
  gram_denominator_is d least = record {
    inverse = tuples_of o L G-form;
    is_inverse = inverse_of_dual (K o L) (M o L) A over assoc tuples duals free dual_free D (tuples_of o L G-form)
        (count-tuples o L G-form ∙ g-count)
        (over_rows-matrix o L c G.polynomial G.nonzero A.dim g gram-matrix) entries;
    least = least;
  }
