-- The preimage of an ideal of an order modulo a place: the combinations of the order's tuples by the ideal's rows, as
-- polynomials, and the place's polynomial times these tuples, as rows of polynomials over the order's denominator.
use Rattle.std.specs.Prelude.{◌≡◌, ◌≢◌, ◌<◌, ℕ, List, [], ◌++◌, length, get_or, map}
use Rattle.std.proofs.Common.{refl, sym, ◌∙◌, ap, ap₂, subst, arith}
use Rattle.std.proofs.lemmas.List.{length-map, get_or_default, get_or-map}
use Rattle.std.proofs.lemmas.List.Elements.{All-append, All-from_get_or, All-map}
use Rattle.theory_rings.specs.Ops.{Ops, IsElem, FieldLaws}
use Rattle.theory_rings.specs.Elements.{Elem, elements}
use Rattle.theory_rings.specs.Sum.{at, sum_of, table}
use Rattle.theory_rings.specs.Polynomial.{IsTrimmed}
use Rattle.theory_rings.proofs.Rings.Elements.{sum_of-elem, sum_of_congr}
use Rattle.theory_rings.proofs.Sums.Lists.{length-table, get_or-table, All-table}
use Rattle.theory_spaces.specs.Tuples.{IsTuple}
use Rattle.theory_spaces.proofs.Tuples.Tuples.{IsTuple-table, at-table}
use Rattle.theory_tables.specs.Matrix.{entry, IsMatrix}
use Rattle.theory_tables.specs.Structure.{Structure, IsOver, IsAssociative}
use Rattle.theory_tables.specs.Algebras.{SpansIdeal}
use Rattle.theory_tables.proofs.Rows.Sums.{sum_of-mul}
use Rattle.theory_fractions.specs.PolynomialLists.{IsOver as IsListOver, IsPolynomialList}
use Rattle.theory_fractions.specs.Fraction.{Pair}
use Rattle.theory_fractions.specs.FractionOps.{fraction_ops, polynomial_of}
use Rattle.theory_fractions.specs.CommonDenominator.{as_fraction}
use Rattle.theory_fractions.proofs.CommonDenominators.{nonzero_of_monic}
use Rattle.theory_fractions.proofs.PolynomialFractions.{as_fraction-elem}
use Rattle.theory_remainders.specs.RemainderLaws.{IsRemainder, IsRemainderOf}
use Rattle.theory_remainders.specs.RemainderOps.{remainder_ops}
use Rattle.theory_remainders.proofs.RemainderField.{monic}
use Rattle.theory_remainders.proofs.RemainderValues.{of_elem, remainder_of_eq}
use Rattle.theory_fractions.proofs.ListPolynomials.{has_polynomial_of}
use Rattle.theory_places.specs.Places.{Finite}
use Rattle.theory_places.specs.FractionPlaces.{IsIntegralAt, IsMonicIrreducible, fractions}
use Rattle.theory_rows.specs.Rows.{IsPolynomialRow, IsPolynomialMatrix}
use Rattle.theory_rows.proofs.LiftedRows.{matrix-over, matrix-trimmed}
use Rattle.theory_bases.specs.TupleLattices.{SpanOrder, SameTupleLattice}
use Rattle.theory_bases.specs.Bases.{BasisForm, IsBasis, IsPolynomialFraction, tuples_of}
use Rattle.theory_bases.proofs.FractionsOver.{M, inverse, inverse-elem, entry-tuples, count-tuples}
use Rattle.theory_left_orders.specs.FractionResidues.{HasResidues, ResidueRingsBy}
use Rattle.theory_left_orders.specs.ResidueRings.{ResidueRingOn}
use Rattle.theory_left_orders.specs.TupleResidues.{HasResidue, AreResidueRows}
use Rattle.theory_left_orders.specs.TupleIdeals.{IsResidueTable, AreCombinations, AreMultiples, IsPreimage}
use Rattle.theory_left_orders.proofs.FractionResidues.{poly_loc, polynomial_lattices_at_places}
use Rattle.theory_left_orders.proofs.TupleIdeals.{preimages_of_rows}
use Rattle.spl_order.specs.Values.{fraction_entry, product_entry}
use Rattle.spl_order.specs.Lifts.{combined_tuples, multiple_tuples}
use Rattle.spl_order.specs.Residues.{AreProductResidues, ArePreimages}
use Rattle.spl_order.proofs.ProductCoordinates.{table_at_place, table_of_polynomials}

module _ {X : Type 0} (o : Ops X) (h w : ℕ) (f : ℕ → ℕ → X) where
  -- a matrix by its entries
  tables_matrix : ((i j : ℕ) → IsElem o (f i j)) → IsMatrix o w (table h (λ i. table w (f i)))
  tables_matrix g = All-table (IsTuple o w) h (λ i. table w (f i)) (λ i _. IsTuple-table o w (f i) (λ j _. g i j))

  entry-tables : (i j : ℕ) → i < h → j < w → entry o (table h (λ i. table w (f i))) i j ≡ f i j
  entry-tables i j i_in j_in =
      ap (λ x. at o x j) (get_or-table h (λ i. table w (f i)) i [] i_in) ∙ at-table o w (f i) j j_in

module _ {E : Type 0} (o : Ops E) (L : FieldLaws o) (m : List E) (s : IsMonicIrreducible o m) (A : Structure (Pair E))
    (b : BasisForm E) (B : IsBasis o L A.dim b) (rows : List (List (List E)))
    (shape : IsMatrix (remainder_ops o L m (monic o L m s.irreducible)) A.dim rows) where
  abbrev k : Ops (Pair E)
  k = fraction_ops o L

  abbrev laws : FieldLaws k
  laws = M o L

  abbrev r : Ops (List E)
  r = remainder_ops o L m (monic o L m s.irreducible)

  abbrev n : ℕ
  n = A.dim

  abbrev d : List E
  d = b.denominator

  abbrev O : List (List (List E))
  O = b.numerators

  abbrev T : List (List (Pair E))
  T = tuples_of o L b

  d-nonzero : d ≢ []
  d-nonzero = nonzero_of_monic o L d (let l = B.least in l.monic)

  abbrev di : Pair E
  di = inverse o L d B.polynomial d-nonzero

  di-elem : IsElem k di
  di-elem = inverse-elem o L d B.polynomial d-nonzero

  rows-count : length O ≡ n
  rows-count = sym (count-tuples o L b) ∙ (let i = B.independent in i.count)

  -- ---- the rows of residues as polynomials

  small : (i j : ℕ) → i < length rows → j < n → IsRemainder o m (get_or (get_or rows i []) j [])
  small i j i_in j_in = let t = shape i [] i_in in
      of_elem o L m s.irreducible (get_or (get_or rows i []) j [])
      (t.of_elements j [] (omega (arith, j_in, t.right_length)))

  rows-row : (i : ℕ) → i < length rows → IsPolynomialRow o n (get_or rows i [])
  rows-row i i_in = let t = shape i [] i_in in record {
    width = t.right_length;
    over = All-from_get_or (IsListOver o) (get_or rows i []) []
        (λ j l. let z = small i j i_in (omega (arith, l, t.right_length)) in let p = z.polynomial in p.over);
    trimmed = All-from_get_or (IsTrimmed o.zero) (get_or rows i []) []
        (λ j l. let z = small i j i_in (omega (arith, l, t.right_length)) in let p = z.polynomial in p.trimmed);
  }

  pub weights_matrix : IsPolynomialMatrix o n rows
  weights_matrix = All-from_get_or (IsPolynomialRow o n) rows [] rows-row

  rows_matrix : IsPolynomialMatrix o (length O) rows
  rows_matrix = subst (λ w. IsPolynomialMatrix o w rows) (sym rows-count) weights_matrix

  pub numerators_matrix : IsPolynomialMatrix o n O
  numerators_matrix = B.rows

  polynomial : (w : ℕ) (xs : List (List (List E))) → IsPolynomialMatrix o w xs → (i j : ℕ)
      → IsPolynomialList o (get_or (get_or xs i []) j [])
  polynomial w xs h i j = record { over = matrix-over o L w xs h i j; trimmed = matrix-trimmed o L w xs h i j }

  fraction-elem : (w : ℕ) (xs : List (List (List E))) → IsPolynomialMatrix o w xs → (i j : ℕ)
      → IsElem k (fraction_entry o xs i j)
  fraction-elem w xs h i j = as_fraction-elem o L (get_or (get_or xs i []) j []) (polynomial w xs h i j)

  abbrev lifts : List (List (Pair E))
  lifts = map (map (as_fraction o)) rows

  lifts-count : length lifts ≡ length rows
  lifts-count = length-map rows (map (as_fraction o))

  entry-lifts : (i j : ℕ) → i < length rows → j < n → entry k lifts i j ≡ fraction_entry o rows i j
  entry-lifts i j i_in j_in = let t = shape i [] i_in in
      ap (λ y. get_or y j k.zero) (get_or-map (map (as_fraction o)) rows i [] [] i_in)
      ∙ get_or-map (as_fraction o) (get_or rows i []) j [] k.zero (omega (arith, j_in, t.right_length))

  lifts-shape : IsMatrix k n lifts
  lifts-shape = All-map (IsTuple k n) (map (as_fraction o)) rows (λ i x i_in. let t = shape i x i_in in record {
    right_length = length-map (get_or rows i x) (as_fraction o) ∙ t.right_length;
    of_elements = All-map (IsElem k) (as_fraction o) (get_or rows i x)
        (λ j y j_in. as_fraction-elem o L (get_or (get_or rows i x) j y)
        (let z = of_elem o L m s.irreducible (get_or (get_or rows i x) j y) (t.of_elements j y j_in) in z.polynomial));
  })

  entry-rows : (i j : ℕ) → i < length rows → j < n → entry r rows i j ≡ get_or (get_or rows i []) j []
  entry-rows i j i_in j_in = let t = shape i [] i_in in
      get_or_default (get_or rows i []) j r.zero [] (omega (arith, j_in, t.right_length))

  own_remainder : (x : List E) → IsRemainder o m x → IsRemainderOf o (at o x) m x
  own_remainder x h = remainder_of_eq o L m s.irreducible (polynomial_of o L x) (at o x)
      (has_polynomial_of o L x (let p = h.polynomial in p.over)) x h refl

  -- ---- the combinations by them, and the multiples

  abbrev lifted : List (List (Pair E))
  lifted = combined_tuples o L n d rows O

  abbrev multiples : List (List (Pair E))
  multiples = multiple_tuples o L n d m O

  abbrev all : List (List (Pair E))
  all = lifted ++ multiples

  abbrev lifted-at : ℕ → ℕ → Pair E
  lifted-at i j = k.mul (product_entry o L n rows O i j) di

  abbrev multiple-at : ℕ → ℕ → Pair E
  multiple-at i j = k.mul (k.mul (as_fraction o m) (fraction_entry o O i j)) di

  lifted-count : length lifted ≡ length rows
  lifted-count = length-table (length rows) (λ i. table n (lifted-at i))

  multiples-count : length multiples ≡ length T
  multiples-count = length-table n (λ i. table n (multiple-at i))
      ∙ sym (let i = B.independent in i.count)

  product-elem : (i j : ℕ) → IsElem k (product_entry o L n rows O i j)
  product-elem i j = sum_of-elem k laws n (λ l. k.mul (fraction_entry o rows i l) (fraction_entry o O l j))
      (λ l _. laws.mul-elem (fraction_entry o rows i l) (fraction_entry o O l j)
      (fraction-elem (length O) rows rows_matrix i l) (fraction-elem n O B.rows l j))

  lifted-shape : IsMatrix k n lifted
  lifted-shape = tables_matrix k (length rows) n lifted-at
      (λ i j. laws.mul-elem (product_entry o L n rows O i j) di (product-elem i j) di-elem)

  multiples-shape : IsMatrix k n multiples
  multiples-shape = tables_matrix k n n multiple-at
      (λ i j. laws.mul-elem (k.mul (as_fraction o m) (fraction_entry o O i j)) di
      (laws.mul-elem (as_fraction o m) (fraction_entry o O i j) (as_fraction-elem o L m s.polynomial)
      (fraction-elem n O B.rows i j)) di-elem)

  pub joined_shape : IsMatrix k n all
  joined_shape = All-append (IsTuple k n) lifted multiples lifted-shape multiples-shape

  entry-T : (i j : ℕ) → i < n → j < n → entry k T i j ≡ k.mul (fraction_entry o O i j) di
  entry-T i j i_in j_in = entry-tuples o L n b B.rows i j (omega (arith, i_in, rows-count)) j_in

  combined : (i c : ℕ) → i < length rows → c < n
      → entry k lifted i c ≡ sum_of k n (λ l. k.mul (entry k lifts i l) (entry k T l c))
  combined i c i_in c_in =
      let u : ℕ → Pair E = λ l. fraction_entry o rows i l in
      let v : ℕ → Pair E = λ l. fraction_entry o O l c in
      let u-elem = λ (l : ℕ). fraction-elem (length O) rows rows_matrix i l in
      let v-elem = λ (l : ℕ). fraction-elem n O B.rows l c in
      entry-tables k (length rows) n lifted-at i c i_in c_in
      ∙ sum_of-mul k laws n di (λ l. k.mul (u l) (v l)) di-elem (λ l. laws.mul-elem (u l) (v l) (u-elem l) (v-elem l))
      ∙ sum_of_congr k n (λ l. k.mul (k.mul (u l) (v l)) di) (λ l. k.mul (entry k lifts i l) (entry k T l c))
      (λ l l_in. laws.mul_assoc (u l) (v l) di (u-elem l) (v-elem l) di-elem
      ∙ ap₂ k.mul (sym (entry-lifts i l i_in l_in)) (sym (entry-T l c l_in c_in)))

  multiplied : (i c : ℕ) → i < n → c < n → entry k multiples i c ≡ k.mul (as_fraction o m) (entry k T i c)
  multiplied i c i_in c_in =
      entry-tables k n n multiple-at i c i_in c_in
      ∙ laws.mul_assoc (as_fraction o m) (fraction_entry o O i c) di (as_fraction-elem o L m s.polynomial)
      (fraction-elem n O B.rows i c) di-elem
      ∙ ap (k.mul (as_fraction o m)) (sym (entry-T i c i_in c_in))

  -- ---- the preimage

  module _ (W : FieldLaws k) (N : FieldLaws r) (R : ResidueRingsBy o L W m r N) where
    abbrev q : Elem k
    q = let G = fractions o L W in G.inv R.p

    module _ (P : Pair E → Type 0) (D : ResidueRingOn (elements k W) (λ w. P w.0) R.p q (elements r N))
        (polynomial_in : (x : List E) → IsPolynomialList o x → P (as_fraction o x))
        (V : HasResidues o L W m r (λ w. P w.0) D.res) where
      combinations : AreCombinations k W P R.p q r N D A T lifts lifted
      combinations = record {
        count = lifted-count ∙ sym lifts-count;
        shape = lifted-shape;
        combines = λ i c i_in c_in. combined i c (omega (arith, i_in, lifts-count)) c_in;
      }

      are_multiples : AreMultiples k W P R.p q r N D A T multiples
      are_multiples = record {
        count = multiples-count;
        shape = multiples-shape;
        entries = λ i c i_in c_in. multiplied i c (omega (arith, i_in, count-tuples o L b, rows-count)) c_in
            ∙ ap (λ x. k.mul x (entry k T i c)) (sym R.p_is);
      }

      residue_of : (x : List E) → IsRemainder o m x → HasResidue k W P R.p q r N D (as_fraction o x) x
      residue_of x h =
          let e = as_fraction-elem o L x h.polynomial in
          record {
            elem = e;
            allowed = polynomial_in x h.polynomial;
            residue = V.polynomial_value (as_fraction o x, e) x x h.polynomial refl h (own_remainder x h);
          }

      residue_rows : AreResidueRows k W P R.p q r N D n lifts rows
      residue_rows = record {
        count = lifts-count;
        shape = lifts-shape;
        entries = λ i j l j_in.
            let i_in : i < length rows = omega (arith, l, lifts-count) in
            let x = get_or (get_or rows i []) j [] in
            subst (λ y. HasResidue k W P R.p q r N D y (entry r rows i j)) (sym (entry-lifts i j i_in j_in))
            (subst (HasResidue k W P R.p q r N D (as_fraction o x)) (sym (entry-rows i j i_in j_in))
            (residue_of x (small i j i_in j_in)));
      }

      preimage_over : (constants : List (List E)) (out : List (List (Pair E))) → IsOver k A → IsAssociative k A
          → (S : SpanOrder k A P T) → IsResidueTable k W P R.p q r N D A T constants
          → SpansIdeal r (record { dim = A.dim; constants = constants }) rows → SameTupleLattice k P n all out
          → IsPreimage k W P R.p q r N D A T constants rows out
      preimage_over constants out over assoc S table ideal same =
          let I = preimages_of_rows k W P R.p q r N D A over assoc S.one S.is_one T S.basis S.order constants table rows
          ideal lifts lifted multiples residue_rows combinations are_multiples in
          record {
            lattice = (
              λ x h. same.0 x (I.lattice.0 x h),
              λ x h. I.lattice.1 x (same.1 x h),
            );
            ideal = I.ideal;
            over = I.over;
            whole = I.whole;
          }

  -- a basis of the lattice of these rows spans the preimage, at the place and over the polynomials
  pub preimages : (constants : List (List E)) (out : List (List (Pair E))) → IsOver k A → IsAssociative k A
      → AreProductResidues o L m r A T constants
      → SpansIdeal r (record { dim = A.dim; constants = constants }) rows
      → IsMatrix k n out → SameTupleLattice k (IsPolynomialFraction o) n all out
      → ArePreimages o L m s A T constants rows out
  preimages constants out over assoc H ideal out-shape same = record {
    at_place = λ W N R S. preimage_over W N R (IsIntegralAt o (Finite m)) R.at_place
        (λ x h. poly_loc o L W m s (as_fraction o x, as_fraction-elem o L x h) refl) R.at_place_values constants out
        over assoc S (table_at_place o L W m s N R A T constants H S) ideal
        (polynomial_lattices_at_places o L m s n all out joined_shape out-shape same);
    polynomials = λ W N R S. preimage_over W N R (IsPolynomialFraction o) R.polynomials (λ x h. refl)
        R.polynomial_values constants out over assoc S (table_of_polynomials o L W m s N R A T constants H S) ideal same;
  }
