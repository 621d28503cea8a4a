-- The coordinates of rows of polynomials over a denominator in a basis, by an inverse of the rows of the basis.
use Rattle.std.specs.Prelude.{◌≡◌, ◌≢◌, ◌<◌, ℕ, List, [], length, get_or, map, cond, nat_eq}
use Rattle.std.specs.List.{All}
use Rattle.std.proofs.Common.{refl, sym, ◌∙◌, ap, subst, arith, ⊎_elim}
use Rattle.std.proofs.lemmas.Bool.{cases_eq}
use Rattle.std.proofs.lemmas.List.{get_or-map}
use Rattle.std.proofs.lemmas.List.Elements.{All-get_or}
use Rattle.theory_rings.specs.Ring.{FieldOn}
use Rattle.theory_rings.specs.Ops.{Ops, IsElem, FieldLaws}
use Rattle.theory_rings.specs.Elements.{Elem, Elem-path}
use Rattle.theory_rings.specs.Sum.{at, sum, sum_of}
use Rattle.theory_rings.proofs.Rings.Elements.{at-elem, sum_of-elements, sum_of_congr}
use Rattle.theory_rings.proofs.Rings.Fields.{field_mul-ne-zero}
use Rattle.theory_rings.proofs.Rings.RingLaws.{mul-zero}
use Rattle.theory_rings.proofs.Rings.Solver.{◌⊠◌, ring3}
use Rattle.theory_rings.proofs.Sums.Sums.{mul-sum}
use Rattle.theory_spaces.specs.Matrix.{delta}
use Rattle.theory_spaces.proofs.Matrices.Matrices.{delta-same, delta-other}
use Rattle.theory_tables.specs.Matrix.{entry, IsMatrix}
use Rattle.theory_tables.proofs.Algebras.Bridge.{row, row-at, IsTuple-of}
use Rattle.theory_tables.proofs.Rows.Terms.{cond_yes, cond_no}
use Rattle.theory_fractions.specs.PolynomialLists.{IsPolynomialList, IsProduct}
use Rattle.theory_fractions.specs.Fraction.{Pair}
use Rattle.theory_fractions.specs.CommonDenominator.{as_fraction}
use Rattle.theory_fractions.proofs.CommonDenominators.{nonzero_of_monic}
use Rattle.theory_fractions.proofs.ElementClauses.{zero_is, ne_zero}
use Rattle.theory_fractions.proofs.PolynomialFractions.{as_fraction-mul}
use Rattle.theory_rows.specs.Rows.{IsPolynomialRow, IsPolynomialMatrix, RowsAreIndependent}
use Rattle.theory_rows.proofs.LiftedRows.{matrix-over, matrix-trimmed}
use Rattle.theory_bases.specs.Bases.{BasisForm, IsBasis, fraction_over, tuples_of}
use Rattle.theory_bases.proofs.FractionsOver.{K, M, entry-tuples, over-elem, mul-over}
use Rattle.theory_bases.proofs.PolynomialDivisors.{fraction_field, up}
use Rattle.theory_bases.proofs.WeightsByInverse.{weights_combine}
use Rattle.spl_order.specs.Values.{HasRow, HasMatrix, fraction_entry, IsScaledInverse}
use Rattle.spl_order.specs.Members.{row_product, AreCoordinateColumns}
use Rattle.spl_order.proofs.ProductEntries.{polynomial_at, square_count}
use Rattle.spl_order.proofs.ProductItems.{numerators_free}
use Rattle.spl_order.proofs.Values.{matrix_is, items_of}

module _ {E : Type 0} (o : Ops E) (L : FieldLaws o) (n : ℕ) (b : BasisForm E) (B : IsBasis o L n b)
    (inverse : List (List (List E))) (s : List E) (I : IsScaledInverse o L n b.numerators inverse s)
    (columns : List (List (List E)))
    (C : HasMatrix o (λ i j. (K o L).mul (as_fraction o b.denominator) (fraction_entry o inverse i j)) n n columns)
    (d : List E) (hd : IsPolynomialList o d) (nd : d ≢ []) (scale : List E) (h-scale : IsPolynomialList o scale)
    (scale-is : IsProduct o d s scale) where
  abbrev k : Ops (Pair E)
  k = K o L

  abbrev Is : List E → Type 0
  Is = IsPolynomialList o

  infixl 70 ◌⊗◌
  abbrev F : FieldOn (Elem k)
  F = fraction_field o L

  open F use {◌⊗◌}

  abbrev T : List (List (Pair E))
  T = tuples_of o L b

  abbrev N : List (List (List E))
  N = b.numerators

  count : length N ≡ n
  count = square_count o L n b B

  -- the elements that the program has
  entry_is : (w : ℕ) (xs : List (List (List E))) → IsPolynomialMatrix o w xs → (i j : ℕ)
      → Is (get_or (get_or xs i []) j [])
  entry_is w xs h i j = record { over = matrix-over o L w xs h i j; trimmed = matrix-trimmed o L w xs h i j }

  abbrev a : ℕ → ℕ → Elem k
  a i j = up o L (get_or (get_or N i []) j []) (entry_is n N B.rows i j)

  abbrev r : ℕ → ℕ → Elem k
  r i j = up o L (get_or (get_or inverse i []) j []) (entry_is n inverse I.matrix i j)

  columns-matrix : IsPolynomialMatrix o n columns
  columns-matrix = matrix_is o (λ i j. k.mul (as_fraction o b.denominator) (fraction_entry o inverse i j)) n n columns C

  nb : b.denominator ≢ []
  nb = nonzero_of_monic o L b.denominator (let l = B.least in l.monic)

  abbrev bd : Elem k
  bd = up o L b.denominator B.polynomial

  abbrev es : Elem k
  es = up o L s I.polynomial

  abbrev ed : Elem k
  ed = up o L d hd

  abbrev eD : Elem k
  eD = up o L scale h-scale

  shape : IsMatrix k n T
  shape = let t = B.independent in t.shape

  abbrev X : ℕ → ℕ → Elem k
  X l c = let v = row k (M o L) n T shape l in
      (at k v.0 c, at-elem k (M o L) v.0 (let t = IsTuple-of k (M o L) n v in t.of_elements) c)

  X-is : (l c : ℕ) → c < n → (X l c).0 ≡ entry k T l c
  X-is l c c_in = row-at k (M o L) n T shape l c c_in

  a-is : (l c : ℕ) → l < n → c < n → bd ⊗ X l c ≡ a l c
  a-is l c l_in c_in = Elem-path k (bd ⊗ X l c) (a l c)
      (ap (k.mul bd.0) (X-is l c c_in ∙ entry-tuples o L n b B.rows l c (omega (arith, l_in, count)) c_in)
      ∙ mul-over o L b.denominator B.polynomial nb (get_or (get_or N l []) c []) (entry_is n N B.rows l c))

  diagonal : (i j : ℕ) → as_fraction o (cond (nat_eq j i) s []) ≡ (es ⊗ delta F.ring i j).0
  diagonal i j = ⊎_elim
      (λ (e : i ≡ j). ap (as_fraction o) (cond_yes j i s [] (sym e))
      ∙ ap (λ (z : Elem k). z.0) (sym (F.mul-one es))
      ∙ ap (λ z. (es ⊗ z).0) (sym (delta-same F.ring i)) ∙ ap (λ z. (es ⊗ delta F.ring i z).0) e)
      (λ (e : i ≢ j). ap (as_fraction o) (cond_no j i s [] (λ f. e (sym f))) ∙ sym (zero_is o L)
      ∙ ap (λ (z : Elem k). z.0) (sym (mul-zero F.ring es))
      ∙ ap (λ z. (es ⊗ z).0) (sym (delta-other F.ring i j e)))
      (cases_eq i j)

  inverse-is : (i j : ℕ) → i < n → j < n
      → sum F.monoid n (λ l. r i l ⊗ a l j) ≡ es ⊗ delta F.ring i j
  inverse-is i j i_in j_in = Elem-path k (sum F.monoid n (λ l. r i l ⊗ a l j)) (es ⊗ delta F.ring i j)
      (sym (sum_of-elements k (M o L) n (λ l. r i l ⊗ a l j)) ∙ I.left i j i_in j_in ∙ diagonal i j)

  D-is : eD ≡ ed ⊗ es
  D-is = Elem-path k eD (ed ⊗ es) (as_fraction-mul o L d s scale hd I.polynomial h-scale scale-is)

  ne : (u : List E) (hu : Is u) → u ≢ [] → up o L u hu ≢ F.zero
  ne u hu n e = ne_zero o L (as_fraction o u) n (ap (λ (z : Elem k). z.0) e)

  D-ne : eD ≢ F.zero
  D-ne z = field_mul-ne-zero F ed es (ne d hd nd) (ne s I.polynomial I.nonzero) (sym D-is ∙ z)

  scale-nonzero : scale ≢ []
  scale-nonzero z = D-ne (Elem-path k eD F.zero (ap (as_fraction o) z ∙ sym (zero_is o L)))

  module _ (line : List (List E)) (h : IsPolynomialRow o n line) where
    -- the tuple of the row over d
    abbrev x : List (Pair E)
    x = map (fraction_over o L d) line

    abbrev value : ℕ → Pair E
    value = row_product o L line columns

    line-all : All Is line
    line-all = items_of o n line h

    line_is : (c : ℕ) → Is (get_or line c [])
    line_is = polynomial_at o L line (λ c l. All-get_or Is line c [] l line-all)

    abbrev p : ℕ → Elem k
    p c = up o L (get_or line c []) (line_is c)

    q-elem : (c : ℕ) → IsElem k (fraction_over o L d (get_or line c []))
    q-elem c = over-elem o L d hd nd (get_or line c []) (line_is c)

    abbrev q : ℕ → Elem k
    q c = (fraction_over o L d (get_or line c []), q-elem c)

    p-is : (c : ℕ) → c < n → p c ≡ ed ⊗ q c
    p-is c _ = Elem-path k (p c) (ed ⊗ q c) (sym (mul-over o L d hd nd (get_or line c []) (line_is c)))

    -- an entry of the product is the denominator of the basis times the combination of the entries of the inverse
    value-is : (l : ℕ) → l < n → value l ≡ (bd ⊗ sum F.monoid n (λ c. p c ⊗ r c l)).0
    value-is l l_in =
        ap (λ m. sum_of k m (λ c. k.mul (p c).0 (fraction_entry o columns c l))) C.count
        ∙ sum_of_congr k n (λ c. k.mul (p c).0 (fraction_entry o columns c l)) (λ c. (bd ⊗ (p c ⊗ r c l)).0)
        (λ c c_in. ap (k.mul (p c).0) (let e = C.each c c_in in e.values l l_in)
        ∙ ap (λ (z : Elem k). z.0) (ring3 F.cring (λ p d r. (p ⊠ (d ⊠ r), d ⊠ (p ⊠ r))) refl (p c) bd (r c l)))
        ∙ sum_of-elements k (M o L) n (λ c. bd ⊗ (p c ⊗ r c l))
        ∙ ap (λ (z : Elem k). z.0) (sym (mul-sum F.ring n bd (λ c. p c ⊗ r c l)))

    module _ (items : List (List E)) (H : HasRow o value n items) where
      item_is : (l : ℕ) → Is (get_or items l [])
      item_is = polynomial_at o L items (λ l l_in. H.polynomials l (omega (arith, l_in, H.count)))

      -- the coordinates
      abbrev coordinate : ℕ → Pair E
      coordinate l = fraction_over o L scale (get_or items l [])

      coordinate-elem : (l : ℕ) → IsElem k (coordinate l)
      coordinate-elem l = over-elem o L scale h-scale scale-nonzero (get_or items l []) (item_is l)

      abbrev y : ℕ → Elem k
      y l = (coordinate l, coordinate-elem l)

      y-is : (l : ℕ) → l < n → eD ⊗ y l ≡ bd ⊗ sum F.monoid n (λ c. p c ⊗ r c l)
      y-is l l_in = Elem-path k (eD ⊗ y l) (bd ⊗ sum F.monoid n (λ c. p c ⊗ r c l))
          (mul-over o L scale h-scale scale-nonzero (get_or items l []) (item_is l) ∙ H.values l l_in
          ∙ value-is l l_in)

      whole : eD ⊗ bd ≡ es ⊗ ed ⊗ bd
      whole = ap (λ z. z ⊗ bd) (D-is ∙ F.mul_comm ed es)

      combines : (c : ℕ) → c < n → at k x c ≡ sum_of k n (λ l. k.mul (coordinate l) (entry k T l c))
      combines c c_in =
          get_or-map (fraction_over o L d) line c [] k.zero (omega (arith, c_in, h.width))
          ∙ ap (λ (z : Elem k). z.0) (sym (weights_combine F n X a r bd es a-is inverse-is p q ed p-is y eD bd
          (field_mul-ne-zero F eD bd D-ne (ne b.denominator B.polynomial nb)) whole y-is c c_in))
          ∙ sym (sum_of-elements k (M o L) n (λ l. y l ⊗ X l c))
          ∙ sum_of_congr k n (λ l. k.mul (coordinate l) (X l c).0) (λ l. k.mul (coordinate l) (entry k T l c))
          (λ l _. ap (k.mul (coordinate l)) (X-is l c c_in))

  pub coordinate_columns : AreCoordinateColumns o L n T d scale columns
  coordinate_columns = record {
    polynomial = h-scale;
    nonzero = scale-nonzero;
    matrix = columns-matrix;
    count = C.count;
    combines = λ line items h. combines line h items;
  }

module _ {E : Type 0} (o : Ops E) (L : FieldLaws o) (n : ℕ) (b : BasisForm E) (B : IsBasis o L n b) where
  -- the rows that a program reads
  module _ (rows : List (List (List E))) (rows-is : rows ≡ b.numerators) where
    pub rows_matrix : IsPolynomialMatrix o (length rows) rows
    rows_matrix = subst (λ z. IsPolynomialMatrix o (length z) z) (sym rows-is)
        (subst (λ m. IsPolynomialMatrix o m b.numerators) (sym (square_count o L n b B)) B.rows)

    pub rows_free : RowsAreIndependent o rows
    rows_free = subst (RowsAreIndependent o) (sym rows-is) (numerators_free o L n b B)

    pub inverse_is : (inverse : List (List (List E))) (s : List E) → IsScaledInverse o L (length rows) rows inverse s
        → IsScaledInverse o L n b.numerators inverse s
    inverse_is inverse s h = subst (λ m. IsScaledInverse o L m b.numerators inverse s) (square_count o L n b B)
        (subst (λ z. IsScaledInverse o L (length z) z inverse s) rows-is h)

  pub columns_are : (inverse read : List (List (List E))) (c : List E) (columns : List (List (List E)))
      → read ≡ inverse → length inverse ≡ n → c ≡ b.denominator
      → HasMatrix o (λ i j. (K o L).mul (as_fraction o c) (fraction_entry o read i j)) (length read) n columns
      → HasMatrix o (λ i j. (K o L).mul (as_fraction o b.denominator) (fraction_entry o inverse i j)) n n columns
  columns_are inverse read c columns e l d h =
      let T : List (List (List E)) → List E → ℕ → Type 0 = λ z u m.
      HasMatrix o (λ i j. (K o L).mul (as_fraction o u) (fraction_entry o z i j)) m n columns in
      subst (T inverse b.denominator) l (subst (λ u. T inverse u (length inverse)) d
      (subst (λ z. T z c (length z)) e h))
