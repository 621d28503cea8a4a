-- Combinations of the rows of a basis by polynomials over a multiple of its denominator, and the left order that they
-- and the basis span.
use Rattle.std.specs.Prelude.{◌≡◌, ◌≢◌, ◌<◌, ◌*◌, ℕ, List, [], ◌++◌, length, get_or}
use Rattle.std.proofs.Common.{refl, sym, ◌∙◌, ap, subst, arith}
use Rattle.std.proofs.lemmas.List.Elements.{All-append, All-get_or}
use Rattle.theory_rings.specs.Ring.{FieldOn}
use Rattle.theory_rings.specs.Ops.{Ops, IsElem, FieldLaws}
use Rattle.theory_rings.specs.Elements.{Elem, Elem-path}
use Rattle.theory_rings.specs.Sum.{at, sum, sum_of, table}
use Rattle.theory_rings.proofs.Rings.Elements.{sum_of-elements, sum_of_congr}
use Rattle.theory_rings.proofs.Rings.Fields.{mul-inv, field_mul-ne-zero}
use Rattle.theory_rings.proofs.Rings.Solver.{◌⊠◌, ring3, ring4}
use Rattle.theory_rings.proofs.Sums.Lists.{length-table, get_or-table, table_congr, All-table}
use Rattle.theory_rings.proofs.Sums.Sums.{sum_congr, sum-mul}
use Rattle.theory_fractions.specs.PolynomialLists.{IsPolynomialList}
use Rattle.theory_fractions.specs.Fraction.{Pair}
use Rattle.theory_fractions.specs.CommonDenominator.{as_fraction}
use Rattle.theory_fractions.proofs.CommonDenominators.{nonzero_of_monic}
use Rattle.theory_fractions.proofs.ElementClauses.{zero_is, ne_zero}
use Rattle.theory_remainders.specs.RemainderOps.{remainder_ops}
use Rattle.theory_remainders.proofs.RemainderField.{monic}
use Rattle.theory_remainders.proofs.RemainderValues.{zero_is as remainder_zero}
use Rattle.theory_places.specs.Places.{Finite}
use Rattle.theory_places.specs.FractionPlaces.{IsIntegralAt, IsMonicIrreducible}
use Rattle.theory_reductions.specs.Reductions.{IsResidueOf}
use Rattle.theory_spaces.specs.Tuples.{IsTuple, constant}
use Rattle.theory_spaces.proofs.Tuples.Tuples.{IsTuple-table, at-table}
use Rattle.theory_tables.specs.Matrix.{entry, IsMatrix}
use Rattle.theory_tables.specs.Structure.{Structure, IsOver, IsAssociative}
use Rattle.theory_tables.specs.Subspace.{SpansKernel}
use Rattle.theory_rows.specs.Rows.{IsPolynomialRow, IsPolynomialMatrix}
use Rattle.theory_rows.proofs.LiftedRows.{matrix-over, matrix-trimmed}
use Rattle.theory_bases.specs.Bases.{BasisForm, IsBasis, IsPolynomialFraction, tuples_of}
use Rattle.theory_bases.specs.TupleLattices.{SameTupleLattice, AreIndependentTuples}
use Rattle.theory_left_orders.specs.TupleResidues.{AreProductCoordinates}
use Rattle.theory_left_orders.proofs.FractionResidues.{polynomial_lattices_at_places}
use Rattle.theory_bases.proofs.FractionsOver.{K, M, count-tuples, entry-tuples}
use Rattle.theory_bases.proofs.PolynomialDivisors.{fraction_field, up}
use Rattle.spl_order.specs.Values.{fraction_entry, product_entry}
use Rattle.spl_order.specs.Lifts.{combined_tuples, multiple_tuples}
use Rattle.spl_order.specs.LeftOrders.{SpansIdealOver, SpansLeftOrder, product_matrix}
use Rattle.spl_order.proofs.LeftOrders.{left_order_at_place, left_order_over_polynomials}
use Rattle.spl_order.proofs.RemainderRows.{lifted_matrix}
use Rattle.spl_order.proofs.LiftedLattices.{values-tuples}

module _ {E : Type 0} (o : Ops E) (L : FieldLaws o) (n : ℕ) (m : List E) (hm : IsPolynomialList o m) (nm : m ≢ [])
    (b : BasisForm E) (basis : IsBasis o L n b) (c : List E) (hc : IsPolynomialList o c)
    (c-is : as_fraction o c ≡ (let k : Ops (Pair E) = K o L in k.mul (as_fraction o m) (as_fraction o b.denominator)))
  where
    abbrev k : Ops (Pair E)
    k = K o L

    abbrev F : FieldOn (Elem k)
    F = fraction_field o L

    abbrev d : List E
    d = b.denominator

    abbrev rows : List (List (List E))
    rows = b.numerators

    abbrev T : List (List (Pair E))
    T = tuples_of o L b

    pub d-nonzero : d ≢ []
    d-nonzero = nonzero_of_monic o L d (let l = basis.least in l.monic)

    abbrev fc : Elem k
    fc = up o L c hc

    abbrev fm : Elem k
    fm = up o L m hm

    abbrev fd : Elem k
    fd = up o L d basis.polynomial

    not_zero : (u : List E) (hu : IsPolynomialList o u) → u ≢ [] → up o L u hu ≢ F.zero
    not_zero u hu nu z = ne_zero o L (as_fraction o u) nu (ap (λ (t : Elem k). t.0) z)

    split : fc ≡ F.◌⊗◌ fm fd
    split = Elem-path k fc (F.◌⊗◌ fm fd) c-is

    pub c-nonzero : c ≢ []
    c-nonzero e = field_mul-ne-zero F fm fd (not_zero m hm nm) (not_zero d basis.polynomial d-nonzero)
        (sym split ∙ Elem-path k fc F.zero (ap (as_fraction o) e ∙ nil-zero))
      where
        nil-zero : as_fraction o [] ≡ k.zero
        nil-zero = sym (zero_is o L)

    -- m over c is 1 over the denominator
    cancelled : F.◌⊗◌ fm (F.inv fc) ≡ F.inv fd
    cancelled =
        let e : F.◌⊗◌ fd (F.inv fd) ≡ F.one = mul-inv F fd (not_zero d basis.polynomial d-nonzero) in
        let g : F.◌⊗◌ fc (F.inv fc) ≡ F.one = mul-inv F fc (not_zero c hc c-nonzero) in
        sym (F.mul-one (F.◌⊗◌ fm (F.inv fc))) ∙ ap (F.◌⊗◌ (F.◌⊗◌ fm (F.inv fc))) (sym e)
        ∙ ring4 F.cring (λ m ic d id. ((m ⊠ ic) ⊠ (d ⊠ id), ((m ⊠ d) ⊠ ic) ⊠ id)) refl fm (F.inv fc) fd (F.inv fd)
        ∙ ap (λ x. F.◌⊗◌ (F.◌⊗◌ x (F.inv fc)) (F.inv fd)) (sym split)
        ∙ ap (λ x. F.◌⊗◌ x (F.inv fd)) g ∙ F.one-mul (F.inv fd)

    item : ℕ → ℕ → Elem k
    item i j = up o L (get_or (get_or rows i []) j [])
        (record { over = matrix-over o L n rows basis.rows i j; trimmed = matrix-trimmed o L n rows basis.rows i j })

    rows-count : length rows ≡ n
    rows-count = sym (count-tuples o L b) ∙ (let i = basis.independent in i.count)

    -- the multiples over c are the tuples of the basis
    pub multiples-are : multiple_tuples o L n c m rows ≡ T
    unfolding item
    multiples-are = table_congr n (λ i. table n (λ j. k.mul (k.mul (as_fraction o m) (fraction_entry o rows i j)) (F.inv fc).0))
        (λ i. table n (λ j. k.mul (fraction_entry o rows i j) (F.inv fd).0))
        (λ i _. table_congr n (λ j. k.mul (k.mul (as_fraction o m) (fraction_entry o rows i j)) (F.inv fc).0)
        (λ j. k.mul (fraction_entry o rows i j) (F.inv fd).0)
        (λ j _. ap (λ (x : Elem k). x.0)
        (ring3 F.cring (λ m r ic. ((m ⊠ r) ⊠ ic, r ⊠ (m ⊠ ic))) refl fm (item i j) (F.inv fc)
        ∙ ap (F.◌⊗◌ (item i j)) cancelled)))
        ∙ sym (values-tuples o L n d basis.polynomial d-nonzero (fraction_entry o rows) n rows (record {
          count = rows-count;
          each = λ i i_in. let R = All-get_or (IsPolynomialRow o n) rows i [] (omega (arith, i_in, rows-count)) basis.rows in
              record {
                count = R.width;
                polynomials = λ j _. record {
                  over = matrix-over o L n rows basis.rows i j;
                  trimmed = matrix-trimmed o L n rows basis.rows i j;
                };
                values = λ j _. refl;
              };
        }))

    module _ (weights : List (List (List E))) (hw : IsPolynomialMatrix o n weights) where
      abbrev pub grown : List (List (Pair E))
      grown = combined_tuples o L n c weights rows

      weight : ℕ → ℕ → Elem k
      weight i l = up o L (get_or (get_or weights i []) l [])
          (record { over = matrix-over o L n weights hw i l; trimmed = matrix-trimmed o L n weights hw i l })

      total : ℕ → ℕ → Elem k
      total i j = sum F.monoid n (λ l. F.◌⊗◌ (weight i l) (item l j))

      total-is : (i j : ℕ) → product_entry o L n weights rows i j ≡ (total i j).0
      unfolding total weight item
      total-is i j = sum_of-elements k (M o L) n (λ l. F.◌⊗◌ (weight i l) (item l j))

      abbrev value : ℕ → ℕ → Pair E
      value i j = k.mul (product_entry o L n weights rows i j) (F.inv fc).0

      value-is : (i j : ℕ) → value i j ≡ (F.◌⊗◌ (total i j) (F.inv fc)).0
      value-is i j = ap (λ x. k.mul x (F.inv fc).0) (total-is i j)

      pub grown-shape : IsMatrix k n grown
      grown-shape = All-table (IsTuple k n) (length weights) (λ i. table n (value i)) (λ i _.
          IsTuple-table k n (value i)
          (λ j _. subst (IsElem k) (sym (value-is i j)) (F.◌⊗◌ (total i j) (F.inv fc)).1))

      pub grown-count : length grown ≡ length weights
      grown-count = length-table (length weights) (λ i. table n (value i))

      grown-entry : (i j : ℕ) → i < length weights → j < n → entry k grown i j ≡ value i j
      grown-entry i j i_in j_in = ap (λ row. at k row j) (get_or-table (length weights) (λ i. table n (value i)) i [] i_in)
          ∙ at-table k n (value i) j j_in

      T-entry : (i j : ℕ) → i < n → j < n → entry k T i j ≡ (F.◌⊗◌ (item i j) (F.inv fd)).0
      unfolding item
      T-entry i j i_in j_in = entry-tuples o L n b basis.rows i j (omega (arith, i_in, rows-count)) j_in

      pub grown-is : (i j : ℕ) → i < length weights → j < n → k.mul (as_fraction o m) (entry k grown i j)
          ≡ sum_of k n (λ l. k.mul (as_fraction o (get_or (get_or weights i []) l [])) (entry k T l j))
      unfolding weight total
      grown-is i j i_in j_in =
          let id = F.inv fd in
          ap (k.mul (as_fraction o m)) (grown-entry i j i_in j_in ∙ value-is i j)
          ∙ ap (λ (x : Elem k). x.0)
          (ring3 F.cring (λ m s ic. (m ⊠ (s ⊠ ic), s ⊠ (m ⊠ ic))) refl fm (total i j) (F.inv fc)
          ∙ ap (F.◌⊗◌ (total i j)) cancelled
          ∙ sum-mul F.ring n id (λ l. F.◌⊗◌ (weight i l) (item l j))
          ∙ sum_congr F.monoid n (λ l. F.◌⊗◌ (F.◌⊗◌ (weight i l) (item l j)) id)
          (λ l. F.◌⊗◌ (weight i l) (F.◌⊗◌ (item l j) id)) (λ l _. F.mul_assoc (weight i l) (item l j) id))
          ∙ sym (sum_of-elements k (M o L) n (λ l. F.◌⊗◌ (weight i l) (F.◌⊗◌ (item l j) id)))
          ∙ sum_of_congr k n (λ l. k.mul (weight i l).0 (F.◌⊗◌ (item l j) id).0)
          (λ l. k.mul (as_fraction o (get_or (get_or weights i []) l [])) (entry k T l j))
          (λ l l_in. ap (k.mul (weight i l).0) (sym (T-entry l j l_in j_in)))

-- a basis of the lattice of these combinations and the basis spans the left order
module _ {E : Type 0} (o : Ops E) (L : FieldLaws o) (m : List E) (s : IsMonicIrreducible o m)
    (A : Structure (Pair E)) (over : IsOver (K o L) A) (assoc : IsAssociative (K o L) A)
    (order : List (List (Pair E))) (b : BasisForm E) (basis : IsBasis o L A.dim b)
    (cs : List (List E)) (coordinate : ℕ → ℕ → ℕ → Pair E)
    (coordinates : AreProductCoordinates (K o L) A (tuples_of o L b) coordinate)
    (residues : (i j l : ℕ) → i < A.dim → j < A.dim → l < A.dim
    → IsResidueOf o m (remainder_ops o L m (monic o L m s.irreducible)) (coordinate i j l)
    (constant (remainder_ops o L m (monic o L m s.irreducible)) A.dim cs i j l))
    (rows : List (List (List E))) (shape : IsMatrix (remainder_ops o L m (monic o L m s.irreducible)) A.dim rows)
    (spans : SpansKernel (remainder_ops o L m (monic o L m s.irreducible)) (A.dim * A.dim) A.dim
    (product_matrix (remainder_ops o L m (monic o L m s.irreducible)) A.dim cs) rows)
    (c : List E) (hc : IsPolynomialList o c)
    (c-is : as_fraction o c ≡ (let k : Ops (Pair E) = K o L in k.mul (as_fraction o m) (as_fraction o b.denominator)))
    (out : BasisForm E) (out_basis : IsBasis o L A.dim out)
    (same : SameTupleLattice (K o L) (IsPolynomialFraction o) A.dim
    (combined_tuples o L A.dim c rows b.numerators ++ multiple_tuples o L A.dim c m b.numerators)
    (tuples_of o L out)) where
  abbrev r : Ops (List E)
  r = remainder_ops o L m (monic o L m s.irreducible)

  abbrev n : ℕ
  n = A.dim

  abbrev ideal : List (List (Pair E))
  ideal = tuples_of o L b

  hm : IsPolynomialList o m
  hm = (let i = s.irreducible in i.polynomial)

  nm : m ≢ []
  nm = nonzero_of_monic o L m s.monic

  abbrev ind : AreIndependentTuples (K o L) n ideal
  ind = basis.independent

  zero-is : r.zero ≡ []
  zero-is = remainder_zero o L m s.irreducible

  item-is : (i l : ℕ) → entry r rows i l ≡ get_or (get_or rows i []) l []
  item-is i l = ap (get_or (get_or rows i []) l) zero-is

  weights-is : IsPolynomialMatrix o n rows
  weights-is = lifted_matrix o L m s n rows shape

  abbrev more : List (List (Pair E))
  more = grown o L n m hm nm b basis c hc c-is rows weights-is

  more-shape : IsMatrix (K o L) n more
  more-shape = grown-shape o L n m hm nm b basis c hc c-is rows weights-is

  more-is : (i t : ℕ) → i < length rows → t < n → (K o L).mul (as_fraction o m) (entry (K o L) more i t)
      ≡ sum_of (K o L) n (λ l. (K o L).mul (as_fraction o (entry r rows i l)) (entry (K o L) ideal l t))
  more-is i t i_in t_in = grown-is o L n m hm nm b basis c hc c-is rows weights-is i t i_in t_in
      ∙ sum_of_congr (K o L) n
      (λ l. (K o L).mul (as_fraction o (get_or (get_or rows i []) l [])) (entry (K o L) ideal l t))
      (λ l. (K o L).mul (as_fraction o (entry r rows i l)) (entry (K o L) ideal l t))
      (λ l _. ap (λ x. (K o L).mul (as_fraction o x) (entry (K o L) ideal l t)) (sym (item-is i l)))

  same' : SameTupleLattice (K o L) (IsPolynomialFraction o) n (more ++ ideal) (tuples_of o L out)
  same' = subst (λ ts. SameTupleLattice (K o L) (IsPolynomialFraction o) n (more ++ ts) (tuples_of o L out))
      (multiples-are o L n m hm nm b basis c hc c-is) same

  pub spans_at_place : SpansIdealOver o L (IsIntegralAt o (Finite m)) A m order ideal
      → SpansLeftOrder o L (IsIntegralAt o (Finite m)) A ideal (tuples_of o L out)
  spans_at_place I =
      let a = left_order_at_place o L m s A over assoc order ideal ind cs coordinate coordinates residues rows shape spans
      more more-shape (grown-count o L n m hm nm b basis c hc c-is rows weights-is) more-is I in
      let z = polynomial_lattices_at_places o L m s n (more ++ ideal) (tuples_of o L out)
      (All-append (IsTuple (K o L) n) more ideal more-shape ind.shape)
      (let t = out_basis.independent in t.shape) same' in
      (λ x h. z.0 x (a.0 x h), λ x h. a.1 x (z.1 x h))

  pub spans_over_polynomials : SpansIdealOver o L (IsPolynomialFraction o) A m order ideal
      → SpansLeftOrder o L (IsPolynomialFraction o) A ideal (tuples_of o L out)
  spans_over_polynomials I =
      let a = left_order_over_polynomials o L m s A over assoc order ideal ind cs coordinate coordinates residues rows
      shape spans more more-shape (grown-count o L n m hm nm b basis c hc c-is rows weights-is) more-is I in
      (λ x h. same'.0 x (a.0 x h), λ x h. a.1 x (same'.1 x h))
