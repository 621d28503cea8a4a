-- A ramified place by rows over the residue field.
use Rattle.std.specs.Prelude.{◌≡◌, ℕ, List, length}
use Rattle.std.proofs.Common.{refl, sym, ◌∙◌, ap, subst, arith}
use Rattle.theory_rings.specs.Ring.{FieldOn}
use Rattle.theory_rings.specs.Ops.{Ops, FieldLaws}
use Rattle.theory_rings.specs.Elements.{Elem, Elem-path, elements}
use Rattle.theory_spaces.specs.Module.{AlgebraOn, module_of}
use Rattle.theory_spaces.specs.Sets.{Within, Same, IsOrder, ring_ops}
use Rattle.theory_spaces.specs.Tuples.{Tuple, IsTableAlgebra, tuple_scale}
use Rattle.theory_spaces.specs.Linear.{InSpan}
use Rattle.theory_spaces.proofs.Linear.Modules.{InSpan-zero}
use Rattle.theory_spaces.proofs.Tuples.TupleProducts.{tuple_algebra}
use Rattle.theory_spaces.proofs.Tuples.Tuples.{Tuple-path}
use Rattle.theory_orders.specs.Uniformizer.{UniformizerOn}
use Rattle.theory_orders.specs.Lattices.{Lattice}
use Rattle.theory_tables.specs.Structure.{Structure, IsOver, IsAssociative, tuple_ops}
use Rattle.theory_tables.specs.Algebras.{SpansIdeal}
use Rattle.theory_tables.specs.Ramified.{AreTuples, RamifiedTable}
use Rattle.theory_tables.proofs.Algebras.Bridge.{algebra, algebra_is, row, row-is, as_tuple, ideal_row}
use Rattle.theory_fractions.specs.Fraction.{Pair}
use Rattle.theory_fractions.specs.FractionOps.{fraction_ops}
use Rattle.theory_places.specs.Places.{Finite}
use Rattle.theory_places.specs.FractionPlaces.{IsIntegralAt, IsMonicIrreducible, RamifiedAtPlace, fractions}
use Rattle.theory_places.specs.FractionPlaces.{FractionPlaceValuation}
use Rattle.theory_places.proofs.FractionPlaces.{fraction_places}
use Rattle.theory_bases.specs.TupleLattices.{TupleLattice, AreIndependentTuples}
use Rattle.theory_bases.specs.Bases.{IsPolynomialFraction}
use Rattle.theory_left_orders.specs.FractionResidues.{ResidueRingsBy}
use Rattle.theory_left_orders.specs.TupleResidues.{LeftOrderOf}
use Rattle.theory_left_orders.specs.TupleIdeals.{IsResidueTable, Preimage}
use Rattle.theory_left_orders.specs.ResidueAlgebras.{Over}
use Rattle.theory_left_orders.proofs.TupleLeftOrders.{B, from_basis}
use Rattle.theory_left_orders.proofs.TupleIdeals.{associative, laws, residue_one, vectors_order, reduces, up_to}
use Rattle.theory_left_orders.proofs.TupleIdeals.{up_from}
use Rattle.theory_growth.specs.Settled.{residues, IsOrderModulo, IsPreimageLattice, residue_algebra}
use Rattle.theory_growth.specs.Growths.{PolynomialLattice}
use Rattle.theory_growth.specs.RamifiedRows.{IsRamifiedByRows, RamifiedByRows}
use Rattle.theory_growth.proofs.Localized.{order_of, table_of, preimage_of, left_order_of, clear, uncleared}
use Rattle.theory_growth.proofs.FractionPlaces.{localizes, residues_agree}
use Rattle.theory_growth.proofs.Placed as placed
use Rattle.theory_growth.proofs.Bounds.{polynomial_member}
use Rattle.theory_growth.proofs.SameAlgebras.{RamifiedSets, ramified_sets}

module _ {E : Type 0} (o : Ops E) (L : FieldLaws o) (M : FieldLaws (fraction_ops o L)) (m : List E)
    (s : IsMonicIrreducible o m) (N : FieldLaws (residues o L M m s))
    (R : ResidueRingsBy o L M m (residues o L M m s) N)
    (A : Structure (Pair E)) (over : IsOver (fraction_ops o L) A) (assoc : IsAssociative (fraction_ops o L) A)
    (tuples : List (List (Pair E))) (cs : List (List E)) (O : IsOrderModulo o L M m s N R A tuples cs)
    (rows : List (List (List E)))
    (SI : SpansIdeal (residues o L M m s) (residue_algebra o L M m s N R A tuples cs) rows)
    (js : List (List (Pair E))) (ind : AreIndependentTuples (fraction_ops o L) A.dim js)
    (pre : IsPreimageLattice o L M m s N R A tuples rows js) where
  abbrev k : Ops (Pair E)
  k = fraction_ops o L

  abbrev r : Ops (List E)
  r = residues o L M m s

  abbrev K : FieldOn (Elem k)
  K = fractions o L M

  abbrev n : ℕ
  n = A.dim

  abbrev p : Elem k
  p = R.p

  abbrev q : Elem k
  q = K.inv p

  abbrev P : Pair E → Type 0
  P = IsIntegralAt o (Finite m)

  abbrev IsP : Pair E → Type 0
  IsP = IsPolynomialFraction o

  abbrev one : List (Pair E)
  one = O.order.one

  abbrev Alg : AlgebraOn K.ring (Tuple k n)
  Alg = algebra k M A over.of_elements assoc one O.order.is_one

  is : IsTableAlgebra k M n A.constants Alg
  is = algebra_is k M A over.of_elements assoc one O.order.is_one

  abbrev order : IsOrder (tuple_ops k A) one (TupleLattice k P n tuples)
  order = order_of k M IsP P p q r N R.polynomials R.at_place (localizes o L M m s) (residues_agree o L M m s N R) A
      over assoc one O.order.is_one tuples O.order.basis.shape O.order.order

  abbrev table : IsResidueTable k M P p q r N R.at_place A tuples cs
  table = table_of k M IsP P p q r N R.polynomials R.at_place (localizes o L M m s) (residues_agree o L M m s N R) A
      over assoc one O.order.is_one tuples cs O.table

  here : Same (Preimage k M P p q r N R.at_place A tuples rows) (TupleLattice k P n js)
  here = preimage_of k M IsP P p q r N R.polynomials R.at_place (localizes o L M m s) (residues_agree o L M m s N R) A
      over assoc one O.order.is_one tuples O.order.basis.shape rows SI.shape js ind.shape pre

  are_tuples : (rs : List (List (Pair E))) (h : AreIndependentTuples k n rs) → AreTuples k M A rs (row k M n rs h.shape)
  are_tuples rs h = record {
    count = h.count;
    item = λ i l. row-is k M n rs h.shape i (omega (arith, l, h.count));
  }

  abbrev C : Structure (List E)
  C = residue_algebra o L M m s N R A tuples cs

  abbrev RA : AlgebraOn (elements r N).ring (Tuple r n)
  RA = algebra r N C O.table.shape.of_elements
      (associative k M IsP p q r N R.polynomials A over assoc one O.order.is_one tuples O.order.basis O.order.order cs
      O.table)
      (laws k M IsP p q r N R.polynomials A over assoc one O.order.is_one tuples O.order.basis O.order.order cs
      O.table).one.0
      (residue_one k M IsP p q r N R.polynomials A over assoc one O.order.is_one tuples O.order.basis O.order.order cs
      O.table)

  abbrev below : ℕ → Tuple r n
  below = ideal_row r N C O.table.shape.of_elements
      (associative k M IsP p q r N R.polynomials A over assoc one O.order.is_one tuples O.order.basis O.order.order cs
      O.table)
      (laws k M IsP p q r N R.polynomials A over assoc one O.order.is_one tuples O.order.basis O.order.order cs
      O.table).one.0
      (residue_one k M IsP p q r N R.polynomials A over assoc one O.order.is_one tuples O.order.basis O.order.order cs
      O.table) rows SI

  -- m times one is in the preimage
  m_one : PolynomialLattice o L A js (Alg.◌•◌ p Alg.one).0
  m_one =
      let D = R.polynomials in
      let x = Alg.◌•◌ p Alg.one in
      let h = (reduces k M IsP p q r N D A over assoc one O.order.is_one tuples O.order.basis O.order.order cs
      O.table).reduction in
      let v = vectors_order k M IsP p q r N D A over assoc one O.order.is_one tuples O.order.basis O.order.order cs
      O.table in
      let many : Over K (λ c. IsP c.0) p q (elements r N) D Alg n
      (B k M IsP p q r N D A over assoc one O.order.is_one tuples O.order.basis) x = (Alg.one, v.one_in, refl) in
      let x_in = h.kernel_in x many in
      pre.0 x.0 (up_to k M IsP p q r N D A over assoc one O.order.is_one tuples O.order.basis O.order.order cs O.table
      rows SI x (
        x_in,
        subst (InSpan (module_of RA) (length rows) below) (sym ((h.kernel x x_in).1 many))
            (InSpan-zero (module_of RA) (length rows) below),
      ))

  -- at a valuation ring of the place, with m as uniformizer
  module _ (V : FractionPlaceValuation o L M (Finite m)) where
    V-p : V.p ≡ p
    V-p = Elem-path k V.p p (V.p_is ∙ sym R.p_is)

    U : UniformizerOn K V.valuation p q
    U = subst (λ x. UniformizerOn K V.valuation x (K.inv x)) V-p V.uniformizer

    pub to_place : IsRamifiedByRows o L M m s N R A tuples cs rows js → RamifiedAtPlace o L M A (Finite m) tuples js
    to_place h = record {
      at_place = V;
      ramified = subst (λ x. RamifiedTable k M A V.valuation x tuples js) (sym V-p) (record {
        algebra = Alg;
        is_table = is;
        order = row k M n tuples O.order.basis.shape;
        is_order = are_tuples tuples O.order.basis;
        radical = row k M n js ind.shape;
        is_radical = are_tuples js ind;
        ramified = placed.ramified_by_rows k M P p q r N R.at_place V.valuation V.tells U A over assoc one
            O.order.is_one tuples O.order.basis order cs table rows SI js ind here h.vanishes h.maximal
            (left_order_of k M IsP P p q r N R.polynomials R.at_place (localizes o L M m s)
            (residues_agree o L M m s N R) A over assoc one O.order.is_one tuples O.order.basis.shape js ind.shape
            h.left_order) h.not_zero;
      });
    }

    -- the claim for the algebra of the table
    claimed : RamifiedTable k M A V.valuation V.p tuples js
        → RamifiedSets (ring_ops Alg.ring) Alg.◌•◌ p
        (Lattice K V.valuation Alg n (row k M n tuples O.order.basis.shape))
        (Lattice K V.valuation Alg n (row k M n js ind.shape))
    claimed t =
        let T = subst (λ x. RamifiedTable k M A V.valuation x tuples js) V-p t in
        let path = Tuple-path k M n in
        let B = T.algebra in
        let h = T.is_table in
        ramified_sets K V.valuation p B Alg
        (path B.zero Alg.zero (h.zero-is ∙ sym is.zero-is))
        (λ x y. path (B.◌⊕◌ x y) (Alg.◌⊕◌ x y) (h.add-is x y ∙ sym (is.add-is x y)))
        (λ x. path (B.neg x) (Alg.neg x) (h.neg-is x ∙ sym (is.neg-is x)))
        (λ x y. path (B.◌⊗◌ x y) (Alg.◌⊗◌ x y) (h.product-is x y ∙ sym (is.product-is x y)))
        (λ a x. path (B.◌•◌ a x) (Alg.◌•◌ a x) (h.scale-is a x ∙ sym (is.scale-is a x)))
        n T.order T.radical (row k M n tuples O.order.basis.shape) (row k M n js ind.shape)
        (λ i l. path (T.order i) (row k M n tuples O.order.basis.shape i)
        (T.is_order.item i l ∙ sym ((are_tuples tuples O.order.basis).item i l)))
        (λ i l. path (T.radical i) (row k M n js ind.shape i)
        (T.is_radical.item i l ∙ sym ((are_tuples js ind).item i l)))
        T.ramified

    -- the left order over the polynomials lies in that at the place
    left_here : Within (LeftOrderOf k M IsP p q r N R.polynomials A js) (LeftOrderOf k M P p q r N R.at_place A js)
    unfolding tuple_algebra
    left_here a g = (
      g.0,
      λ y hy.
          let x = as_tuple k M n a g.0 in
          let z = as_tuple k M n y hy.0 in
          let f = clear k M IsP P p q r N R.polynomials R.at_place (localizes o L M m s) (residues_agree o L M m s N R)
          A over assoc one O.order.is_one js ind.shape z hy in
          let w = Alg.◌•◌ f.0.u z in
          subst (TupleLattice k P n js) (is.product-is x z)
          (uncleared k M IsP P p q r N R.polynomials R.at_place (localizes o L M m s) (residues_agree o L M m s N R) A
          over assoc one O.order.is_one js ind.shape f.0 (Alg.◌⊗◌ x z)
          (subst (λ (t : Tuple k n). TupleLattice k IsP n js t.0) (Alg.scale-right f.0.u x z)
          (subst (TupleLattice k IsP n js) (sym (is.product-is x w)) (g.1 w.0 f.1)))),
    )

    pub from_place : RamifiedTable k M A V.valuation V.p tuples js → IsRamifiedByRows o L M m s N R A tuples cs rows js
    from_place t =
        let c = claimed t in
        record {
          vanishes = placed.rows_vanish k M P p q r N R.at_place V.valuation V.tells U A over assoc one O.order.is_one
              tuples O.order.basis order cs table rows SI js ind here c.radical;
          maximal = placed.rows_maximal k M P p q r N R.at_place V.valuation V.tells U A over assoc one O.order.is_one
              tuples O.order.basis order cs table rows SI js ind here c.radical c.simple;
          not_zero = placed.some_rows k M P p q r N R.at_place V.valuation V.tells U A over assoc one O.order.is_one
              tuples O.order.basis order cs table rows SI js ind here c.not_multiple;
          left_order = λ a g.
              let x = as_tuple k M n a g.0 in
              let u = Alg.◌•◌ p Alg.one in
              let y = Alg.◌⊗◌ x u in
              let at = placed.left_by_lists k M P p q r N R.at_place V.valuation V.tells U A over assoc one
              O.order.is_one tuples O.order.basis order cs table rows SI js ind here c.left_order a (left_here a g) in
              let low = from_basis k M IsP p q r N R.polynomials A over assoc one O.order.is_one tuples O.order.basis y
              (up_from k M IsP p q r N R.polynomials A over assoc one O.order.is_one tuples O.order.basis O.order.order
              cs O.table rows SI y (pre.1 y.0 (subst (PolynomialLattice o L A js) (sym (is.product-is x u))
              (g.1 u.0 m_one)))).0
              in
              polynomial_member o L A over assoc m s one O.order.is_one tuples O.order.basis x at
              (subst (PolynomialLattice o L A tuples) (ap (λ (z : Tuple k n). z.0) (Alg.scale-right p x Alg.one
              ∙ ap (Alg.◌•◌ p) (Alg.mul-one x)) ∙ is.scale-is p x ∙ ap (λ c. tuple_scale k n c a) R.p_is) low);
        }

pub ramified_by_rows : {E : Type 0} (o : Ops E) (L : FieldLaws o) (M : FieldLaws (fraction_ops o L))
    → RamifiedByRows o L M
ramified_by_rows o L M m s N R A over assoc tuples cs O rows SI js ind pre = (
  λ h. from_place o L M m s N R A over assoc tuples cs O rows SI js ind pre h.at_place h.ramified,
  to_place o L M m s N R A over assoc tuples cs O rows SI js ind pre (fraction_places o L M (Finite m) s),
)
