-- Orders over the polynomials that grow at one finite place are bounded in number.
use Rattle.std.specs.Prelude.{◌≡◌, ◌<◌, ◌≤◌, ◌+◌, ℕ, zero, suc, List}
use Rattle.std.proofs.Common.{refl, sym, ◌∙◌, ap, subst, arith, ⊎_elim}
use Rattle.theory_rings.specs.Ring.{FieldOn}
use Rattle.theory_rings.specs.Ops.{Ops, FieldLaws}
use Rattle.theory_rings.specs.Elements.{Elem, Elem-path, elements}
use Rattle.theory_spaces.specs.Module.{AlgebraOn, module_of}
use Rattle.theory_spaces.specs.Linear.{Basis}
use Rattle.theory_spaces.specs.Algebra.{Nondegenerate}
use Rattle.theory_spaces.specs.Valuation.{ValuationOn}
use Rattle.theory_spaces.specs.Sets.{Within, Same, IsOrder}
use Rattle.theory_spaces.specs.Tuples.{Tuple, tuple_scale}
use Rattle.theory_spaces.proofs.Linear.Spaces.{coords_of}
use Rattle.theory_spaces.proofs.Linear.LatticeTests.{lattice_within}
use Rattle.theory_spaces.proofs.Tuples.Tuples.{Tuple-path, tuples as tuples_on}
use Rattle.theory_spaces.proofs.Tuples.TupleProducts.{one-product, product-one}
use Rattle.theory_orders.specs.Uniformizer.{UniformizerOn}
use Rattle.theory_orders.specs.Orders.{ProperlyWithin}
use Rattle.theory_orders.specs.Lattices.{Lattice, IsOrderAt, LatticeChain}
use Rattle.theory_orders.specs.Dual.{Dual}
use Rattle.theory_orders.proofs.Lattices.Dual.{in_dual}
use Rattle.theory_orders.proofs.Lattices.DualLattices.{dual_vec, dual_lattice, growth_by_two, proper_same}
use Rattle.theory_orders.proofs.LeftOrder.Lengths.{length_bounded}
use Rattle.theory_tables.specs.Structure.{Structure, IsOver, IsAssociative, tuple_ops}
use Rattle.theory_tables.specs.Algebras.{IsIdentity}
use Rattle.theory_tables.specs.Traces.{IsNondegenerate, trace as list_trace}
use Rattle.theory_tables.proofs.Algebras.Bridge.{algebra, algebra_is, row, as_tuple, IsTuple-of, table_basis, trace-is}
use Rattle.theory_fractions.specs.Fraction.{Pair}
use Rattle.theory_fractions.specs.FractionOps.{fraction_ops}
use Rattle.theory_fractions.specs.CommonDenominator.{as_fraction}
use Rattle.theory_fractions.proofs.FractionField.{fraction_laws}
use Rattle.theory_remainders.proofs.RemainderField.{remainder_laws}
use Rattle.theory_places.specs.Places.{Finite}
use Rattle.theory_places.specs.FractionPlaces.{IsIntegralAt, IsMonicIrreducible, FractionPlaceValuation, fractions}
use Rattle.theory_places.proofs.FractionPlaces.{fraction_places}
use Rattle.theory_bases.specs.TupleLattices.{TupleLattice, AreIndependentTuples, SpanOrder}
use Rattle.theory_bases.specs.Bases.{IsPolynomialFraction}
use Rattle.theory_left_orders.specs.FractionResidues.{ResidueRingsBy}
use Rattle.theory_left_orders.proofs.FractionResidues.{residue_rings}
use Rattle.theory_left_orders.proofs.ResidueRings.{q-p, res-multiple, coord_member, member_by_coord}
use Rattle.theory_left_orders.proofs.TupleLeftOrders.{B, to_basis, from_basis}
use Rattle.theory_growth.specs.Settled.{residues}
use Rattle.theory_growth.specs.Growths.{PolynomialLattice, IsGrowth, GrowthBound, BoundsExist}
use Rattle.theory_growth.proofs.Localized.{enlarge, order_of, clear, uncleared}
use Rattle.theory_growth.proofs.FractionPlaces.{localizes, residues_agree}
use Rattle.theory_growth.proofs.Vectors as vectors

-- ---- orders at a valuation ring

-- vectors that span an order, as the members of a set
abbrev pub OrderOn : {K V : Type 0} (F : FieldOn K) → ValuationOn F → (A : AlgebraOn F.ring V) → ℕ → (V → Type 0)
    → Type 0
OrderOn F Z A n T = (w : ℕ → _) × IsOrderAt F Z A n w × Same (Lattice F Z A n w) T

module _ {K V : Type 0} (F : FieldOn K) (Z : ValuationOn F) (A : AlgebraOn F.ring V) (n : ℕ)
    (B : Basis (module_of A) n) (non : Nondegenerate A n B) where
  abbrev Lat : (ℕ → V) → V → Type 0
  Lat v = Lattice F Z A n v

  abbrev Star : (V → Type 0) → V → Type 0
  Star = Dual F Z A n B

  module _ (v : ℕ → V) (O : IsOrderAt F Z A n v) where
    abbrev d : ℕ → V
    d = dual_vec F Z A n B non v O.independent

    abbrev e : Same (Star (Lat v)) (Lat d)
    e = dual_lattice F Z A n B non v O.independent

    two : ℕ → ℕ → V
    two zero = v
    two (suc i) = d

    -- a chain from an order to its dual
    some_chain : (j : ℕ) × LatticeChain F Z A j (Lat v) (Star (Lat v))
    unfolding two
    some_chain = ⊎_elim
        (λ (w : Within (Lat d) (Lat v)). (
          0,
          record {
            size = λ _. n;
            vec = λ _. v;
            starts = ((λ x h. h), (λ x h. h));
            ends = (in_dual F Z A n B v O, λ x h. w x (e.0 x h));
            rises = λ i l. absurd (omega arith);
          },
        ))
        (λ (out : Within (Lat d) (Lat v) → ⊥). (
          1,
          record {
            size = λ _. n;
            vec = two;
            starts = ((λ x h. h), (λ x h. h));
            ends = (e.1, e.0);
            rises = λ i l. let z : 0 ≡ i = omega arith in
                subst (λ i. ProperlyWithin (Lat (two i)) (Lat (two (suc i)))) z
                ((λ x h. e.0 x (in_dual F Z A n B v O x h)), out);
          },
        ))
        (lattice_within F Z (module_of A) n (coords_of (module_of A) n B) n d n v)

  -- after k growths there are chains of length 2·k
  long_chain : (k : ℕ) (v : ℕ → V) → IsOrderAt F Z A n v → (T : ℕ → V → Type 0) → Same (Lat v) (T 0)
      → ((i : ℕ) → i < k → OrderOn F Z A n (T (suc i))) → ((i : ℕ) → i < k → ProperlyWithin (T i) (T (suc i)))
      → (l : ℕ) × (k + k ≤ l) × LatticeChain F Z A l (Lat v) (Star (Lat v))
  long_chain zero v O T same each rises = let c = some_chain v O in (c.0, omega arith, c.1)
  long_chain (suc k) v O T same each rises =
      let w = each 0 (omega arith) in
      let c = long_chain k w.0 w.1 (λ i. T (suc i)) w.2 (λ i l. each (suc i) (omega arith))
      (λ i l. rises (suc i) (omega arith)) in
      let q = c.1 in
      let p = proper_same (T 0) (Lat v) (T 1) (Lat w.0) (same.1, same.0) (w.2.1, w.2.0) (rises 0 (omega arith)) in (
        suc (suc c.0),
        omega arith,
        growth_by_two F Z A n B non v w.0 O w.1 p c.0 c.2,
      )

  module _ (p q : K) (U : UniformizerOn F Z p q) (v : ℕ → V) (O : IsOrderAt F Z A n v) where
    -- growths from an order are bounded
    pub growths_bounded : (b : ℕ) × ((k : ℕ) (T : ℕ → V → Type 0) → Same (Lat v) (T 0)
        → ((i : ℕ) → i < k → OrderOn F Z A n (T (suc i)))
        → ((i : ℕ) → i < k → ProperlyWithin (T i) (T (suc i))) → k ≤ b)
    growths_bounded =
        let h = length_bounded F Z p q U A n B non v O.independent in (
          h.0,
          λ k T same each rises.
              let c = long_chain k v O T same each rises in
              let l = c.1 in
              let g = h.1 c.0 c.2 in
              omega arith,
        )

-- ---- over the polynomials

module _ {E : Type 0} (o : Ops E) (L : FieldLaws o) (A : Structure (Pair E)) (over : IsOver (fraction_ops o L) A)
    (assoc : IsAssociative (fraction_ops o L) A) (m : List E) (s : IsMonicIrreducible o m) where
  abbrev k : Ops (Pair E)
  k = fraction_ops o L

  abbrev M : FieldLaws k
  M = fraction_laws o L

  abbrev KF : FieldOn (Elem k)
  KF = fractions o L M

  abbrev N : FieldLaws (residues o L M m s)
  N = remainder_laws o L m s.irreducible

  abbrev R : ResidueRingsBy o L M m (residues o L M m s) N
  R = residue_rings o L M m s N

  abbrev IsP : Pair E → Type 0
  IsP = IsPolynomialFraction o

  abbrev P : Pair E → Type 0
  P = IsIntegralAt o (Finite m)

  abbrev q : Elem k
  q = KF.inv R.p

  -- a fraction that is integral at m, and whose product with m is a polynomial, is one
  polynomial_of_multiple : (a : Elem k) → P a.0 → IsP (KF.◌⊗◌ R.p a).0 → IsP a.0
  polynomial_of_multiple a ha hp =
      let b = KF.◌⊗◌ R.p a in
      let back : KF.◌⊗◌ q b ≡ a = q-p KF (λ x. IsP x.0) R.p q (elements (residues o L M m s) N) R.polynomials a in
      let zero = res-multiple KF (λ x. P x.0) R.p q (elements (residues o L M m s) N) R.at_place a ha in
      subst (λ (x : Elem k). IsP x.0) back
      ((R.polynomials.kernel b hp).0 (sym (residues_agree o L M m s N R b hp) ∙ zero))

  module _ (one : List (Pair E)) (is_one : IsIdentity k A one) where
    abbrev Alg : AlgebraOn KF.ring (Tuple k A.dim)
    Alg = algebra k M A over.of_elements assoc one is_one

    -- a tuple that is integral at m, and that m carries into the lattice, is in it
    module _ (a : List (List (Pair E))) (ind : AreIndependentTuples k A.dim a) where
      pub polynomial_member : (y : Tuple k A.dim) → TupleLattice k P A.dim a y.0
          → PolynomialLattice o L A a (tuple_scale k A.dim (as_fraction o m) y.0) → PolynomialLattice o L A a y.0
      unfolding B
      polynomial_member y at scaled =
          let Mod = module_of Alg in
          let r = residues o L M m s in
          let D = R.polynomials in
          let D' = R.at_place in
          let bs = B k M IsP R.p q r N D A over assoc one is_one a ind in
          let here = to_basis k M P R.p q r N D' A over assoc one is_one a ind y at in
          let z = Alg.◌•◌ R.p y in
          let low : PolynomialLattice o L A a z.0 = subst (PolynomialLattice o L A a)
          (ap (λ c. tuple_scale k A.dim c y.0) (sym R.p_is)
          ∙ sym (let is = algebra_is k M A over.of_elements assoc one is_one in is.scale-is R.p y)) scaled in
          let there = to_basis k M IsP R.p q r N D A over assoc one is_one a ind z low in
          from_basis k M IsP R.p q r N D A over assoc one is_one a ind y
          (member_by_coord KF (λ c. IsP c.0) R.p q (elements r N) D Mod A.dim bs y (λ i l.
          polynomial_of_multiple (bs.coord y i)
          (coord_member KF (λ c. P c.0) R.p q (elements r N) D' Mod A.dim bs y here i l)
          (subst (λ (c : Elem k). IsP c.0) (bs.coord-scale R.p y i)
          (coord_member KF (λ c. IsP c.0) R.p q (elements r N) D Mod A.dim bs z there i l))))

    -- a growth at m is proper there
    not_at_place : (a b : List (List (Pair E))) → AreIndependentTuples k A.dim a → IsGrowth o L A m a b
        → Within (TupleLattice k P A.dim b) (TupleLattice k P A.dim a) → ⊥
    not_at_place a b ind g w = g.proper (λ x h.
        let y = as_tuple k M A.dim x h.0 in
        polynomial_member a ind y (w x (enlarge k M IsP P R.p q (residues o L M m s) N R.polynomials R.at_place
        (localizes o L M m s) (residues_agree o L M m s N R) A over assoc one is_one b g.step.order.basis.shape y h))
        (g.step.over (tuple_scale k A.dim (as_fraction o m) x) (x, h, refl)))

  module _ (tuples : List (List (Pair E)))
      (O : SpanOrder k A (IsPolynomialFraction o) tuples) where
    abbrev one : List (Pair E)
    one = O.one

    abbrev Al : AlgebraOn KF.ring (Tuple k A.dim)
    Al = algebra k M A over.of_elements assoc one O.is_one

    pub V : FractionPlaceValuation o L M (Finite m)
    V = fraction_places o L M (Finite m) s

    -- m is a uniformizer there
    pub uniformizer : UniformizerOn KF V.valuation R.p q
    unfolding V
    uniformizer = subst (λ x. UniformizerOn KF V.valuation x (KF.inv x)) (Elem-path k V.p R.p (V.p_is ∙ sym R.p_is))
        V.uniformizer

    nondegenerate : IsNondegenerate k A
        → Nondegenerate Al A.dim (table_basis k M A over.of_elements assoc one O.is_one)
    nondegenerate non = record {
      only_zero = λ x h.
          let is = algebra_is k M A over.of_elements assoc one O.is_one in
          Tuple-path k M A.dim x Al.zero (non x.0 (record {
            tuple = IsTuple-of k M A.dim x;
            orthogonal = λ y ty.
                let z = as_tuple k M A.dim y ty in
                ap (list_trace k A) (sym (is.product-is x z))
                ∙ sym (trace-is k M A over.of_elements assoc one O.is_one (Al.◌⊗◌ x z))
                ∙ ap (λ (c : Elem k). c.0) (h z);
          }) ∙ sym is.zero-is);
    }

    -- an order over the polynomials, at the place
    order_here : (a : List (List (Pair E))) → SpanOrder k A (IsPolynomialFraction o) a
        → IsOrder (tuple_ops k A) one (TupleLattice k P A.dim a)
    order_here a G = order_of k M (IsPolynomialFraction o) P R.p q (residues o L M m s) N R.polynomials R.at_place
        (localizes o L M m s) (residues_agree o L M m s N R) A over assoc one O.is_one a G.basis.shape
        (let cs = A.constants in
        let e : G.one ≡ one = sym (one-product k M A.dim cs over.of_elements one O.is_one G.one G.is_one.tuple)
        ∙ product-one k M A.dim cs over.of_elements G.one G.is_one one O.is_one.tuple in
        subst (λ u. IsOrder (tuple_ops k A) u (PolynomialLattice o L A a)) e G.order)

    abbrev pub At : List (List (Pair E)) → Tuple k A.dim → Type 0
    At a x = TupleLattice k P A.dim a x.0

    pub order_on : (a : List (List (Pair E))) → SpanOrder k A (IsPolynomialFraction o) a
        → OrderOn KF V.valuation Al A.dim (At a)
    order_on a G = (
      row k M A.dim a G.basis.shape,
      vectors.order_at k M P V.valuation V.tells A over assoc one O.is_one a G.basis (order_here a G),
      (
        vectors.full_from k M P V.valuation V.tells A over assoc one O.is_one a G.basis,
        vectors.full_to k M P V.valuation V.tells A over assoc one O.is_one a G.basis,
      ),
    )

    -- a growth over the polynomials is one at the place
    pub rises : (a b : List (List (Pair E))) → SpanOrder k A (IsPolynomialFraction o) a → IsGrowth o L A m a b
        → ProperlyWithin (At a) (At b)
    rises a b G g = (
      λ x h.
          let shape = G.basis.shape in
          let f = clear k M (IsPolynomialFraction o) P R.p q (residues o L M m s) N R.polynomials R.at_place
          (localizes o L M m s) (residues_agree o L M m s N R) A over assoc one O.is_one a shape x h in
          uncleared k M (IsPolynomialFraction o) P R.p q (residues o L M m s) N R.polynomials R.at_place
          (localizes o L M m s) (residues_agree o L M m s N R) A over assoc one O.is_one b g.step.order.basis.shape f.0
          x (g.step.within ((tuples_on k M A.dim).◌•◌ f.0.u x).0 f.1),
      λ w. not_at_place one O.is_one a b G.basis g (λ x h. w (as_tuple k M A.dim x h.0) h),
    )

    -- the orders of a sequence
    pub all_orders : (c : ℕ) (t : ℕ → List (List (Pair E))) → t 0 ≡ tuples
        → ((i : ℕ) → i < c → IsGrowth o L A m (t i) (t (suc i)))
        → (i : ℕ) → i < suc c → SpanOrder k A (IsPolynomialFraction o) (t i)
    all_orders c t e each zero l = subst (SpanOrder k A (IsPolynomialFraction o)) (sym e) O
    all_orders c t e each (suc i) l = (each i (omega arith)).step.order

    pub bound : IsNondegenerate k A → (b : ℕ) × GrowthBound o L A m tuples b
    bound non =
        let B0 = table_basis k M A over.of_elements assoc one O.is_one in
        let start = order_on tuples O in
        let h = growths_bounded KF V.valuation Al A.dim B0 (nondegenerate non) V.p (KF.inv V.p) V.uniformizer start.0
        start.1 in (
          h.0,
          λ c t e each.
              let orders : (i : ℕ) → i < suc c → SpanOrder k A (IsPolynomialFraction o) (t i) =
              λ i l. all_orders c t e each i l in
              h.1 c (λ i. At (t i)) (subst (λ a. Same (Lattice KF V.valuation Al A.dim start.0) (At a)) (sym e) start.2)
              (λ i l. order_on (t (suc i)) (each i l).step.order)
              (λ i l. rises (t i) (t (suc i)) (orders i (omega arith)) (each i l)),
        )

module _ {E : Type 0} (o : Ops E) (L : FieldLaws o) (A : Structure (Pair E)) where
  pub bounds_exist : BoundsExist o L A
  bounds_exist over assoc non m s tuples O = bound o L A over assoc m s tuples O non
