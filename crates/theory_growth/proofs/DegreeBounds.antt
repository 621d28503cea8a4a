-- The dimension times the degree of a polynomial that carries the dual of an order into it bounds how many orders grow
-- from it one after the other.
use Rattle.std.specs.Prelude.{◌≡◌, ◌≢◌, ◌<◌, ◌≤◌, ◌*◌, ℕ, zero, suc, IsTrue, List, [], length}
use Rattle.std.proofs.Common.{refl, sym, ◌∙◌, ap, ap₂, subst, arith, ⊎_elim}
use Rattle.theory_rings.specs.Ring.{FieldOn}
use Rattle.theory_rings.specs.Ops.{Ops, FieldLaws}
use Rattle.theory_rings.specs.Elements.{Elem, elements}
use Rattle.theory_rings.specs.Polynomial.{degree}
use Rattle.theory_rings.specs.Power.{power}
use Rattle.theory_rings.proofs.Rings.RingLaws.{zero-mul}
use Rattle.theory_rings.proofs.Rings.Fields.{mul-inv}
use Rattle.theory_rings.proofs.Rings.Solver.{◌⊠◌, ring5}
use Rattle.theory_spaces.specs.Module.{ModuleOn, AlgebraOn, module_of}
use Rattle.theory_spaces.specs.Linear.{Basis}
use Rattle.theory_spaces.specs.Form.{trace_form}
use Rattle.theory_spaces.specs.Lattice.{DualOf}
use Rattle.theory_spaces.specs.Sets.{Within}
use Rattle.theory_spaces.specs.Tuples.{Tuple, IsTableAlgebra}
use Rattle.theory_spaces.proofs.Forms.TraceForms.{trace_form_bilinear}
use Rattle.theory_spaces.proofs.Linear.LatticeSpans.{comb_in_closed, lattice-zero, lattice-add, lattice-scale}
use Rattle.theory_spaces.proofs.Linear.LatticeSpans.{lattice-member, lattice_trans}
use Rattle.theory_spaces.proofs.Linear.LatticeTests.{all_or_not, lattice_test, lattice_test-in, in-lattice_test}
use Rattle.theory_spaces.proofs.Linear.Modules.{zero-scale}
use Rattle.theory_spaces.proofs.Linear.Spaces.{coords_of}
use Rattle.theory_spaces.proofs.Tuples.TupleProducts.{tuple_algebra}
use Rattle.theory_orders.proofs.Lattices.Dual.{in_dual}
use Rattle.theory_tables.specs.Structure.{Structure, IsOver, IsAssociative}
use Rattle.theory_tables.specs.Traces.{trace as list_trace}
use Rattle.theory_tables.proofs.Algebras.Bridge.{algebra, algebra_is, row, as_tuple, IsTuple-of, table_basis, trace-is}
use Rattle.theory_fractions.specs.Fraction.{Pair}
use Rattle.theory_fractions.specs.FractionOps.{fraction_ops}
use Rattle.theory_fractions.specs.PolynomialLists.{IsPolynomialList}
use Rattle.theory_fractions.specs.CommonDenominator.{as_fraction}
use Rattle.theory_fractions.proofs.FractionField.{fraction_laws}
use Rattle.theory_fractions.proofs.PolynomialFractions.{as_fraction-elem}
use Rattle.theory_remainders.proofs.RemainderField.{remainder_laws}
use Rattle.theory_places.specs.Places.{Finite}
use Rattle.theory_places.specs.FractionPlaces.{IsIntegralAt, IsMonicIrreducible, FractionPlaceValuation, fractions}
use Rattle.theory_bases.specs.TupleLattices.{TupleLattice, SpanOrder, trace_of_product}
use Rattle.theory_bases.specs.Bases.{IsPolynomialFraction}
use Rattle.theory_left_orders.specs.FractionResidues.{ResidueRingsBy}
use Rattle.theory_left_orders.proofs.FractionResidues.{residue_rings}
use Rattle.theory_left_orders.proofs.ResidueRings.{coord_member}
use Rattle.theory_left_orders.proofs.TupleLattices.{to_lattice}
use Rattle.theory_left_orders.proofs.TupleLeftOrders.{B, vec-is, to_basis}
use Rattle.theory_growth.specs.Settled.{residues}
use Rattle.theory_growth.specs.Growths.{PolynomialLattice, IsGrowth, CarriesDual, BoundByDegree}
use Rattle.theory_growth.proofs.Localized.{clear_all, enlarge}
use Rattle.theory_growth.proofs.FractionPlaces.{localizes, residues_agree, power_over_list}
use Rattle.theory_growth.proofs.LatticeSteps.{RisingSets, at_most}
use Rattle.theory_growth.proofs.Vectors as vectors
use Rattle.theory_growth.proofs.Bounds as bounds
use Rattle.theory_growth.proofs.Bounds.{OrderOn}

module _ {E : Type 0} (o : Ops E) (L : FieldLaws o) (A : Structure (Pair E)) (over : IsOver (fraction_ops o L) A)
    (assoc : IsAssociative (fraction_ops o L) A) (m : List E) (s : IsMonicIrreducible o m)
    (tuples : List (List (Pair E))) (O : SpanOrder (fraction_ops o L) A (IsPolynomialFraction o) tuples)
    (c : List E) (hc : IsPolynomialList o c) (nz : c ≢ []) (carries : CarriesDual o L A c tuples) where
  abbrev k : Ops (Pair E)
  k = fraction_ops o L

  abbrev M : FieldLaws k
  M = fraction_laws o L

  abbrev K : FieldOn (Elem k)
  K = fractions o L M

  abbrev n : ℕ
  n = A.dim

  abbrev X : Type 0
  X = Tuple k n

  abbrev r : Ops (List E)
  r = residues o L M m s

  abbrev N : FieldLaws r
  N = remainder_laws o L m s.irreducible

  abbrev R : ResidueRingsBy o L M m r N
  R = residue_rings o L M m s N

  abbrev IsP : Pair E → Type 0
  IsP = IsPolynomialFraction o

  abbrev P : Pair E → Type 0
  P = IsIntegralAt o (Finite m)

  abbrev p : Elem k
  p = R.p

  abbrev q : Elem k
  q = K.inv p

  abbrev V : FractionPlaceValuation o L M (Finite m)
  V = bounds.V o L A over assoc m s tuples O

  abbrev Al : AlgebraOn K.ring X
  Al = algebra k M A over.of_elements assoc O.one O.is_one

  is : IsTableAlgebra k M n A.constants Al
  is = algebra_is k M A over.of_elements assoc O.one O.is_one

  abbrev B0 : Basis (module_of Al) n
  B0 = table_basis k M A over.of_elements assoc O.one O.is_one

  abbrev Mod : ModuleOn K.ring X
  Mod = module_of Al

  abbrev form : X → X → Elem k
  form = trace_form Al n B0

  abbrev At : List (List (Pair E)) → X → Type 0
  At a x = TupleLattice k P n a x.0

  order_on : (a : List (List (Pair E))) → SpanOrder k A IsP a → OrderOn K V.valuation Al n (At a)
  order_on = bounds.order_on o L A over assoc m s tuples O

  form_is : (x y : X) → (form x y).0 ≡ trace_of_product k A x.0 y.0
  form_is x y = trace-is k M A over.of_elements assoc O.one O.is_one (Al.◌⊗◌ x y)
      ∙ ap (list_trace k A) (is.product-is x y)

  abbrev g : ℕ → X
  g = row k M n tuples O.basis.shape

  g_in : (i : ℕ) → i < n → At tuples (g i)
  g_in i l = let w = order_on tuples O in
      vectors.full_from k M P V.valuation V.tells A over assoc O.one O.is_one tuples O.basis (g i)
      (lattice-member K V.valuation Mod n i g l)

  -- the polynomial as a fraction
  abbrev cc : Elem k
  cc = (as_fraction o c, as_fraction-elem o L c hc)

  abbrev power_c : Elem k
  power_c = power K.ring p (degree c)

  facts : (cc ≢ K.zero) × P (K.◌⊗◌ power_c (K.inv cc)).0
  facts = power_over_list o L M m s R.at_place.subring c hc nz p cc R.p_is refl

  -- what pairs with the tuples into polynomials is in the dual over the polynomials
  dual_of : (x : X) → ((i : ℕ) → i < n → IsP (form (g i) x).0)
      → DualOf (trace_of_product k A) IsP (PolynomialLattice o L A tuples) x.0
  unfolding tuple_algebra
  dual_of x h y hy =
      let z = as_tuple k M n y hy.0 in
      let bil = trace_form_bilinear K.cring Al n B0 in
      let D : X → Type 0 = λ z. IsP (form z x).0 in
      let sub = R.polynomials.subring in
      let w = to_lattice k M n tuples O.basis.shape IsP z hy.1 in
      subst IsP (form_is z x) (subst D (sym w.combines) (comb_in_closed K (λ a. IsP a.0) Mod D
      (subst (λ (a : Elem k). IsP a.0) (sym (ap (λ t. form t x) (sym (zero-scale Mod Mod.zero))
      ∙ bil.scale-left K.zero Mod.zero x ∙ zero-mul K.ring (form Mod.zero x))) sub.zero_in)
      (λ a b ha hb. subst (λ (t : Elem k). IsP t.0) (sym (bil.add-left a b x)) (sub.add_in (form a x) (form b x) ha hb))
      (λ a b ha hb. subst (λ (t : Elem k). IsP t.0) (sym (bil.scale-left a b x)) (sub.mul_in a (form b x) ha hb))
      (length tuples) w.weights g w.passes (λ i l. h i (omega (arith, l, O.basis.count)))))

  -- a power of m carries what pairs with the tuples integrally into their lattice
  carried : (x : X) → ((i : ℕ) → i < n → P (form (g i) x).0) → At tuples (Al.◌•◌ power_c x)
  carried x h =
      let f = clear_all k M IsP P p q r N R.polynomials R.at_place (localizes o L M m s) (residues_agree o L M m s N R)
      A over assoc O.one O.is_one n (λ i. form (g i) x) h in
      let u = f.0.u in
      let w = f.0.w in
      let y = Al.◌•◌ u x in
      let bil = trace_form_bilinear K.cring Al n B0 in
      let d = dual_of y (λ i l. subst (λ (t : Elem k). IsP t.0) (sym (bil.scale-right u (g i) x)) (f.1 i l)) in
      let z = Al.◌•◌ cc y in
      let low = subst (PolynomialLattice o L A tuples) (sym (is.scale-is cc y)) (carries y.0 (IsTuple-of k M n y) d) in
      let here = enlarge k M IsP P p q r N R.polynomials R.at_place (localizes o L M m s) (residues_agree o L M m s N R)
      A over assoc O.one O.is_one tuples O.basis.shape z low in
      let v = K.◌⊗◌ power_c (K.inv cc) in
      let a = K.◌⊗◌ v w in
      let a_in = R.at_place.subring.mul_in v w facts.1 f.0.w_in in
      let lat = vectors.full_to k M P V.valuation V.tells A over assoc O.one O.is_one tuples O.basis z here in
      let back = vectors.full_from k M P V.valuation V.tells A over assoc O.one O.is_one tuples O.basis (Al.◌•◌ a z)
      (lattice-scale K V.valuation Mod n g (a, (V.tells a).1 a_in) z lat) in
      let e : K.◌⊗◌ (K.◌⊗◌ a cc) u ≡ power_c =
      ring5 K.cring (λ t i w c u. ((((t ⊠ i) ⊠ w) ⊠ c) ⊠ u, (t ⊠ (c ⊠ i)) ⊠ (w ⊠ u))) refl power_c (K.inv cc) w cc u
      ∙ ap₂ (λ x y. K.◌⊗◌ (K.◌⊗◌ power_c x) y) (mul-inv K cc facts.0) f.0.inverse
      ∙ K.mul-one (K.◌⊗◌ power_c K.one) ∙ K.mul-one power_c in
      subst (At tuples) (sym (Al.mul-scale a cc y) ∙ sym (Al.mul-scale (K.◌⊗◌ a cc) u x) ∙ ap (λ t. Al.◌•◌ t x) e) back

  -- ---- the sequence

  abbrev Bs : Basis Mod n
  Bs = B k M P p q r N R.at_place A over assoc O.one O.is_one tuples O.basis

  module _ (j : ℕ) (t : ℕ → List (List (Pair E))) (e : t 0 ≡ tuples)
      (each : (i : ℕ) → i < j → IsGrowth o L A m (t i) (t (suc i))) where
    order : (i : ℕ) → i < suc j → SpanOrder k A IsP (t i)
    order = bounds.all_orders o L A over assoc m s tuples O j t e each

    abbrev C : ℕ → X → Type 0
    C i = At (t i)

    rise : (i : ℕ) → i < j → Within (C i) (C (suc i))
    rise i l = (bounds.rises o L A over assoc m s tuples O (t i) (t (suc i)) (order i (omega arith)) (each i l)).0

    from_start : (i : ℕ) → i < suc j → Within (At tuples) (C i)
    from_start zero l x h = subst (λ a. At a x) (sym e) h
    from_start (suc i) l x h = rise i (omega arith) x (from_start i (omega arith) x h)

    reach : (i : ℕ) → i < j → (x : X) → C (suc i) x → (l : ℕ) → l < n → P (K.◌⊗◌ power_c (Bs.coord x l)).0
    reach i i_in x h l l_in =
        let w = order_on (t (suc i)) (order (suc i) (omega arith)) in
        let dual = in_dual K V.valuation Al n B0 w.0 w.1 x (w.2.1 x h) in
        let y = Al.◌•◌ power_c x in
        let y_in = carried x (λ a l. (V.tells (form (g a) x)).0 (dual (g a)
        (w.2.1 (g a) (from_start (suc i) (omega arith) (g a) (g_in a l))))) in
        subst (λ (a : Elem k). P a.0) (Bs.coord-scale power_c x l)
        (coord_member K (λ a. P a.0) p q (elements r N) R.at_place Mod n Bs y
        (to_basis k M P p q r N R.at_place A over assoc O.one O.is_one tuples O.basis y y_in) l l_in)

    -- a member that is new
    step : (i : ℕ) → i < j → (x : X) × C (suc i) x × (C i x → ⊥)
    step i l =
        let a = order_on (t i) (order i (omega arith)) in
        let b = order_on (t (suc i)) (order (suc i) (omega arith)) in
        let Co = coords_of Mod n B0 in
        let test = lattice_test K V.valuation Mod n Co n a.0 in
        ⊎_elim
        (λ (h : (i : ℕ) → i < n → IsTrue (test (b.0 i))). absurd
        ((bounds.rises o L A over assoc m s tuples O (t i) (t (suc i)) (order i (omega arith)) (each i l)).1 (λ x hx.
        a.2.0 x (lattice_trans K V.valuation Mod n n b.0 a.0 x (λ i l.
        lattice_test-in K V.valuation Mod n Co n a.0 (b.0 i) (h i l)) (b.2.1 x hx)))))
        (λ (w : (i : ℕ) × (i < n) × (IsTrue (test (b.0 i)) → ⊥)). (
          b.0 w.0,
          b.2.0 (b.0 w.0) (lattice-member K V.valuation Mod n w.0 b.0 w.1),
          λ h. w.2 (in-lattice_test K V.valuation Mod n Co n a.0 (b.0 w.0) (a.2.1 (b.0 w.0) h)),
        ))
        (all_or_not n (λ i. test (b.0 i)))

    sets : RisingSets K V.valuation p q (bounds.uniformizer o L A over assoc m s tuples O) Mod n Bs j (degree c) C
    sets = record {
      zero_in = λ i l. let w = order_on (t i) (order i l) in
          w.2.0 Mod.zero (lattice-zero K V.valuation Mod n w.0);
      add_in = λ i l x y hx hy. let w = order_on (t i) (order i l) in
          w.2.0 (Mod.◌⊕◌ x y) (lattice-add K V.valuation Mod n w.0 x y (w.2.1 x hx) (w.2.1 y hy));
      scale_in = λ i l a x ha hx. let w = order_on (t i) (order i l) in
          w.2.0 (Mod.◌•◌ a x) (lattice-scale K V.valuation Mod n w.0 (a, ha) x (w.2.1 x hx));
      holds = λ i l. from_start 0 (omega arith) (Bs.vec i) (subst (At tuples)
          (sym (vec-is k M P p q r N R.at_place A over assoc O.one O.is_one tuples O.basis i)) (g_in i l));
      rises = rise;
      reach = λ i l x h a a_in. (V.tells (K.◌⊗◌ power_c (Bs.coord x a))).1 (reach i l x h a a_in);
      step = step;
    }

    pub at_most_degree : j ≤ n * degree c
    at_most_degree = at_most K V.valuation p q (bounds.uniformizer o L A over assoc m s tuples O) Mod n Bs j (degree c)
        C sets

module _ {E : Type 0} (o : Ops E) (L : FieldLaws o) (A : Structure (Pair E)) where
  pub bound_by_degree : BoundByDegree o L A
  bound_by_degree over assoc m s tuples O c hc nz carries j t e each =
      at_most_degree o L A over assoc m s tuples O c hc nz carries j t e each
