-- A step of growth at one finite place keeps all others; left orders are steps; bounds on growths fall.
use Rattle.std.specs.Prelude.{◌≡◌, ◌≢◌, ◌<◌, ℕ, zero, suc, List}
use Rattle.std.proofs.Common.{refl, sym, ◌∙◌, ap, subst, arith}
use Rattle.theory_rings.specs.Ring.{FieldOn}
use Rattle.theory_rings.specs.Ops.{Ops, FieldLaws}
use Rattle.theory_rings.specs.Elements.{Elem}
use Rattle.theory_spaces.specs.Tuples.{Tuple, tuple_scale, tuple_zero, tuple_add, tuple_neg}
use Rattle.theory_spaces.proofs.Algebras.SetLemmas.{ideal_same}
use Rattle.theory_spaces.proofs.Tuples.Tuples.{tuples, tuples-scale}
use Rattle.theory_tables.specs.Matrix.{IsMatrix}
use Rattle.theory_tables.specs.Structure.{Structure, IsOver, IsAssociative, tuple_ops, product_of}
use Rattle.theory_tables.proofs.Algebras.Bridge.{as_tuple, algebra, algebra_is, one-is}
use Rattle.theory_fractions.specs.Fraction.{Pair}
use Rattle.theory_fractions.specs.FractionOps.{fraction_ops}
use Rattle.theory_fractions.proofs.FractionField.{fraction_laws}
use Rattle.theory_remainders.proofs.RemainderField.{remainder_laws}
use Rattle.theory_places.specs.Places.{Finite}
use Rattle.theory_places.specs.FractionPlaces.{IsIntegralAt, IsMonicIrreducible, fractions}
use Rattle.theory_bases.specs.TupleLattices.{TupleLattice, SameTupleLattice, SpanOrder}
use Rattle.theory_bases.specs.Bases.{IsPolynomialFraction}
use Rattle.theory_left_orders.specs.FractionResidues.{ResidueRingsBy}
use Rattle.theory_left_orders.specs.TupleIdeals.{Preimage}
use Rattle.theory_left_orders.proofs.FractionResidues.{residue_rings}
use Rattle.theory_left_orders.proofs.TupleLeftOrders.{left_orders_are_orders}
use Rattle.theory_growth.specs.Settled.{residues}
use Rattle.theory_growth.specs.Growths.{PolynomialLattice, IsStep, IsGrowth, StepsKeepOtherPlaces, GrowthsFall}
use Rattle.theory_growth.specs.Growths.{LeftOrdersAreSteps, OwnDualIsKept}
use Rattle.theory_growth.proofs.Localized.{Multiplier, times, clear, uncleared}
use Rattle.theory_growth.proofs.FractionPlaces.{localizes, residues_agree, place_multiplier, place_multiplier-is}

-- ---- bounds

-- a sequence with one more in front
first : {X : Type 0} → X → (ℕ → X) → ℕ → X
first x t zero = x
first x t (suc i) = t i

module _ {E : Type 0} (o : Ops E) (L : FieldLaws o) (A : Structure (Pair E)) where
  in_front : (m : List E) (a : List (List (Pair E))) (t : ℕ → List (List (Pair E))) (k : ℕ) → IsGrowth o L A m a (t 0)
      → ((i : ℕ) → i < k → IsGrowth o L A m (t i) (t (suc i)))
      → (i : ℕ) → i < suc k → IsGrowth o L A m (first a t i) (first a t (suc i))
  unfolding first
  in_front m a t k g each zero l = g
  in_front m a t k g each (suc i) l = each i (omega arith)

  pub growths_fall : GrowthsFall o L A
  unfolding first
  growths_fall m a b bound h g = record {
    positive = h 1 (first a (λ _. b)) refl (in_front m a (λ _. b) 0 g (λ i l. absurd (omega arith)));
    less = λ k t e each.
        let q = h (suc k) (first a t) refl
        (in_front m a t k (subst (IsGrowth o L A m a) (sym e) g) each) in
        omega arith;
  }

-- ---- other places

module _ {E : Type 0} (o : Ops E) (L : FieldLaws o) (A : Structure (Pair E)) (over : IsOver (fraction_ops o L) A)
    (assoc : IsAssociative (fraction_ops o L) A) (m : List E) (s : IsMonicIrreducible o m) where
  abbrev k : Ops (Pair E)
  k = fraction_ops o L

  abbrev M : FieldLaws k
  M = fraction_laws o L

  module _ (a b : List (List (Pair E))) (O : SpanOrder k A (IsPolynomialFraction o) a) (step : IsStep o L A m a b)
      (l : List E) (sl : IsMonicIrreducible o l) (other : l ≢ m) where
    abbrev N : FieldLaws (residues o L M l sl)
    N = remainder_laws o L l sl.irreducible

    abbrev R : ResidueRingsBy o L M l (residues o L M l sl) N
    R = residue_rings o L M l sl N

    abbrev K : FieldOn (Elem k)
    K = fractions o L M

    abbrev P : Pair E → Type 0
    P = IsIntegralAt o (Finite l)

    abbrev S : Type 0
    S = Multiplier k M (IsPolynomialFraction o) P

    clear_here : (rs : List (List (Pair E))) → IsMatrix k A.dim rs → (x : Tuple k A.dim)
        → TupleLattice k P A.dim rs x.0
        → (f : S) × TupleLattice k (IsPolynomialFraction o) A.dim rs ((tuples k M A.dim).◌•◌ f.u x).0
    clear_here = clear k M (IsPolynomialFraction o) P R.p (K.inv R.p) (residues o L M l sl) N R.polynomials R.at_place
        (localizes o L M l sl) (residues_agree o L M l sl N R) A over assoc O.one O.is_one

    uncleared_here : (rs : List (List (Pair E))) → IsMatrix k A.dim rs → (f : S) (x : Tuple k A.dim)
        → TupleLattice k (IsPolynomialFraction o) A.dim rs ((tuples k M A.dim).◌•◌ f.u x).0
        → TupleLattice k P A.dim rs x.0
    uncleared_here = uncleared k M (IsPolynomialFraction o) P R.p (K.inv R.p) (residues o L M l sl) N R.polynomials
        R.at_place (localizes o L M l sl) (residues_agree o L M l sl N R) A over assoc O.one O.is_one

    product : S → S → S
    product = times k M (IsPolynomialFraction o) P R.p (K.inv R.p) (residues o L M l sl) N R.polynomials R.at_place
        (localizes o L M l sl) (residues_agree o L M l sl N R) A over assoc O.one O.is_one

    pub same_at : SameTupleLattice k P A.dim a b
    unfolding product times
    same_at = (
      λ x h.
          let y = as_tuple k M A.dim x h.0 in
          let f = clear_here a O.basis.shape y h in
          uncleared_here b step.order.basis.shape f.0 y
          (step.within ((tuples k M A.dim).◌•◌ f.0.u y).0 f.1),
      λ x h.
          let y = as_tuple k M A.dim x h.0 in
          let f = clear_here b step.order.basis.shape y h in
          let z = (tuples k M A.dim).◌•◌ f.0.u y in
          let t = place_multiplier o L M l sl m s (λ e. other (sym e)) in
          let T : List (Pair E) → Type 0 = PolynomialLattice o L A a in
          uncleared_here a O.basis.shape (product t f.0) y
          (subst (λ (w : Tuple k A.dim). T w.0) (sym ((tuples k M A.dim).mul-scale t.u f.0.u y))
          (step.over ((tuples k M A.dim).◌•◌ t.u z).0 (
            z.0,
            f.1,
            tuples-scale k M A.dim t.u z
                ∙ ap (λ c. tuple_scale k A.dim c z.0) (place_multiplier-is o L M l sl m s (λ e. other (sym e))),
          ))),
    )

module _ {E : Type 0} (o : Ops E) (L : FieldLaws o) (A : Structure (Pair E)) where
  pub steps_keep_other_places : StepsKeepOtherPlaces o L A
  steps_keep_other_places over assoc m s zero t O each l sl other = ((λ x h. h), (λ x h. h))
  steps_keep_other_places over assoc m s (suc k) t O each l sl other =
      let before = steps_keep_other_places over assoc m s k t O (λ i g. each i (omega arith)) l sl other in
      let last = same_at o L A over assoc m s (t k) (t (suc k)) (order_at k t O (λ i g. each i (omega arith)))
      (each k (omega arith)) l sl other in
      ((λ x h. last.0 x (before.0 x h)), (λ x h. before.1 x (last.1 x h)))
    where
      order_at : (k : ℕ) (t : ℕ → List (List (Pair E))) → SpanOrder (fraction_ops o L) A (IsPolynomialFraction o) (t 0)
          → ((i : ℕ) → i < k → IsStep o L A m (t i) (t (suc i)))
          → SpanOrder (fraction_ops o L) A (IsPolynomialFraction o) (t k)
      order_at zero t O each = O
      order_at (suc k) t O each = (each k (omega arith)).order

module _ {E : Type 0} (o : Ops E) (L : FieldLaws o) (A : Structure (Pair E)) where
  pub own_dual_is_kept : OwnDualIsKept o L A
  own_dual_is_kept l a b same h = record {
    into = λ x t d. same.0 x (h.into x t (λ y hy. d y (same.0 y hy)));
    back = λ x hx y hy. h.back x (same.1 x hx) y (same.1 y hy);
  }

-- ---- left orders

module _ {E : Type 0} (o : Ops E) (L : FieldLaws o) (M : FieldLaws (fraction_ops o L)) where
  pub left_orders_are_steps : LeftOrdersAreSteps o L M
  left_orders_are_steps m s N R A over assoc tuples cs O rows ideal out iind pre oind same =
      let k = fraction_ops o L in
      let K = fractions o L M in
      let one = O.order.one in
      let is_one = O.order.is_one in
      let T : List (List (Pair E)) → List (Pair E) → Type 0 = PolynomialLattice o L A in
      let I = ideal_same (tuple_ops k A) (T tuples)
      (Preimage k M (IsPolynomialFraction o) R.p (K.inv R.p) (residues o L M m s) N R.polynomials A tuples rows)
      (T ideal) pre.lattice pre.ideal in
      let h = left_orders_are_orders k M (IsPolynomialFraction o) R.p (K.inv R.p) (residues o L M m s) N R.polynomials
      A over assoc one is_one tuples ideal iind O.order.order I (λ x w. pre.lattice.0 x (pre.over x w)) in
      let f = h.is_order in
      let G = T out in
      let B = algebra k M A over.of_elements assoc one is_one in
      let is = algebra_is k M A over.of_elements assoc one is_one in
      record {
        order = record {
          basis = oind;
          one = one;
          is_one = is_one;
          order = record {
            one_in = same.0 one f.one_in;
            zero_in = same.0 (tuple_zero k A.dim) f.zero_in;
            add_in = λ x y a b. same.0 (tuple_add k A.dim x y) (f.add_in x y (same.1 x a) (same.1 y b));
            neg_in = λ x a. same.0 (tuple_neg k A.dim x) (f.neg_in x (same.1 x a));
            mul_in = λ x y a b. same.0 (product_of k A x y) (f.mul_in x y (same.1 x a) (same.1 y b));
          };
        };
        within = λ x t. same.0 x (h.holds x t);
        over = λ x w.
            let y = as_tuple k M A.dim w.0 w.1.0 in
            let u = B.◌•◌ R.p B.one in
            let u-is : u.0 ≡ tuple_scale k A.dim R.p.0 one = is.scale-is R.p B.one
            ∙ ap (tuple_scale k A.dim R.p.0) (one-is k M A over.of_elements assoc one is_one) in
            let e : product_of k A y.0 (tuple_scale k A.dim R.p.0 one) ≡ x =
            ap (product_of k A y.0) (sym u-is) ∙ sym (is.product-is y u)
            ∙ ap (λ (z : Tuple k A.dim). z.0) (B.scale-right R.p y B.one ∙ ap (B.◌•◌ R.p) (B.mul-one y))
            ∙ is.scale-is R.p y ∙ ap (λ c. tuple_scale k A.dim c y.0) R.p_is ∙ sym w.2 in
            subst (T tuples) e (I.inside (product_of k A y.0 (tuple_scale k A.dim R.p.0 one))
            ((same.1 w.0 w.1).1 (tuple_scale k A.dim R.p.0 one) h.closed.holds));
      }
