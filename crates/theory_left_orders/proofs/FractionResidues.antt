-- What is integral at a finite place of the fractions, and the polynomials among them, with the remainders as residue
-- field.
use Rattle.std.specs.Prelude.{◌≡◌, ◌≢◌, List, []}
use Rattle.std.proofs.Common.{refl, sym, ◌∙◌, ap, ap₂, subst, ⊎_elim}
use Rattle.theory_rings.specs.Ring.{FieldOn, CommRingOn}
use Rattle.theory_rings.specs.Ops.{Ops, FieldLaws}
use Rattle.theory_rings.specs.Elements.{Elem, Elem-path, elements}
use Rattle.theory_rings.specs.Sum.{at}
use Rattle.theory_rings.specs.Polynomial.{Poly}
use Rattle.theory_rings.specs.Division.{Divides}
use Rattle.theory_rings.specs.Homomorphism.{IsRingHom}
use Rattle.theory_rings.specs.Fraction.{IsLowest}
use Rattle.theory_rings.proofs.Rings.RingLaws.{zero-mul}
use Rattle.theory_rings.proofs.Rings.Fields.{mul_left_cancel, mul-inv}
use Rattle.theory_rings.proofs.Rings.Homomorphisms.{map-zero, map-neg}
use Rattle.theory_rings.proofs.Polynomials.Bezout.{field_polynomials}
use Rattle.theory_rings.proofs.Polynomials.ElementLists.{values}
use Rattle.theory_rings.proofs.Polynomials.Irreducible.{irreducible-ne-zero}
use Rattle.theory_rings.proofs.Polynomials.Monic.{monic_of-divides}
use Rattle.theory_rings.proofs.Polynomials.Remainders.{remainder_eq, remainders-zero}
use Rattle.theory_rings.proofs.Fractions.Fractions.{fraction_of_value}
use Rattle.theory_rings.proofs.Fractions.Lowest.{polynomial_reduction, rational_functions, is_rational_functions}
use Rattle.theory_lattices.specs.RationalFunctions.{Rational, of_polynomial}
use Rattle.theory_lattices.proofs.Degree.FractionDegrees.{of_hom}
use Rattle.theory_spaces.specs.Valuation.{IsIntegral}
use Rattle.theory_fractions.specs.PolynomialLists.{IsPolynomialList}
use Rattle.theory_fractions.specs.Fraction.{Pair}
use Rattle.theory_fractions.specs.FractionOps.{polynomial_of, rational_function, pair_of, fraction_ops}
use Rattle.theory_fractions.specs.FractionLaws.{FractionsAreRational}
use Rattle.theory_fractions.specs.CommonDenominator.{as_fraction}
use Rattle.theory_fractions.proofs.RationalFractions.{fractions_are_rational}
use Rattle.theory_fractions.proofs.FractionField.{is_fraction-parts, rational_function_eq, polynomial_of-values}
use Rattle.theory_fractions.proofs.ListPolynomials.{is_polynomial-gives, has_polynomial_of, IsPolynomialList-values}
use Rattle.theory_fractions.proofs.FractionField.{polynomial_of-nil}
use Rattle.theory_fractions.proofs.PolynomialFractions.{as_fraction-elem}
use Rattle.theory_remainders.specs.Irreducible.{IsIrreducible}
use Rattle.theory_remainders.specs.RemainderLaws.{IsRemainder, IsRemainderOf}
use Rattle.theory_remainders.specs.RemainderOps.{modulus_of, remainder_ops}
use Rattle.theory_remainders.proofs.Divisions.{congruent_of_remainder_of}
use Rattle.theory_remainders.proofs.RemainderField.{monic, of_list, to_list, is_remainder-to_list, of_list-to_list}
use Rattle.theory_remainders.proofs.RemainderField.{of_list-nil, is_remainder-nil}
use Rattle.theory_remainders.proofs.RemainderValues.{remainder_of_eq, of_elem, zero_is}
use Rattle.theory_places.specs.Places.{Finite}
use Rattle.theory_places.specs.Places as rational
use Rattle.theory_places.specs.FractionPlaces.{IsIntegralAt, IsMonicIrreducible, FractionPlaceValuation, fractions}
use Rattle.theory_places.proofs.FinitePlaces.{off_one, off_den}
use Rattle.theory_places.proofs.FractionPlaces.{over_one_path, integral_at, is_place_of, fraction_places}
use Rattle.theory_reductions.specs.Reductions.{IsResidueOf, ReductionBy}
use Rattle.theory_reductions.proofs.Reductions.{fractions_reduce}
use Rattle.theory_bases.specs.Bases.{IsPolynomialFraction}
use Rattle.theory_left_orders.specs.ResidueRings.{ResidueRingOn}
use Rattle.theory_left_orders.proofs.TupleLattices.{larger_lattice}
use Rattle.theory_remainders.proofs.RemainderField.{remainder_laws}
use Rattle.theory_fractions.proofs.FractionField.{fraction_laws}
use Rattle.theory_left_orders.specs.FractionResidues.{PolynomialLatticesAtPlaces}
use Rattle.theory_left_orders.specs.FractionResidues.{ResidueRingsBy, PlacesHaveResidueRings}

module _ {E : Type 0} (o : Ops E) (L : FieldLaws o) (M : FieldLaws (fraction_ops o L)) (m : List E)
    (s : IsMonicIrreducible o m) where
  abbrev F : FieldOn (Elem o)
  F = elements o L

  abbrev P : CommRingOn (Poly F.cring)
  P = field_polynomials F

  abbrev Q : FieldOn (Rational F)
  Q = rational_functions F

  abbrev poly : List E → Poly F.cring
  poly = polynomial_of o L

  abbrev i : IsIrreducible o m
  i = s.irreducible

  abbrev r : Ops (List E)
  r = remainder_ops o L m (monic o L m i)

  abbrev FE : Type 0
  FE = Elem (fraction_ops o L)

  abbrev K : FieldOn FE
  K = fractions o L M

  abbrev h : FE → Rational F
  h a = rational_function o L a.0

  abbrev H : FractionsAreRational o L M
  H = fractions_are_rational o L M

  abbrev of : Poly F.cring → Rational F
  of = of_polynomial F

  -- ---- polynomials as fractions

  abbrev pub over_one : (u : List E) → IsPolynomialList o u → FE
  over_one u hu = (as_fraction o u, as_fraction-elem o L u hu)

  pub over_one_is : (u : List E) (hu : IsPolynomialList o u) → h (over_one u hu) ≡ of (poly u)
  over_one_is u hu = over_one_path o L u (as_fraction-elem o L u hu)

  pub num_is : (w : FE) → IsPolynomialList o w.0.0
  unfolding fraction_ops
  num_is w = is_polynomial-gives o L w.0.0 (is_fraction-parts o L w.0 w.1).0

  den_is : (w : FE) → IsPolynomialList o w.0.1
  unfolding fraction_ops
  den_is w = is_polynomial-gives o L w.0.1 (is_fraction-parts o L w.0 w.1).1

  den_path : (w : FE) → (h w).0.1 ≡ poly w.0.1
  unfolding fraction_ops
  den_path w = ap (λ (x : Rational F). x.0.1) (rational_function_eq o L w.0 w.1)

  abbrev IsPoly : FE → Type 0
  IsPoly w = IsPolynomialFraction o w.0

  poly_value : (w : FE) → IsPoly w → h w ≡ of (poly w.0.0)
  poly_value w e = ap h (Elem-path (fraction_ops o L) w (over_one w.0.0 (num_is w)) (ap (λ v. (w.0.0, v)) e))
      ∙ over_one_is w.0.0 (num_is w)

  pub poly_of_value : (w : FE) (u : Poly F.cring) → h w ≡ of u → IsPoly w
  poly_of_value w u e =
      let v = values o L u.0 in
      let hv = IsPolynomialList-values o L u in
      let same : w.0 ≡ as_fraction o v = sym (H.pair w)
      ∙ ap (pair_of o L) (e ∙ ap of (sym (polynomial_of-values o L u)) ∙ sym (over_one_is v hv))
      ∙ H.pair (over_one v hv) in
      ap (λ (x : Pair E). x.1) same

  -- ---- remainders

  -- the remainder of a polynomial
  abbrev pub rest : List E → List E
  rest u = to_list o L m i (of_list o L m i u)

  pub rest_small : (u : List E) → IsRemainder o m (rest u)
  rest_small u = is_remainder-to_list o L m i (of_list o L m i u)

  pub rest_is : (u : List E) → IsPolynomialList o u → IsRemainderOf o (at o u) m (rest u)
  rest_is u hu = remainder_of_eq o L m i (poly u) (at o u) (has_polynomial_of o L u hu.over) (rest u) (rest_small u)
      (sym (of_list-to_list o L m i (of_list o L m i u)))

  -- where it is 0, m divides the polynomial
  divides_of_rest : (u : List E) → IsPolynomialList o u → IsRemainderOf o (at o u) m [] → Divides P (poly m) (poly u)
  divides_of_rest u hu e =
      let nil = is_remainder-nil o L m i in
      let c = congruent_of_remainder_of o L (poly u) (at o u) (has_polynomial_of o L u hu.over) m []
      i.polynomial.over nil.polynomial.over e in
      (c.0, c.1 ∙ ap (λ x. P.◌⊕◌ x (P.◌⊗◌ c.0 (poly m))) (polynomial_of-nil o L) ∙ P.zero-add (P.◌⊗◌ c.0 (poly m)))

  -- m itself leaves 0
  rest-m : IsRemainderOf o (at o m) m []
  rest-m =
      let n = modulus_of o L m in
      let d = monic_of-divides F (poly m) (irreducible-ne-zero F (poly m) (is_place_of o L (Finite m) s).1) in
      remainder_of_eq o L m i (poly m) (at o m) (has_polynomial_of o L m i.polynomial.over) []
      (is_remainder-nil o L m i)
      (remainder_eq F.cring F.zero_test n (monic o L m i) (poly m) P.zero (d.0, d.1 ∙ sym (P.zero-add (P.◌⊗◌ d.0 n)))
      ∙ sym (remainders-zero F.cring F.zero_test n (monic o L m i)) ∙ sym (of_list-nil o L m i))

  -- ---- at the place

  abbrev IsLoc : FE → Type 0
  IsLoc w = IsIntegralAt o (Finite m) w.0

  abbrev W : FractionPlaceValuation o L M (Finite m)
  W = fraction_places o L M (Finite m) s

  abbrev p : FE
  p = over_one m i.polynomial

  abbrev q : FE
  q = K.inv p

  W-p : W.p ≡ p
  W-p = Elem-path (fraction_ops o L) W.p p W.p_is

  to_loc : (w : FE) → IsIntegral K W.valuation w → IsLoc w
  to_loc w = (W.tells w).0

  of_loc : (w : FE) → IsLoc w → IsIntegral K W.valuation w
  of_loc w = (W.tells w).1

  p-q : K.◌⊗◌ p q ≡ K.one
  p-q = let T : FE → Type 0 = λ x. K.◌⊗◌ x (K.inv x) ≡ K.one in
      let U = W.uniformizer in subst T W-p U.pq

  place_polynomial : rational.IsPlace F (Finite (poly m))
  place_polynomial = is_place_of o L (Finite m) s

  pub poly_loc : (w : FE) → IsPoly w → IsLoc w
  poly_loc w e = (integral_at o L (Finite m) s w.0 w.1).0
      (subst (rational.IsIntegralOff F (poly m)) (sym (poly_value w e)) (
        poly w.0.0,
        P.one,
        fraction_of_value P (IsLowest F.cring P) (polynomial_reduction F) (poly w.0.0),
        off_one F Q (is_rational_functions F) (poly m) place_polynomial.1,
      ))

  module _ (N : FieldLaws r) where
    abbrev l : FieldOn (Elem r)
    l = elements r N

    abbrev R : ReductionBy o L M m r N
    R = fractions_reduce o L M m i N

    abbrev res : FE → Elem r
    res = R.residue.res

    -- each integral fraction has a residue
    residue_of : (w : FE) → IsLoc w → IsResidueOf o m r w.0 (r.mul (rest w.0.0) (r.inv (rest w.0.1)))
    residue_of w hw = record {
      upper = rest w.0.0;
      lower = rest w.0.1;
      upper_small = rest_small w.0.0;
      lower_small = rest_small w.0.1;
      numerator = rest_is w.0.0 (num_is w);
      denominator = rest_is w.0.1 (den_is w);
      nonzero = λ e.
          let t = (integral_at o L (Finite m) s w.0 w.1).1 hw in
          let off = off_den F Q (is_rational_functions F) (poly m) place_polynomial.1 (h w) t.0 t.1 t.2 t.3 in
          off (subst (Divides P (poly m)) (sym (den_path w))
          (divides_of_rest w.0.1 (den_is w) (subst (IsRemainderOf o (at o w.0.1) m) e (rest_is w.0.1 (den_is w)))));
      quotient = refl;
    }

    loc_in : (w : FE) → IsLoc w → IsIntegral K R.valuation w
    loc_in w hw = R.integral w (r.mul (rest w.0.0) (r.inv (rest w.0.1))) (residue_of w hw)

    res-p : res p ≡ l.zero
    res-p = Elem-path r (res p) l.zero (R.polynomial_value p m [] i.polynomial refl (is_remainder-nil o L m i) rest-m
        ∙ sym (zero_is o L m i))

    p_loc : IsLoc p
    p_loc = poly_loc p refl

    p_times : (a : FE) → K.◌⊗◌ p (K.◌⊗◌ q a) ≡ a
    p_times a = sym (K.mul_assoc p q a) ∙ ap (λ b. K.◌⊗◌ b a) p-q ∙ K.one-mul a

    -- what p times an integral fraction becomes
    killed : (a : FE) → IsLoc (K.◌⊗◌ q a) → res a ≡ l.zero
    killed a ha = ap res (sym (p_times a))
        ∙ R.residue.map-mul p (K.◌⊗◌ q a) (loc_in p p_loc) (loc_in (K.◌⊗◌ q a) ha)
        ∙ ap (λ x. l.◌⊗◌ x (res (K.◌⊗◌ q a))) res-p ∙ zero-mul l.ring (res (K.◌⊗◌ q a))

    -- a unit does not become 0
    not_killed : (a : FE) → IsLoc a → a ≢ K.zero → IsLoc (K.inv a) → res a ≢ l.zero
    not_killed a ha n hi e = l.one-nonzero (sym R.residue.map-one ∙ ap res (sym (mul-inv K a n))
        ∙ R.residue.map-mul a (K.inv a) (loc_in a ha) (loc_in (K.inv a) hi) ∙ ap (λ x. l.◌⊗◌ x (res (K.inv a))) e
        ∙ zero-mul l.ring (res (K.inv a)))

    over_p : (a : FE) → IsLoc a → res a ≡ l.zero → IsLoc (K.◌⊗◌ q a)
    over_p a ha e = ⊎_elim
        (λ (t : IsIntegral K W.valuation (K.◌⊗◌ (K.inv W.p) a)). to_loc (K.◌⊗◌ q a)
        (subst (λ x. IsIntegral K W.valuation (K.◌⊗◌ (K.inv x) a)) W-p t))
        (λ (u : (a ≡ K.zero → ⊥) × IsIntegral K W.valuation (K.inv a)).
        absurd (not_killed a ha u.0 (to_loc (K.inv a) u.1) e))
        (let U = W.uniformizer in U.multiple_or_unit a (of_loc a ha))

    lift_list : (a : Elem r) → IsPolynomialList o a.0
    lift_list a = let t = of_elem o L m i a.0 a.1 in t.polynomial

    abbrev lift : Elem r → FE
    lift a = over_one a.0 (lift_list a)

    res-lift : (a : Elem r) → res (lift a) ≡ a
    res-lift a = Elem-path r (res (lift a)) a (R.polynomial_value (lift a) a.0 a.0 (lift_list a) refl
        (of_elem o L m i a.0 a.1)
        (remainder_of_eq o L m i (poly a.0) (at o a.0) (has_polynomial_of o L a.0 (lift_list a).over) a.0
        (of_elem o L m i a.0 a.1) refl))

    at_place : ResidueRingOn K IsLoc p q l
    at_place = record {
      subring = record {
        one_in = to_loc K.one W.valuation.one_in;
        zero_in = to_loc K.zero W.valuation.zero_in;
        add_in = λ a b x y. to_loc (K.◌⊕◌ a b) (W.valuation.add_in a b (of_loc a x) (of_loc b y));
        neg_in = λ a x. to_loc (K.neg a) (W.valuation.neg_in a (of_loc a x));
        mul_in = λ a b x y. to_loc (K.◌⊗◌ a b) (W.valuation.mul_in a b (of_loc a x) (of_loc b y));
      };
      p_in = p_loc;
      pq = p-q;
      res = res;
      lift = lift;
      lift_in = λ a. poly_loc (lift a) refl;
      res-lift = res-lift;
      map-one = R.residue.map-one;
      map-add = λ a b x y. R.residue.map-add a b (loc_in a x) (loc_in b y);
      map-mul = λ a b x y. R.residue.map-mul a b (loc_in a x) (loc_in b y);
      kernel = λ a x. (over_p a x, killed a);
    }

    -- ---- among the polynomials

    of-hom : IsRingHom P.ring Q.ring of
    of-hom = of_hom P (IsLowest F.cring P) (polynomial_reduction F) Q (is_rational_functions F)

    h-p : h p ≡ of (poly m)
    h-p = over_one_is m i.polynomial

    p-ne : h p ≢ Q.zero
    p-ne e = Q.one-nonzero (sym H.hom.map-one ∙ ap h (sym p-q) ∙ H.hom.map-mul p q ∙ ap (λ x. Q.◌⊗◌ x (h q)) e
        ∙ zero-mul Q.ring (h q))

    poly_over_p : (a : FE) → IsPoly a → res a ≡ l.zero → IsPoly (K.◌⊗◌ q a)
    poly_over_p a ha e =
        let u = a.0.0 in
        let z : rest u ≡ [] =
        sym (R.polynomial_value a u (rest u) (num_is a) (ap (λ v. (u, v)) ha) (rest_small u) (rest_is u (num_is a)))
        ∙ ap (λ (x : Elem r). x.0) e ∙ zero_is o L m i in
        let d = divides_of_rest u (num_is a) (subst (IsRemainderOf o (at o u) m) z (rest_is u (num_is a))) in
        poly_of_value (K.◌⊗◌ q a) d.0 (mul_left_cancel Q (h p) (h (K.◌⊗◌ q a)) (of d.0) p-ne
        (sym (H.hom.map-mul p (K.◌⊗◌ q a)) ∙ ap h (p_times a) ∙ poly_value a ha ∙ ap of d.1
        ∙ of-hom.map-mul d.0 (poly m) ∙ Q.mul_comm (of d.0) (of (poly m)) ∙ ap (λ x. Q.◌⊗◌ x (of d.0)) (sym h-p)))

    polynomials : ResidueRingOn K IsPoly p q l
    polynomials = record {
      subring = record {
        one_in = poly_of_value K.one P.one (H.hom.map-one ∙ sym of-hom.map-one);
        zero_in = poly_of_value K.zero P.zero
            (map-zero K.ring Q.ring h H.hom ∙ sym (map-zero P.ring Q.ring of of-hom));
        add_in = λ a b x y. poly_of_value (K.◌⊕◌ a b) (P.◌⊕◌ (poly a.0.0) (poly b.0.0))
            (H.hom.map-add a b ∙ ap₂ Q.◌⊕◌ (poly_value a x) (poly_value b y)
            ∙ sym (of-hom.map-add (poly a.0.0) (poly b.0.0)));
        neg_in = λ a x. poly_of_value (K.neg a) (P.neg (poly a.0.0))
            (map-neg K.ring Q.ring h H.hom a ∙ ap Q.neg (poly_value a x)
            ∙ sym (map-neg P.ring Q.ring of of-hom (poly a.0.0)));
        mul_in = λ a b x y. poly_of_value (K.◌⊗◌ a b) (P.◌⊗◌ (poly a.0.0) (poly b.0.0))
            (H.hom.map-mul a b ∙ ap₂ Q.◌⊗◌ (poly_value a x) (poly_value b y)
            ∙ sym (of-hom.map-mul (poly a.0.0) (poly b.0.0)));
      };
      p_in = refl;
      pq = p-q;
      res = res;
      lift = lift;
      lift_in = λ a. refl;
      res-lift = res-lift;
      map-one = R.residue.map-one;
      map-add = λ a b x y. R.residue.map-add a b (loc_in a (poly_loc a x)) (loc_in b (poly_loc b y));
      map-mul = λ a b x y. R.residue.map-mul a b (loc_in a (poly_loc a x)) (loc_in b (poly_loc b y));
      kernel = λ a x. (poly_over_p a x, λ y. killed a (poly_loc (K.◌⊗◌ q a) y));
    }

    pub residue_rings : ResidueRingsBy o L M m r N
    unfolding at_place polynomials
    residue_rings = record {
      p = p;
      p_is = refl;
      at_place = at_place;
      at_place_values = record { value = λ w x _. R.value w x; polynomial_value = R.polynomial_value };
      polynomials = polynomials;
      polynomial_values = record { value = λ w x _. R.value w x; polynomial_value = R.polynomial_value };
    }

module _ {E : Type 0} (o : Ops E) (L : FieldLaws o) (M : FieldLaws (fraction_ops o L)) where
  pub places_have_residue_rings : PlacesHaveResidueRings o L M
  places_have_residue_rings m s N = residue_rings o L M m s N

module _ {E : Type 0} (o : Ops E) (L : FieldLaws o) where
  pub polynomial_lattices_at_places : PolynomialLatticesAtPlaces o L
  polynomial_lattices_at_places m s w a b sa sb same =
      let k = fraction_ops o L in
      let M = fraction_laws o L in
      let R = residue_rings o L M m s (remainder_laws o L m s.irreducible) in
      let small : Pair E → Type 0 = IsPolynomialFraction o in
      let large : Pair E → Type 0 = IsIntegralAt o (Finite m) in
      let in_large = poly_loc o L M m s in (
        larger_lattice k M w small large R.polynomials.subring R.at_place.subring in_large a b sa sb same.0,
        larger_lattice k M w small large R.polynomials.subring R.at_place.subring in_large b a sb sa same.1,
      )
