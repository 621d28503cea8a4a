-- The polynomials among the fractions, and what is integral at a finite place: the second is carried into the first by
-- denominators, and the residues are the same. A number that is 0 among the coefficients is 0 among the fractions.
use Rattle.std.specs.Prelude.{◌≡◌, ◌≢◌, ◌≤◌, ℕ, zero, suc, List, []}
use Rattle.std.proofs.Common.{refl, sym, ◌∙◌, ap, ap₂, subst, arith, ⊎_elim}
use Rattle.theory_rings.specs.Ring.{FieldOn, CommRingOn}
use Rattle.theory_rings.specs.Ops.{Ops, FieldLaws}
use Rattle.theory_rings.specs.Elements.{Elem, Elem-path, elements}
use Rattle.theory_rings.specs.Power.{power, times, times_of}
use Rattle.theory_rings.specs.Homomorphism.{IsRingHom}
use Rattle.theory_rings.specs.Polynomial.{Poly, degree}
use Rattle.theory_rings.specs.Division.{Divides}
use Rattle.theory_rings.specs.Fraction.{IsLowest}
use Rattle.theory_rings.proofs.Rings.RingLaws.{zero-mul, left_ne_zero_of_mul}
use Rattle.theory_rings.proofs.Rings.Elements.{times_of-elements}
use Rattle.theory_rings.proofs.Rings.Fields.{mul_left_cancel, mul-inv}
use Rattle.theory_rings.proofs.Rings.Homomorphisms.{map-zero}
use Rattle.theory_rings.proofs.Powers.Times.{map-times}
use Rattle.theory_rings.proofs.Polynomials.PolynomialRing.{constant}
use Rattle.theory_rings.proofs.Polynomials.Constants.{constant-zero, constant-one, constant_hom}
use Rattle.theory_rings.proofs.Polynomials.Bezout.{field_polynomials, field_degree-mul}
use Rattle.theory_rings.proofs.Polynomials.Irreducible.{irreducible-ne-zero, divides_or, degree_le_of_divides}
use Rattle.theory_rings.proofs.Rings.Solver.{◌⊠◌, ring3, ring4}
use Rattle.theory_rings.proofs.Polynomials.ElementLists.{values}
use Rattle.theory_rings.proofs.Fractions.Fractions.{fraction_of_value, value_same}
use Rattle.theory_rings.proofs.Fractions.Lowest.{polynomial_reduction, rational_functions}
use Rattle.theory_rings.proofs.Fractions.Lowest.{is_rational_functions}
use Rattle.theory_spaces.specs.Lattice.{IsSubring}
use Rattle.theory_lattices.specs.RationalFunctions.{Rational, of_polynomial}
use Rattle.theory_lattices.proofs.Degree.FractionDegrees.{of_hom, eq_of_value, of-ne-zero}
use Rattle.theory_fractions.specs.PolynomialLists.{IsPolynomialList}
use Rattle.theory_fractions.specs.FractionOps.{polynomial_of, rational_function, fraction_ops}
use Rattle.theory_fractions.specs.FractionLaws.{FractionsAreRational}
use Rattle.theory_fractions.specs.CommonDenominator.{as_fraction}
use Rattle.theory_fractions.proofs.ListPolynomials.{degree-polynomial_of, IsPolynomialList-values, values_back}
use Rattle.theory_fractions.proofs.RationalFractions.{fractions_are_rational}
use Rattle.theory_fractions.proofs.FractionField.{rational_function_injective, polynomial_of-values, polynomial_of-nil}
use Rattle.theory_factors.proofs.Unique.{same_of_divides}
use Rattle.theory_remainders.specs.RemainderOps.{remainder_ops}
use Rattle.theory_remainders.proofs.RemainderField.{is_remainder-nil, monic}
use Rattle.theory_places.specs.Places.{Finite}
use Rattle.theory_places.specs.Places as rational
use Rattle.theory_places.specs.FractionPlaces.{IsIntegralAt, IsMonicIrreducible, fractions}
use Rattle.theory_places.proofs.FractionPlaces.{integral_at, is_place_of}
use Rattle.theory_places.proofs.Rationals.{inv_value}
use Rattle.theory_bases.specs.Bases.{IsPolynomialFraction}
use Rattle.theory_left_orders.specs.FractionResidues.{ResidueRingsBy}
use Rattle.theory_left_orders.proofs.FractionResidues.{over_one, over_one_is, num_is, poly_of_value, rest, rest_small}
use Rattle.theory_left_orders.proofs.FractionResidues.{rest_is, poly_loc}
use Rattle.theory_growth.proofs.Localized.{Multiplier, Localizes}

module _ {E : Type 0} (o : Ops E) (L : FieldLaws o) (M : FieldLaws (fraction_ops o L)) where
  infixl 70 ◌⊗◌
  abbrev F : FieldOn (Elem o)
  F = elements o L

  abbrev P : CommRingOn (Poly F.cring)
  P = field_polynomials F

  abbrev Q : FieldOn (Rational F)
  Q = rational_functions F

  abbrev FE : Type 0
  FE = Elem (fraction_ops o L)

  abbrev K : FieldOn FE
  K = fractions o L M

  abbrev ◌⊗◌ : FE → FE → FE
  ◌⊗◌ = K.◌⊗◌

  abbrev h : FE → Rational F
  h a = rational_function o L a.0

  abbrev H : FractionsAreRational o L M
  H = fractions_are_rational o L M

  abbrev of : Poly F.cring → Rational F
  of = of_polynomial F

  of-hom : IsRingHom P.ring Q.ring of
  of-hom = of_hom P (IsLowest F.cring P) (polynomial_reduction F) Q (is_rational_functions F)

  h_injective : (a b : FE) → h a ≡ h b → a ≡ b
  unfolding fraction_ops
  h_injective a b e = Elem-path (fraction_ops o L) a b (rational_function_injective o L a.0 b.0 a.1 b.1 e)

  -- the characteristic
  pub fraction_characteristic : (c : ℕ) → times_of o c o.one ≡ o.zero → times K.monoid c K.one ≡ K.zero
  fraction_characteristic c e =
      let cst = constant F.cring F.zero_test in
      let x = times K.monoid c K.one in
      let none = constant-zero F.cring F.zero_test in
      let z : times F.monoid c F.one ≡ F.zero =
      Elem-path o (times F.monoid c F.one) F.zero (sym (times_of-elements o L c F.one) ∙ e) in
      h_injective x K.zero
      (map-times K.monoid Q.monoid h (map-zero K.ring Q.ring h H.hom) H.hom.map-add c K.one
      ∙ ap (times Q.monoid c) (H.hom.map-one ∙ sym of-hom.map-one ∙ ap of (sym (constant-one F.cring F.zero_test)))
      ∙ sym (map-times F.monoid Q.monoid (λ a. of (cst a))
      (ap of none ∙ map-zero P.ring Q.ring of of-hom)
      (λ a b. ap of ((constant_hom F.cring F.zero_test).map-add a b) ∙ of-hom.map-add (cst a) (cst b)) c F.one)
      ∙ ap (λ a. of (cst a)) z ∙ ap of none ∙ map-zero P.ring Q.ring of of-hom
      ∙ sym (map-zero K.ring Q.ring h H.hom))

  module _ (m : List E) (s : IsMonicIrreducible o m) where
    abbrev IsPoly : FE → Type 0
    IsPoly w = IsPolynomialFraction o w.0

    abbrev IsLoc : FE → Type 0
    IsLoc w = IsIntegralAt o (Finite m) w.0

    abbrev poly : Poly F.cring
    poly = polynomial_of o L m

    -- a polynomial as a fraction
    as_poly : Poly F.cring → FE
    as_poly v = over_one o L M m s (values o L v.0) (IsPolynomialList-values o L v)

    as_poly_is : (v : Poly F.cring) → h (as_poly v) ≡ of v
    unfolding as_poly
    as_poly_is v = over_one_is o L M m s (values o L v.0) (IsPolynomialList-values o L v)
        ∙ ap of (polynomial_of-values o L v)

    -- a polynomial that m does not divide has an integral inverse
    module _ (v : Poly F.cring) (off : Divides P poly v → ⊥) where
      v_ne : v ≡ P.zero → ⊥
      v_ne e = off (P.zero, e ∙ sym (zero-mul P.ring poly))

      of_ne : of v ≡ Q.zero → ⊥
      of_ne = of-ne-zero P (IsLowest F.cring P) (polynomial_reduction F) Q (is_rational_functions F) v v_ne

      as_ne : as_poly v ≢ K.zero
      as_ne e = of_ne (sym (as_poly_is v) ∙ ap h e ∙ map-zero K.ring Q.ring h H.hom)

      inverse_is : h (K.inv (as_poly v)) ≡ Q.inv (of v)
      inverse_is =
          let y = K.inv (as_poly v) in
          mul_left_cancel Q (of v) (h y) (Q.inv (of v)) of_ne
          (ap (λ z. Q.◌⊗◌ z (h y)) (sym (as_poly_is v)) ∙ sym (H.hom.map-mul (as_poly v) y)
          ∙ ap h (mul-inv K (as_poly v) as_ne) ∙ H.hom.map-one ∙ sym (mul-inv Q (of v) of_ne))

      inverse_loc : IsLoc (K.inv (as_poly v))
      inverse_loc =
          let y = K.inv (as_poly v) in
          (integral_at o L (Finite m) s y.0 y.1).0 (subst (rational.IsIntegralOff F poly) (sym inverse_is) (
            P.one,
            v,
            inv_value F Q (is_rational_functions F) (of v) v P.one
                (fraction_of_value P (IsLowest F.cring P) (polynomial_reduction F) v) of_ne,
            off,
          ))

      pub off_multiplier : Multiplier (fraction_ops o L) M (IsPolynomialFraction o) (IsIntegralAt o (Finite m))
      unfolding as_poly
      off_multiplier = record {
        u = as_poly v;
        w = K.inv (as_poly v);
        u_in = refl;
        w_in = inverse_loc;
        inverse = K.inv-mul (as_poly v) as_ne;
      }

    -- a power of m over a polynomial of no greater degree is integral
    module _ (sub : IsSubring K.ring IsLoc) where
      abbrev pm : FE
      pm = as_poly poly

      pm_in : IsLoc pm
      unfolding as_poly
      pm_in = poly_loc o L M m s pm refl

      as_nz : (v : Poly F.cring) → v ≢ P.zero → as_poly v ≢ K.zero
      as_nz v nz e = of-ne-zero P (IsLowest F.cring P) (polynomial_reduction F) Q (is_rational_functions F) v nz
          (sym (as_poly_is v) ∙ ap h e ∙ map-zero K.ring Q.ring h H.hom)

      power_in : (n : ℕ) → IsLoc (power K.ring pm n)
      power_in zero = sub.one_in
      power_in (suc n) = sub.mul_in pm (power K.ring pm n) pm_in (power_in n)

      -- the product with m
      as_product : (c v : Poly F.cring) → v ≡ P.◌⊗◌ c poly → as_poly v ≡ as_poly c ⊗ pm
      as_product c v e = h_injective (as_poly v) (as_poly c ⊗ pm) (as_poly_is v ∙ ap of e ∙ of-hom.map-mul c poly
          ∙ ap₂ Q.◌⊗◌ (sym (as_poly_is c)) (sym (as_poly_is poly)) ∙ sym (H.hom.map-mul (as_poly c) pm))

      cancel : (x c y : FE) → c ≢ K.zero → x ≢ K.zero → x ≡ c ⊗ pm → (pm ⊗ y) ⊗ K.inv x ≡ y ⊗ K.inv c
      cancel x c y nc nx e = mul_left_cancel K x ((pm ⊗ y) ⊗ K.inv x) (y ⊗ K.inv c) nx
          (ring3 K.cring (λ x z i. (x ⊠ (z ⊠ i), z ⊠ (x ⊠ i))) refl x (pm ⊗ y) (K.inv x)
          ∙ ap (K.◌⊗◌ (pm ⊗ y)) (mul-inv K x nx) ∙ K.mul-one (pm ⊗ y)
          ∙ sym (ap (λ z. z ⊗ (y ⊗ K.inv c)) e
          ∙ ring4 K.cring (λ c m y i. ((c ⊠ m) ⊠ (y ⊠ i), (m ⊠ y) ⊠ (c ⊠ i))) refl c pm y (K.inv c)
          ∙ ap (K.◌⊗◌ (pm ⊗ y)) (mul-inv K c nc) ∙ K.mul-one (pm ⊗ y)))

      power_over : (n : ℕ) (v : Poly F.cring) → v ≢ P.zero → degree v.0 ≤ n
          → IsLoc (power K.ring pm n ⊗ K.inv (as_poly v))
      power_over zero v nz l = ⊎_elim
          (λ (d : Divides P poly v).
          let low = degree_le_of_divides F poly v d nz in
          let pos = (is_place_of o L (Finite m) s).1.positive in absurd (omega arith))
          (λ (off : Divides P poly v → ⊥). sub.mul_in K.one (K.inv (as_poly v)) sub.one_in (inverse_loc v off))
          (divides_or F poly v (irreducible-ne-zero F poly (is_place_of o L (Finite m) s).1))
      power_over (suc n) v nz l = ⊎_elim
          (λ (d : Divides P poly v).
          let c = d.0 in
          let e = d.1 in
          let nc : c ≢ P.zero = left_ne_zero_of_mul P.ring c poly (λ z. nz (e ∙ z)) in
          let nm = irreducible-ne-zero F poly (is_place_of o L (Finite m) s).1 in
          let pos = (is_place_of o L (Finite m) s).1.positive in
          let sum = field_degree-mul F c poly nc nm in
          let same : degree v.0 ≡ degree (P.◌⊗◌ c poly).0 = ap (λ (x : Poly F.cring). degree x.0) e in
          subst IsLoc (sym (cancel (as_poly v) (as_poly c) (power K.ring pm n) (as_nz c nc) (as_nz v nz)
          (as_product c v e))) (power_over n c nc (omega arith)))
          (λ (off : Divides P poly v → ⊥).
          sub.mul_in (power K.ring pm (suc n)) (K.inv (as_poly v)) (power_in (suc n)) (inverse_loc v off))
          (divides_or F poly v (irreducible-ne-zero F poly (is_place_of o L (Finite m) s).1))

      -- the same of a list
      pub power_over_list : (c : List E) → IsPolynomialList o c → c ≢ [] → (p d : FE) → p.0 ≡ as_fraction o m
          → d.0 ≡ as_fraction o c
          → (d ≢ K.zero) × IsLoc (power K.ring p (degree c) ⊗ K.inv d)
      unfolding as_poly
      power_over_list c hc nz p d ep ed =
          let v = polynomial_of o L c in
          let nv : v ≢ P.zero = λ e. nz (sym (values_back o L c hc)
          ∙ ap (λ (x : Poly F.cring). values o L x.0) (e ∙ sym (polynomial_of-nil o L))
          ∙ values_back o L [] (is_remainder-nil o L m s.irreducible).polynomial) in
          let dv : as_poly v ≡ d = Elem-path (fraction_ops o L) (as_poly v) d
          (ap (as_fraction o) (values_back o L c hc) ∙ sym ed) in
          let pv : pm ≡ p = Elem-path (fraction_ops o L) pm p
          (ap (as_fraction o) (values_back o L m s.polynomial) ∙ sym ep) in
          let deg = degree-polynomial_of o L c hc in (
            (λ e. as_nz v nv (dv ∙ e)),
            subst (λ x. IsLoc (power K.ring x (degree c) ⊗ K.inv d)) pv
                (subst (λ x. IsLoc (power K.ring pm (degree c) ⊗ K.inv x)) dv
                (power_over (degree c) v nv (omega arith))),
          )

    -- another monic irreducible polynomial as such
    module _ (l : List E) (sl : IsMonicIrreducible o l) (other : l ≢ m) where
      v : Poly F.cring
      v = polynomial_of o L l

      not_divided : Divides P poly v → ⊥
      unfolding v
      not_divided d =
          let is_place = is_place_of o L (Finite m) s in
          let other_place = is_place_of o L (Finite l) sl in
          other (sym (values_back o L l sl.polynomial)
          ∙ ap (λ (x : Poly F.cring). values o L x.0) (sym (same_of_divides F poly v
          is_place.0 other_place.0 is_place.1 other_place.1 d))
          ∙ values_back o L m s.polynomial)

      pub place_multiplier : Multiplier (fraction_ops o L) M (IsPolynomialFraction o) (IsIntegralAt o (Finite m))
      place_multiplier = off_multiplier v not_divided

      pub place_multiplier-is : place_multiplier.u.0 ≡ as_fraction o l
      unfolding place_multiplier off_multiplier as_poly v
      place_multiplier-is = ap (as_fraction o) (values_back o L l sl.polynomial)

    pub localizes : Localizes (fraction_ops o L) M (IsPolynomialFraction o) (IsIntegralAt o (Finite m))
    unfolding off_multiplier
    localizes = record {
      larger = poly_loc o L M m s;
      clears = λ a i.
          let t = (integral_at o L (Finite m) s a.0 a.1).1 i in
          let u = t.0 in
          let v = t.1 in
          let x = as_poly v ⊗ a in
          let y = Q.◌⊗◌ (of v) (h a) in
          let value = (is_rational_functions F).mul_value (of v) (h a) v P.one u v
          (fraction_of_value P (IsLowest F.cring P) (polynomial_reduction F) v) t.2 in (
            off_multiplier v t.3,
            poly_of_value o L M m s x u (H.hom.map-mul (as_poly v) a ∙ ap (λ z. Q.◌⊗◌ z (h a)) (as_poly_is v)
                ∙ eq_of_value P (IsLowest F.cring P) (polynomial_reduction F) Q (is_rational_functions F) y u
                (value_same P (IsLowest F.cring P) (polynomial_reduction F) y (P.◌⊗◌ v u) (P.◌⊗◌ P.one v) u P.one
                (λ e. v_ne v t.3 (sym (P.one-mul v) ∙ e)) value
                (P.mul-one (P.◌⊗◌ v u) ∙ P.mul_comm v u ∙ ap (P.◌⊗◌ u) (sym (P.one-mul v))))),
          );
    }

    -- the residues
    module _ (N : FieldLaws (remainder_ops o L m (monic o L m s.irreducible)))
        (R : ResidueRingsBy o L M m (remainder_ops o L m (monic o L m s.irreducible)) N) where
      pub residues_agree : (a : FE) → IsPoly a → R.at_place.res a ≡ R.polynomials.res a
      residues_agree a e =
          let r = remainder_ops o L m (monic o L m s.irreducible) in
          let u = a.0.0 in
          let hu = num_is o L M m s a in
          let small = rest_small o L M m s u in
          let is = rest_is o L M m s u hu in
          let e' = ap (λ v. (u, v)) e in
          Elem-path r (R.at_place.res a) (R.polynomials.res a)
          (R.at_place_values.polynomial_value a u (rest o L M m s u) hu e' small is
          ∙ sym (R.polynomial_values.polynomial_value a u (rest o L M m s u) hu e' small is))
