-- Fractions are integral at a monic irreducible polynomial exactly where it does not divide their least denominator.
use Rattle.std.specs.Prelude.{◌≡◌, ◌≢◌, List, get_or}
use Rattle.std.specs.List.{All}
use Rattle.std.proofs.Common.{refl, sym, ◌∙◌, ap, subst, arith}
use Rattle.theory_rings.specs.Ring.{FieldOn, CommRingOn}
use Rattle.theory_rings.specs.Ops.{Ops, IsElem, FieldLaws}
use Rattle.theory_rings.specs.Elements.{Elem, elements}
use Rattle.theory_rings.specs.Polynomial.{Poly, degree}
use Rattle.theory_rings.specs.Division.{Divides as DividesIn, IsIrreducible}
use Rattle.theory_rings.proofs.Rings.RingLaws.{left_ne_zero_of_mul}
use Rattle.theory_rings.proofs.Polynomials.Bezout.{field_polynomials, field_degree-mul, divides_of_coprime}
use Rattle.theory_rings.proofs.Polynomials.ElementLists.{values}
use Rattle.theory_rings.proofs.Polynomials.Irreducible.{irreducible-ne-zero, irreducible_coprime, degree_le_of_divides}
use Rattle.theory_rings.proofs.Fractions.Lowest.{rational_functions, is_rational_functions}
use Rattle.theory_fractions.specs.PolynomialLists.{IsOver, Divides, IsPolynomialList}
use Rattle.theory_fractions.specs.Fraction.{Pair}
use Rattle.theory_fractions.specs.FractionOps.{polynomial_of, rational_function, fraction_ops}
use Rattle.theory_fractions.proofs.CommonDenominators.{poly_divides, divides_of_poly, divides_trans, nonzero_of_monic}
use Rattle.theory_fractions.proofs.CommonDenominators.{clears_of_divides, divides_of_clears}
use Rattle.theory_fractions.proofs.ElementClauses.{lowest_of_elem}
use Rattle.theory_fractions.proofs.FractionField.{polynomial_of-values, rational_function_eq}
use Rattle.theory_fractions.proofs.Lifting.{values-over}
use Rattle.theory_fractions.proofs.Reducing.{poly-ne-zero}
use Rattle.theory_places.specs.Places.{Finite}
use Rattle.theory_places.specs.FractionPlaces.{IsIntegralAt, IsMonicIrreducible}
use Rattle.theory_places.proofs.FinitePlaces.{off_den}
use Rattle.theory_places.proofs.FractionPlaces.{integral_at, is_place_of}
use Rattle.theory_bases.specs.Bases.{IsDenominatorOf}

module _ {E : Type 0} (o : Ops E) (L : FieldLaws o) (m : List E) (s : IsMonicIrreducible o m) where
  abbrev F : FieldOn (Elem o)
  F = elements o L

  abbrev P : CommRingOn (Poly F.cring)
  P = field_polynomials F

  abbrev poly : List E → Poly F.cring
  poly = polynomial_of o L

  abbrev Frac : Pair E → Type 0
  Frac w = IsElem (fraction_ops o L) w

  irreducible : IsIrreducible F.cring P (poly m)
  irreducible = (is_place_of o L (Finite m) s).1

  den_path : (w : Pair E) → Frac w → (rational_function o L w).0.1 ≡ poly w.1
  unfolding fraction_ops
  den_path w h = ap (λ x. x.0.1) (rational_function_eq o L w h)

  -- a fraction in lowest terms is integral exactly where m does not divide its denominator
  pub off_of_integral : (w : Pair E) → Frac w → IsIntegralAt o (Finite m) w → Divides o m w.1 → ⊥
  off_of_integral w h i d =
      let low = lowest_of_elem o L w h in
      let r = (integral_at o L (Finite m) s w h).1 i in
      off_den F (rational_functions F) (is_rational_functions F) (poly m) irreducible (rational_function o L w) r.0 r.1
      r.2 r.3 (subst (DividesIn P (poly m)) (sym (den_path w h))
      (poly_divides o L m w.1 s.polynomial.over low.denominator_over d))

  pub integral_of_off : (w : Pair E) → Frac w → (Divides o m w.1 → ⊥) → IsIntegralAt o (Finite m) w
  integral_of_off w h n =
      let low = lowest_of_elem o L w h in
      record {
        u = w.0;
        v = w.1;
        numerator = record { over = low.numerator_over; trimmed = low.numerator_trimmed };
        denominator = record { over = low.denominator_over; trimmed = low.denominator_trimmed };
        value = record { products = λ k. refl };
        off = n;
      }

  module _ (tuples : List (List (Pair E))) (elems : All (All Frac) tuples) (c : List E) (hc : IsPolynomialList o c)
      (D : IsDenominatorOf o tuples c) where
    pub all_integral : (Divides o m c → ⊥) → All (All (IsIntegralAt o (Finite m))) tuples
    all_integral n i x i_in j y j_in =
        let w = get_or (get_or tuples i x) j y in
        let h : Frac w = elems i x i_in j y j_in in
        let low = lowest_of_elem o L w h in
        integral_of_off w h (λ d. n (divides_trans o L m w.1 c s.polynomial.over low.denominator_over hc.over d
        (divides_of_clears o L c w hc.over low (D.clears i x i_in j y j_in))))

    c_ne : poly c ≢ P.zero
    c_ne = poly-ne-zero o L c hc (nonzero_of_monic o L c D.monic)

    -- what is left of c without m would clear all
    pub off_denominator : All (All (IsIntegralAt o (Finite m))) tuples → Divides o m c → ⊥
    off_denominator integral d =
        let q = poly_divides o L m c s.polynomial.over hc.over d in
        let e : List E = values o L q.0.0 in
        let he : IsOver o e = values-over o L q.0.0 in
        let whole : poly c ≡ P.◌⊗◌ q.0 (poly m) = q.1 in
        let q_ne : q.0 ≢ P.zero = left_ne_zero_of_mul P.ring q.0 (poly m) (λ z. c_ne (whole ∙ z)) in
        let sum = field_degree-mul F q.0 (poly m) q_ne (irreducible-ne-zero F (poly m) irreducible) in
        let least = D.least e he (λ i x i_in j y j_in.
        let w = get_or (get_or tuples i x) j y in
        let h : Frac w = elems i x i_in j y j_in in
        let low = lowest_of_elem o L w h in
        let n = off_of_integral w h (integral i x i_in j y j_in) in
        let b = poly_divides o L w.1 c low.denominator_over hc.over
        (divides_of_clears o L c w hc.over low (D.clears i x i_in j y j_in)) in
        clears_of_divides o L e w he low (divides_of_poly o L w.1 e low.denominator_over he
        (subst (DividesIn P (poly w.1)) (sym (polynomial_of-values o L q.0))
        (divides_of_coprime F (poly w.1) (poly m) q.0
        (irreducible_coprime F (poly m) irreducible (poly w.1)
        (λ t. n (divides_of_poly o L m w.1 s.polynomial.over low.denominator_over t)))
        (b.0, sym (whole ∙ P.mul_comm q.0 (poly m)) ∙ b.1))))) in
        let low = degree_le_of_divides F (poly c) q.0
        (subst (DividesIn P (poly c)) (polynomial_of-values o L q.0) (poly_divides o L c e hc.over he least)) q_ne in
        let g = irreducible.positive in
        absurd (omega (arith, low, sum, g, ap (λ (t : Poly F.cring). degree t.0) whole))
