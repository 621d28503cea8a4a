-- How often one polynomial divides another: the steps by which it is counted.
use Rattle.std.specs.Prelude.{◌≡◌, ◌≢◌, ℕ, zero, suc, ◌+◌, ◌<◌, ◌≤◌, ℤ, pos, ◌-ℤ◌, List, [], length}
use Rattle.std.proofs.Common.{refl, sym, ◌∙◌, ap, subst, arith}
use Rattle.theory_rings.specs.Ring.{FieldOn, CommRingOn}
use Rattle.theory_rings.specs.Ops.{Ops, FieldLaws}
use Rattle.theory_rings.specs.Elements.{Elem, elements}
use Rattle.theory_rings.specs.Power.{power}
use Rattle.theory_rings.specs.Sum.{at}
use Rattle.theory_rings.specs.Polynomial.{Poly, IsTrimmed, convolution_of, degree}
use Rattle.theory_rings.proofs.Rings.RingLaws.{zero-mul}
use Rattle.theory_rings.proofs.Rings.Solver.{◌⊞◌, ◌⊠◌, minus, ring2, ring3}
use Rattle.theory_rings.proofs.Polynomials.Degrees.{length-degree_of_ne_zero, ne_zero_of_length}
use Rattle.theory_rings.proofs.Polynomials.PolynomialRing.{zero-list}
use Rattle.theory_rings.proofs.Polynomials.Bezout.{field_polynomials, field_degree-mul}
use Rattle.theory_rings.proofs.Polynomials.ElementLists.{values}
use Rattle.theory_fractions.specs.PolynomialLists.{IsOver, IsProduct, IsDivision, IsPolynomialList, Divides}
use Rattle.theory_fractions.specs.FractionOps.{polynomial_of}
use Rattle.theory_fractions.proofs.Coefficients.{add-zero_elem, convolution_of-elem, convolution_of_congr}
use Rattle.theory_fractions.proofs.FractionField.{polynomial_of-nil}
use Rattle.theory_fractions.proofs.Lifting.{HasCoefficients, eq_of_coefficients, coefficients_of_eq, has-add, has-mul}
use Rattle.theory_fractions.proofs.Lifting.{has-one}
use Rattle.theory_fractions.proofs.ListPolynomials.{has_polynomial_of, values_back, length-polynomial_of}
use Rattle.theory_fractions.proofs.Reducing.{exact_quotient, poly-mul}
use Rattle.spl_poly.specs.Operations.{power_coefficients}
use Rattle.theory_fractions.specs.Fraction.{Pair}
use Rattle.spl_fraction.specs.Multiplicity.{HasMultiplicity}
use Rattle.spl_fraction.specs.Valuation.{HasValuationAtPolynomial}

module _ {E : Type 0} (o : Ops E) (L : FieldLaws o) where
  abbrev F : FieldOn (Elem o)
  F = elements o L

  abbrev P : CommRingOn (Poly F.cring)
  P = field_polynomials F

  abbrev Is : List E → Type 0
  Is = IsPolynomialList o

  abbrev poly : List E → Poly F.cring
  poly = polynomial_of o L

  nil_of_poly : (r : List E) → Is r → poly r ≡ P.zero → r ≡ []
  nil_of_poly r hr e = sym (values_back o L r hr) ∙ ap (λ (u : Poly F.cring). values o L u.0) e
      ∙ ap (values o L) (zero-list F.cring F.zero_test)

  -- what divides leaves no remainder
  pub no_remainder : (a m q r : List E) → Is a → Is m → Is q → Is r → m ≢ [] → IsDivision o a m q r → Divides o m a
      → r ≡ []
  no_remainder a m q r ha hm hq hr n e d =
      let x = P.◌⊗◌ (poly q) (poly m) in
      let whole : poly a ≡ P.◌⊕◌ x (poly r) =
      eq_of_coefficients o L (poly a) (P.◌⊕◌ x (poly r)) (at o a)
      (λ k. o.add (convolution_of o (at o q) (at o m) k) (at o r k)) (has_polynomial_of o L a ha.over)
      (has-add o L x (poly r) (convolution_of o (at o q) (at o m)) (at o r)
      (has-mul o L (poly q) (poly m) (at o q) (at o m) (has_polynomial_of o L q hq.over)
      (has_polynomial_of o L m hm.over)) (has_polynomial_of o L r hr.over)) e.whole in
      nil_of_poly r hr
      (ring2 P (λ x r. (r, (x ⊞ r) ⊞ minus x)) refl x (poly r)
      ∙ ap (λ y. P.◌⊕◌ y (P.neg x)) (sym whole ∙ exact_quotient o L a m q r ha hm hq hr n d e)
      ∙ P.add_comm x (P.neg x) ∙ P.neg-add x)

  -- what leaves no remainder divides
  pub product_of_division : (a m q r : List E) → IsOver o a → IsOver o m → IsOver o q → IsDivision o a m q r → r ≡ []
      → IsProduct o q m a
  product_of_division a m q r ha hm hq e z k =
      e.whole k ∙ ap (λ x. o.add (convolution_of o (at o q) (at o m) k) (at o x k)) z
      ∙ add-zero_elem o L (convolution_of o (at o q) (at o m) k)
      (convolution_of-elem o L q m hq hm k)

  has-powers : (m : List E) (n : ℕ) → IsOver o m
      → HasCoefficients o L (power P.ring (poly m) n) (power_coefficients o m n)
  has-powers m zero h = has-one o L
  has-powers m (suc n) h = has-mul o L (poly m) (power P.ring (poly m) n) (at o m) (power_coefficients o m n)
      (has_polynomial_of o L m h) (has-powers m n h)

  -- a is m^n · rest
  pub record IsPowerTimes (m a rest : List E) (n : ℕ) : Type 0 where
    pub over : IsOver o rest
    pub trimmed : IsTrimmed o.zero rest
    pub whole : (k : ℕ) → at o a k ≡ convolution_of o (power_coefficients o m n) (at o rest) k
    pub nonzero : rest ≢ []
    pub shorter : n + length rest ≤ length a

  module _ (m a : List E) (hm : Is m) (ha : Is a) where
    equation : (rest : List E) (n : ℕ) → IsOver o rest
        → ((k : ℕ) → at o a k ≡ convolution_of o (power_coefficients o m n) (at o rest) k)
        → poly a ≡ P.◌⊗◌ (power P.ring (poly m) n) (poly rest)
    equation rest n h e = eq_of_coefficients o L (poly a) (P.◌⊗◌ (power P.ring (poly m) n) (poly rest)) (at o a)
        (convolution_of o (power_coefficients o m n) (at o rest)) (has_polynomial_of o L a ha.over)
        (has-mul o L (power P.ring (poly m) n) (poly rest) (power_coefficients o m n) (at o rest)
        (has-powers m n hm.over) (has_polynomial_of o L rest h)) e

    coefficients : (rest : List E) (n : ℕ) → IsOver o rest
        → poly a ≡ P.◌⊗◌ (power P.ring (poly m) n) (poly rest)
        → (k : ℕ) → at o a k ≡ convolution_of o (power_coefficients o m n) (at o rest) k
    coefficients rest n h e = coefficients_of_eq o L (poly a) (P.◌⊗◌ (power P.ring (poly m) n) (poly rest)) (at o a)
        (convolution_of o (power_coefficients o m n) (at o rest)) (has_polynomial_of o L a ha.over)
        (has-mul o L (power P.ring (poly m) n) (poly rest) (power_coefficients o m n) (at o rest)
        (has-powers m n hm.over) (has_polynomial_of o L rest h)) e

    -- at first the power is 1
    pub power_start : (rest : List E) → rest ≡ a → a ≢ [] → IsPowerTimes m a rest 0
    power_start rest e ne = subst (λ x. IsPowerTimes m a x 0) (sym e) record {
      over = ha.over;
      trimmed = ha.trimmed;
      whole = coefficients a 0 ha.over (sym (P.one-mul (poly a)));
      nonzero = ne;
      shorter = omega arith;
    }

    -- one more factor
    module _ (rest next : List E) (n : ℕ) (h : IsPowerTimes m a rest n) (ho : IsOver o next)
        (ht : IsTrimmed o.zero next) (e : IsProduct o next m rest) (long : 1 < length m) where
      hn : Is next
      hn = record { over = ho; trimmed = ht }

      hr : Is rest
      hr = record { over = h.over; trimmed = h.trimmed }

      abbrev x : Poly F.cring
      x = power P.ring (poly m) n

      factors : poly rest ≡ P.◌⊗◌ (poly next) (poly m)
      factors = poly-mul o L next m rest ho hm.over h.over e

      rest-ne : poly rest ≢ P.zero
      rest-ne z = h.nonzero (nil_of_poly rest hr z)

      next-ne : poly next ≢ P.zero
      next-ne z = rest-ne (factors ∙ ap (λ t. P.◌⊗◌ t (poly m)) z ∙ zero-mul P.ring (poly m))

      m-ne : poly m ≢ P.zero
      m-ne = ne_zero_of_length F.cring F.zero_test (poly m) (omega (arith, long, length-polynomial_of o L m hm))

      lengths : length rest + 1 ≡ length next + length m
      lengths = omega (
        arith,
        ap (λ (t : Poly F.cring). degree t.0) factors ∙ field_degree-mul F (poly next) (poly m) next-ne m-ne,
        length-degree_of_ne_zero F.cring F.zero_test (poly rest) rest-ne,
        length-degree_of_ne_zero F.cring F.zero_test (poly next) next-ne,
        length-degree_of_ne_zero F.cring F.zero_test (poly m) m-ne,
        length-polynomial_of o L m hm,
        length-polynomial_of o L next hn,
        length-polynomial_of o L rest hr,
      )

      pub power_step : IsPowerTimes m a next (n + 1)
      power_step = let one_more : n + 1 ≡ suc n = omega arith in subst (IsPowerTimes m a next) (sym one_more) record {
        over = ho;
        trimmed = ht;
        whole = coefficients next (suc n) ho
            (equation rest n h.over h.whole ∙ ap (P.◌⊗◌ x) factors
            ∙ ring3 P (λ x q m. (x ⊠ (q ⊠ m), (m ⊠ x) ⊠ q)) refl x (poly next) (poly m));
        nonzero = λ z. next-ne (ap poly z ∙ polynomial_of-nil o L);
        shorter = omega (arith, h.shorter, lengths, long);
      }

      pub power_smaller : length next < length rest
      power_smaller = omega (arith, lengths, long)

    -- where it divides no more
    pub power_end : (rest : List E) (n : ℕ) → IsPowerTimes m a rest n → (Divides o m rest → ⊥) → HasMultiplicity o m a n
    power_end rest n h off = record { rest = rest; rest_over = h.over; whole = h.whole; off = off }

-- of both numerator and denominator
pub valuation_of_multiplicities : (o : Ops ℕ) (L : FieldLaws o) (m : List ℕ) (w : Pair ℕ) (s t : ℕ) (n : ℤ)
    → HasMultiplicity o m w.0 s → HasMultiplicity o m w.1 t → n ≡ pos s -ℤ pos t → HasValuationAtPolynomial o m w n
valuation_of_multiplicities o L m w s t n a b e = record {
  above = s;
  below = t;
  number = e;
  u = a.rest;
  v = b.rest;
  u_over = a.rest_over;
  v_over = b.rest_over;
  value = record {
    products = λ k. convolution_of_congr o L (at o w.0)
        (convolution_of o (power_coefficients o m t) (at o b.rest))
        (convolution_of o (power_coefficients o m s) (at o a.rest)) (at o w.1) a.whole (λ i. sym (b.whole i)) k;
  };
  u_off = a.off;
  v_off = b.off;
}
