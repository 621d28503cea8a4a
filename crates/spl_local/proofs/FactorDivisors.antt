-- A monic irreducible polynomial that divides a polynomial is one of its factors.
use Rattle.std.specs.Prelude.{◌≡◌, ◌≢◌, ◌<◌, ℕ, zero, suc, List, [], ◌∷◌, length, get_or}
use Rattle.std.proofs.Common.{sym, ◌∙◌, ap, subst, arith, ⊎_elim}
use Rattle.theory_rings.specs.Ring.{FieldOn, CommRingOn}
use Rattle.theory_rings.specs.Ops.{Ops, FieldLaws, IsElem}
use Rattle.theory_rings.specs.Elements.{Elem}
use Rattle.theory_rings.specs.Power.{power}
use Rattle.theory_rings.specs.Polynomial.{Poly, IsMonic}
use Rattle.theory_rings.specs.Division.{Divides as DividesIn, IsIrreducible}
use Rattle.theory_rings.proofs.Rings.RingLaws.{left_ne_zero_of_mul}
use Rattle.theory_rings.proofs.Polynomials.PolynomialRing.{constant}
use Rattle.theory_rings.proofs.Polynomials.Constants.{coefficient-constant_mul}
use Rattle.theory_rings.proofs.Polynomials.Degrees.{degree-constant}
use Rattle.theory_rings.proofs.Polynomials.Irreducible.{degree_le_of_divides, irreducible_prime}
use Rattle.theory_fractions.specs.PolynomialLists.{IsPolynomialList, Divides}
use Rattle.theory_fractions.proofs.CommonDenominators.{poly_divides}
use Rattle.theory_fractions.proofs.Lifting.{eq_of_coefficients}
use Rattle.theory_fractions.proofs.ListPolynomials.{has_polynomial_of, values_back}
use Rattle.theory_fractions.proofs.Reducing.{poly-ne-zero}
use Rattle.theory_rings.proofs.Polynomials.ElementLists.{values}
use Rattle.theory_rings.specs.Sum.{at}
use Rattle.theory_factors.proofs.Unique.{not_divides_one, divides_of_power, same_of_divides}
use Rattle.theory_places.specs.Places.{Finite}
use Rattle.theory_places.specs.FractionPlaces.{IsMonicIrreducible}
use Rattle.theory_places.proofs.FractionPlaces.{is_place_of}
use Rattle.spl_field.specs.declared.small.SmallField.{SmallField}
use Rattle.spl_field.specs.SmallField.{small_ops, small_laws}
use Rattle.spl_factor.specs.Factorisation.{Powers, IsFactor, AreFactors, IsMultipleOfProduct, product_coefficients}
use Rattle.spl_factor.specs.Steps.{field, ring, poly, product_of_powers}
use Rattle.spl_factor.proofs.Products.{has-product}
use Rattle.spl_local.specs.Everywhere.{IsNoFactorFrom}

-- a factor is monic and irreducible
pub factor_irreducible : (o : Ops ℕ) (x : List ℕ × ℕ) → IsFactor o x → IsMonicIrreducible o x.0
factor_irreducible o x h = record { irreducible = h.irreducible; monic = h.monic }

-- the factors from place i on, each
pub factor_at : (o : Ops ℕ) (xs : Powers) → AreFactors o xs → (i : ℕ) (d : List ℕ × ℕ) → i < length xs
    → IsFactor o (get_or xs i d)
factor_at o [] t i d l = absurd (omega (arith, l))
factor_at o (x ∷ xs) t zero d l = t.0
factor_at o (x ∷ xs) t (suc i) d l = factor_at o xs t.2 i d (omega (arith, l))

module _ (f : SmallField) (m : List ℕ) (s : IsMonicIrreducible (small_ops f) m) where
  abbrev o : Ops ℕ
  o = small_ops f

  abbrev L : FieldLaws (small_ops f)
  L = small_laws f

  abbrev F : FieldOn (Elem (small_ops f))
  F = field f

  abbrev P : CommRingOn (Poly (field f).cring)
  P = ring f

  abbrev p : Poly (field f).cring
  p = poly f m

  place : IsMonic F.cring p × IsIrreducible F.cring P p
  place = is_place_of o L (Finite m) s

  same_factor : (x : List ℕ × ℕ) → IsFactor o x → DividesIn P p (poly f x.0) → x.0 ≡ m
  same_factor x h d =
      let i = h.irreducible in
      let q = is_place_of o L (Finite x.0) (factor_irreducible o x h) in
      sym (values_back o L x.0 i.polynomial)
      ∙ ap (λ (y : Poly F.cring). values o L y.0)
      (sym (same_of_divides F p (poly f x.0) place.0 q.0 place.1 q.1 d))
      ∙ values_back o L m s.polynomial

  none_divides : (xs : Powers) → AreFactors o xs → IsNoFactorFrom 0 m xs → DividesIn P p (product_of_powers f xs) → ⊥
  none_divides [] t n d = not_divides_one F p place.1 d
  none_divides (x ∷ xs) t n d = ⊎_elim
      (λ (h : DividesIn P p (power P.ring (poly f x.0) x.1)).
      n 0 x (omega arith) (omega arith) (same_factor x t.0 (divides_of_power F p (poly f x.0) place.1 x.1 h)))
      (λ (h : DividesIn P p (product_of_powers f xs)).
      none_divides xs t.2 (λ j d k l. n (suc j) d (omega arith) (omega (arith, l))) h)
      (irreducible_prime F p place.1 (power P.ring (poly f x.0) x.1) (product_of_powers f xs) d)

  module _ (a : List ℕ) (ha : IsPolynomialList o a) (n : a ≢ []) (c : ℕ) (e : IsElem o c) (xs : Powers)
      (t : AreFactors o xs) (h : IsMultipleOfProduct o a c xs) where
    abbrev k : Poly (field f).cring
    k = constant F.cring F.zero_test (c, e)

    abbrev w : Poly (field f).cring
    w = product_of_powers f xs

    whole : poly f a ≡ P.◌⊗◌ k w
    whole = eq_of_coefficients o L (poly f a) (P.◌⊗◌ k w) (at o a) (λ i. o.mul c (product_coefficients o xs i))
        (has_polynomial_of o L a ha.over)
        (λ i. ap (o.mul c) (has-product f xs t i)
        ∙ sym (ap (λ (z : Elem (small_ops f)). z.0) (coefficient-constant_mul F.cring F.zero_test (c, e) w i))) h

    constant-ne-zero : k ≢ P.zero
    constant-ne-zero = left_ne_zero_of_mul P.ring k w (λ z. poly-ne-zero o L a ha n (whole ∙ z))

    -- what is none of the factors does not divide the polynomial
    pub no_divisor : IsNoFactorFrom 0 m xs → Divides o m a → ⊥
    no_divisor off d =
        let hm = s.polynomial in
        let i = place.1 in
        ⊎_elim
        (λ (g : DividesIn P p k). absurd (omega (
          arith,
          degree_le_of_divides F p k g constant-ne-zero,
          degree-constant F.cring F.zero_test (c, e),
          i.positive,
        )))
        (λ (g : DividesIn P p w). none_divides xs t off g)
        (irreducible_prime F p i k w (subst (DividesIn P p) whole (poly_divides o L m a hm.over ha.over d)))
