-- Which quotients by a polynomial are integral at a monic irreducible polynomial m: those by its greatest power of m.
use Rattle.std.specs.Prelude.{◌≡◌, ◌≢◌, ℕ, zero, suc, ◌<◌, ◌≤◌, ◌+◌, ◌-◌, List, [], ◌∷◌, length}
use Rattle.std.proofs.Common.{refl, sym, ◌∙◌, ap, subst, arith, ⊎_elim}
use Rattle.theory_rings.specs.Ring.{FieldOn, CommRingOn}
use Rattle.theory_rings.specs.Ops.{Ops, IsElem, FieldLaws}
use Rattle.theory_rings.specs.Elements.{Elem, elements}
use Rattle.theory_rings.specs.Power.{power}
use Rattle.theory_rings.specs.Polynomial.{Poly, degree}
use Rattle.theory_rings.specs.Division.{Divides as DividesIn, IsIrreducible}
use Rattle.theory_rings.proofs.Rings.RingLaws.{right_ne_zero_of_mul}
use Rattle.theory_rings.proofs.Rings.Solver.{◌⊠◌, ring3}
use Rattle.theory_rings.proofs.Polynomials.Bezout.{field_polynomials, field_degree-mul, poly_mul_cancel_left}
use Rattle.theory_rings.proofs.Polynomials.Bezout.{divides_of_coprime, coprime_comm}
use Rattle.theory_rings.proofs.Polynomials.Degrees.{length-degree_of_ne_zero}
use Rattle.theory_rings.proofs.Polynomials.Irreducible.{irreducible-ne-zero, irreducible_prime, degree_le_of_divides}
use Rattle.theory_fractions.specs.PolynomialLists.{IsPolynomialList, IsProduct, Divides}
use Rattle.theory_fractions.specs.Fraction.{Pair}
use Rattle.theory_fractions.specs.FractionOps.{polynomial_of, fraction_ops}
use Rattle.theory_fractions.specs.CommonDenominator.{as_fraction}
use Rattle.theory_fractions.proofs.CommonDenominators.{poly_divides, divides_of_poly, one_divides}
use Rattle.theory_fractions.proofs.CommonDenominators.{over_one}
use Rattle.theory_fractions.proofs.ElementClauses.{lowest_of_elem}
use Rattle.theory_fractions.proofs.FractionField.{polynomial_of-nil, polynomial_of-one}
use Rattle.theory_fractions.proofs.LowestTerms.{coprime_polynomials}
use Rattle.theory_fractions.proofs.ListPolynomials.{length-polynomial_of}
use Rattle.theory_fractions.proofs.Reducing.{poly-mul, poly-ne-zero}
use Rattle.theory_places.specs.Places.{Finite}
use Rattle.theory_places.specs.FractionPlaces.{IsIntegralAt, IsMonicIrreducible}
use Rattle.theory_places.proofs.FractionPlaces.{is_place_of}
use Rattle.theory_bases.specs.Bases.{fraction_over}
use Rattle.theory_bases.proofs.FractionsOver.{over-elem, mul-over}
use Rattle.theory_bases.proofs.PolynomialDivisors.{up, fraction_field, fraction_product, product_of_fractions}
use Rattle.theory_bases.proofs.PolynomialDivisors.{numerator_of_fraction}
use Rattle.theory_left_orders.proofs.PlaceDenominators.{off_of_integral, integral_of_off}

module _ {E : Type 0} (o : Ops E) (L : FieldLaws o) where
  abbrev F : FieldOn (Elem o)
  F = elements o L

  abbrev P : CommRingOn (Poly F.cring)
  P = field_polynomials F

  abbrev D : Type 0
  D = Poly F.cring

  abbrev poly : List E → D
  poly = polynomial_of o L

  abbrev Is : List E → Type 0
  Is = IsPolynomialList o

  abbrev k : Ops (Pair E)
  k = fraction_ops o L

  -- equal products of fractions that are polynomials are equal products of polynomials
  same_products : (a b c d : List E) → Is a → Is b → Is c → Is d
      → k.mul (as_fraction o a) (as_fraction o b) ≡ k.mul (as_fraction o c) (as_fraction o d)
      → P.◌⊗◌ (poly a) (poly b) ≡ P.◌⊗◌ (poly c) (poly d)
  same_products a b c d ha hb hc hd e =
      let t = fraction_product o L a b ha hb in
      let ht = t.1 in
      sym (poly-mul o L a b t.0 ha.over hb.over ht.over (product_of_fractions o L a b t.0 ha hb ht t.2))
      ∙ poly-mul o L c d t.0 hc.over hd.over ht.over (product_of_fractions o L c d t.0 hc hd ht (t.2 ∙ e))

  -- p is a power of m, and divides s
  pub record IsPowerIn (m s p : List E) : Type 0 where
    pub polynomial : Is p
    pub exponent : ℕ
    pub power : poly p ≡ power P.ring (poly m) exponent
    pub divides : Divides o p s

  module _ (m : List E) (place : IsMonicIrreducible o m) where
    abbrev M : D
    M = poly m

    irreducible : IsIrreducible F.cring P M
    irreducible = (is_place_of o L (Finite m) place).1

    -- a power of m divides a product only where it divides the one factor, if m does not divide the other
    power_divides : (n : ℕ) (a b : D) → (DividesIn P M b → ⊥) → DividesIn P (power P.ring M n) (P.◌⊗◌ a b)
        → DividesIn P (power P.ring M n) a
    power_divides zero a b off d = (a, sym (P.mul-one a))
    power_divides (suc n) a b off d =
        let N = power P.ring M n in
        ⊎_elim
        (λ (h : DividesIn P M a).
        let left : P.◌⊗◌ h.0 b ≡ P.◌⊗◌ d.0 N =
        poly_mul_cancel_left F M (P.◌⊗◌ h.0 b) (P.◌⊗◌ d.0 N) (irreducible-ne-zero F M irreducible)
        (ring3 P (λ h b m. (m ⊠ (h ⊠ b), (h ⊠ m) ⊠ b)) refl h.0 b M ∙ ap (λ x. P.◌⊗◌ x b) (sym h.1) ∙ d.1
        ∙ ring3 P (λ d n m. (d ⊠ (m ⊠ n), m ⊠ (d ⊠ n))) refl d.0 N M) in
        let rest = power_divides n h.0 b off (d.0, left) in
        (rest.0, h.1 ∙ ap (λ x. P.◌⊗◌ x M) rest.1 ∙ ring3 P (λ r n m. ((r ⊠ n) ⊠ m, r ⊠ (m ⊠ n))) refl rest.0 N M))
        (λ (h : DividesIn P M b). absurd (off h))
        (irreducible_prime F M irreducible a b
        (P.◌⊗◌ d.0 N, d.1 ∙ ring3 P (λ d n m. (d ⊠ (m ⊠ n), (d ⊠ n) ⊠ m)) refl d.0 N M))

    module _ (s : List E) (hs : Is s) (ns : s ≢ []) where
      abbrev S : D
      S = poly s

      s-ne : S ≢ P.zero
      s-ne = poly-ne-zero o L s hs ns

      pub no_power : (p : List E) → p ≡ o.one ∷ [] → IsPowerIn m s p
      no_power p e = subst (IsPowerIn m s) (sym e) record {
        polynomial = record { over = over_one o L; trimmed = L.one-nonzero };
        exponent = 0;
        power = polynomial_of-one o L;
        divides = one_divides o L s hs.over;
      }

      module _ (p : List E) (h : IsPowerIn m s p) where
        hp : Is p
        hp = h.polynomial

        quotient : DividesIn P (poly p) S
        quotient = poly_divides o L p s hp.over hs.over h.divides

        p-ne : poly p ≢ P.zero
        p-ne z = right_ne_zero_of_mul P.ring quotient.0 (poly p) (λ e. s-ne (quotient.1 ∙ e)) z

        pub power-nonzero : p ≢ []
        power-nonzero e = p-ne (ap poly e ∙ polynomial_of-nil o L)

        module _ (q : List E) (hq : Is q) (product : IsProduct o p m q) (divides : Divides o q s) where
          next : poly q ≡ P.◌⊗◌ (poly p) M
          next = poly-mul o L p m q hp.over place.polynomial.over hq.over product

          pub one_more_power : IsPowerIn m s q
          one_more_power = record {
            polynomial = hq;
            exponent = suc h.exponent;
            power = next ∙ P.mul_comm (poly p) M ∙ ap (P.◌⊗◌ M) h.power;
            divides = divides;
          }

          -- it is longer, and no longer than s
          m-ne : M ≢ P.zero
          m-ne = irreducible-ne-zero F M irreducible

          q-ne : poly q ≢ P.zero
          q-ne z =
              let d = poly_divides o L q s hq.over hs.over divides in
              right_ne_zero_of_mul P.ring d.0 (poly q) (λ e. s-ne (d.1 ∙ e)) z

          degrees : degree (poly q).0 ≡ degree (poly p).0 + degree M.0
          degrees = ap (λ (x : D). degree x.0) next ∙ field_degree-mul F (poly p) M p-ne m-ne

          at_most : degree (poly q).0 ≤ degree S.0
          at_most = degree_le_of_divides F (poly q) S (poly_divides o L q s hq.over hs.over divides) s-ne

          pub less_left : length s - length q < length s - length p
          less_left =
              let positive = irreducible.positive in
              omega (
                arith,
                degrees,
                at_most,
                positive,
                length-degree_of_ne_zero F.cring F.zero_test (poly p) p-ne,
                length-degree_of_ne_zero F.cring F.zero_test (poly q) q-ne,
                length-degree_of_ne_zero F.cring F.zero_test S s-ne,
                length-polynomial_of o L p hp,
                length-polynomial_of o L q hq,
                length-polynomial_of o L s hs,
              )

        -- the greatest one
        module _ (last : (q : List E) → Is q → IsProduct o p m q → Divides o q s → ⊥) where
          off : DividesIn P M quotient.0 → ⊥
          off d =
              let t = fraction_product o L p m hp place.polynomial in
              let ht = t.1 in
              let product = product_of_fractions o L p m t.0 hp place.polynomial ht t.2 in
              last t.0 ht product (divides_of_poly o L t.0 s ht.over hs.over (
                d.0,
                quotient.1 ∙ ap (λ x. P.◌⊗◌ x (poly p)) d.1
                    ∙ ring3 P (λ d m p. ((d ⊠ m) ⊠ p, d ⊠ (p ⊠ m))) refl d.0 M (poly p)
                    ∙ ap (P.◌⊗◌ d.0) (sym (poly-mul o L p m t.0 hp.over place.polynomial.over ht.over product)),
              ))

          module _ (u : List E) (hu : Is u) where
            abbrev w : Pair E
            w = fraction_over o L s u

            w-elem : IsElem k w
            w-elem = over-elem o L s hs ns u hu

            num_is : Is w.0
            num_is = let l = lowest_of_elem o L w w-elem in
                record { over = l.numerator_over; trimmed = l.numerator_trimmed }

            den_is : Is w.1
            den_is = let l = lowest_of_elem o L w w-elem in
                record { over = l.denominator_over; trimmed = l.denominator_trimmed }

            -- u times the denominator is s times the numerator
            crossed : P.◌⊗◌ (poly u) (poly w.1) ≡ P.◌⊗◌ S (poly w.0)
            crossed = same_products u w.1 s w.0 hu den_is hs num_is
                (ap (λ x. k.mul x (as_fraction o w.1)) (sym (mul-over o L s hs ns u hu))
                ∙ ap (λ (t : Elem k). t.0) (ring3 (fraction_field o L).cring (λ s w d. ((s ⊠ w) ⊠ d, s ⊠ (d ⊠ w))) refl
                (up o L s hs) (w, w-elem) (up o L w.1 den_is))
                ∙ ap (k.mul (as_fraction o s)) (sym (numerator_of_fraction o L w w-elem)))

            pub divides_of_integral : IsIntegralAt o (Finite m) w → Divides o p u
            divides_of_integral i =
                let N = power P.ring M h.exponent in
                let d : DividesIn P N (poly u) = power_divides h.exponent (poly u) (poly w.1)
                (λ d. off_of_integral o L m place w w-elem i
                (divides_of_poly o L m w.1 place.polynomial.over den_is.over d)) (
                  P.◌⊗◌ quotient.0 (poly w.0),
                  crossed ∙ ap (λ x. P.◌⊗◌ x (poly w.0)) quotient.1
                      ∙ ring3 P (λ q p n. ((q ⊠ p) ⊠ n, (q ⊠ n) ⊠ p)) refl quotient.0 (poly p) (poly w.0)
                      ∙ ap (P.◌⊗◌ (P.◌⊗◌ quotient.0 (poly w.0))) h.power,
                ) in
                divides_of_poly o L p u hp.over hu.over (d.0, d.1 ∙ ap (P.◌⊗◌ d.0) (sym h.power))

            pub integral_of_divides : Divides o p u → IsIntegralAt o (Finite m) w
            integral_of_divides d =
                let c = poly_divides o L p u hp.over hu.over d in
                let low = lowest_of_elem o L w w-elem in
                let same : P.◌⊗◌ c.0 (poly w.1) ≡ P.◌⊗◌ quotient.0 (poly w.0) =
                poly_mul_cancel_left F (poly p) (P.◌⊗◌ c.0 (poly w.1)) (P.◌⊗◌ quotient.0 (poly w.0)) p-ne
                (ring3 P (λ c p n. (p ⊠ (c ⊠ n), (c ⊠ p) ⊠ n)) refl c.0 (poly p) (poly w.1)
                ∙ ap (λ x. P.◌⊗◌ x (poly w.1)) (sym c.1) ∙ crossed ∙ ap (λ x. P.◌⊗◌ x (poly w.0)) quotient.1
                ∙ ring3 P (λ q p n. ((q ⊠ p) ⊠ n, p ⊠ (q ⊠ n))) refl quotient.0 (poly p) (poly w.0)) in
                let e : DividesIn P (poly w.1) quotient.0 =
                divides_of_coprime F (poly w.1) (poly w.0) quotient.0
                (coprime_comm F (poly w.0) (poly w.1) (coprime_polynomials o L w.0 w.1 num_is den_is low.coprime))
                (c.0, P.mul_comm (poly w.0) quotient.0 ∙ sym same) in
                integral_of_off o L m place w w-elem (λ t.
                let f = poly_divides o L m w.1 place.polynomial.over den_is.over t in
                off (P.◌⊗◌ e.0 f.0, e.1 ∙ ap (P.◌⊗◌ e.0) f.1 ∙ sym (P.mul_assoc e.0 f.0 M)))
