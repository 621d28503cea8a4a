-- A homomorphism of rings, taken coefficient by coefficient, is one of polynomials and of remainders.
use Rattle.std.specs.Prelude.{◌≡◌, ◌≢◌, ℕ, zero, suc, ◌-◌, ◌<◌, ◌≤◌, Bool, length}
use Rattle.std.proofs.Common.{sym, ◌∙◌, ap, ap₂, subst, arith}
use Rattle.theory_rings.specs.Ring.{CommRingOn, ZeroTest}
use Rattle.theory_rings.specs.Polynomial.{Poly, coefficient, degree, convolution, constant_coefficients, IsMonic}
use Rattle.theory_rings.specs.Division.{Congruent}
use Rattle.theory_rings.specs.Homomorphism.{IsRingHom}
use Rattle.theory_rings.specs.Remainder.{Remainder}
use Rattle.theory_rings.proofs.Sums.Sums.{map-sum, sum_congr}
use Rattle.theory_rings.proofs.Polynomials.Series.{convolution_congr}
use Rattle.theory_rings.proofs.Rings.Homomorphisms.{map-zero}
use Rattle.theory_rings.proofs.Polynomials.PolynomialRing.{Poly-path, coefficient_past, polynomial}
use Rattle.theory_rings.proofs.Polynomials.PolynomialRing.{coefficient-polynomial, polynomials, coefficient-one}
use Rattle.theory_rings.proofs.Polynomials.PolynomialRing.{coefficient-add, coefficient-mul}
use Rattle.theory_rings.proofs.Polynomials.Degrees.{length_le, length-degree, lt_length, lead-ne-zero_of_length}
use Rattle.theory_rings.proofs.Polynomials.Remainders.{remainders, remainder, remainder_hom, remainder_eq}
use Rattle.theory_rings.proofs.Polynomials.Remainders.{remainder_congruent, remainder_of_small, remainders-one}
use Rattle.theory_rings.proofs.Polynomials.Remainders.{remainders-add, remainders-mul}

module _ {K L : Type 0} (R : CommRingOn K) {is_zero : K → Bool} (Z : ZeroTest R.zero is_zero)
    (S : CommRingOn L) {is_zero' : L → Bool} (Z' : ZeroTest S.zero is_zero') (h : K → L)
    (H : IsRingHom R.ring S.ring h) where
  abbrev P : CommRingOn (Poly R)
  P = polynomials R Z

  abbrev Q : CommRingOn (Poly S)
  Q = polynomials S Z'

  -- the polynomial of the images of the coefficients
  pub map_poly : Poly R → Poly S
  map_poly a = polynomial S Z' (length a.0) (λ k. h (coefficient R a k))

  pub coefficient-map_poly : (a : Poly R) (k : ℕ) → coefficient S (map_poly a) k ≡ h (coefficient R a k)
  unfolding map_poly
  coefficient-map_poly a k =
      coefficient-polynomial S Z' (length a.0) (λ k. h (coefficient R a k))
      (λ k l. ap h (coefficient_past R a k l) ∙ map-zero R.ring S.ring h H) k

  map-convolution : (f g : ℕ → K) (k : ℕ)
      → h (convolution R.ring f g k) ≡ convolution S.ring (λ i. h (f i)) (λ i. h (g i)) k
  map-convolution f g k =
      map-sum R.monoid S.monoid h (map-zero R.ring S.ring h H) H.map-add (suc k) (λ i. R.◌⊗◌ (f i) (g (k - i)))
      ∙ sum_congr S.monoid (suc k) (λ i. h (R.◌⊗◌ (f i) (g (k - i)))) (λ i. S.◌⊗◌ (h (f i)) (h (g (k - i))))
      (λ i l. H.map-mul (f i) (g (k - i)))

  pub map_poly_hom : IsRingHom P.ring Q.ring map_poly
  map_poly_hom = record {
    map-one = Poly-path S (map_poly P.one) Q.one (λ k.
        coefficient-map_poly P.one k ∙ ap h (coefficient-one R Z k) ∙ unit k ∙ sym (coefficient-one S Z' k));
    map-add = λ a b. Poly-path S (map_poly (P.◌⊕◌ a b)) (Q.◌⊕◌ (map_poly a) (map_poly b)) (λ k.
        coefficient-map_poly (P.◌⊕◌ a b) k ∙ ap h (coefficient-add R Z a b k)
        ∙ H.map-add (coefficient R a k) (coefficient R b k)
        ∙ sym (coefficient-add S Z' (map_poly a) (map_poly b) k
        ∙ ap₂ S.◌⊕◌ (coefficient-map_poly a k) (coefficient-map_poly b k)));
    map-mul = λ a b. Poly-path S (map_poly (P.◌⊗◌ a b)) (Q.◌⊗◌ (map_poly a) (map_poly b)) (λ k.
        coefficient-map_poly (P.◌⊗◌ a b) k ∙ ap h (coefficient-mul R Z a b k)
        ∙ map-convolution (coefficient R a) (coefficient R b) k
        ∙ sym (coefficient-mul S Z' (map_poly a) (map_poly b) k
        ∙ convolution_congr S.ring (coefficient S (map_poly a)) (coefficient S (map_poly b))
        (λ i. h (coefficient R a i)) (λ i. h (coefficient R b i))
        (coefficient-map_poly a) (coefficient-map_poly b) k));
  }
    where
      unit : (k : ℕ) → h (constant_coefficients R.zero R.one k) ≡ constant_coefficients S.zero S.one k
      unit zero = H.map-one
      unit (suc k) = map-zero R.ring S.ring h H

  pub length-map_poly_le : (a : Poly R) → length (map_poly a).0 ≤ length a.0
  length-map_poly_le a =
      length_le S (map_poly a) (length a.0)
      (λ k l. coefficient-map_poly a k ∙ ap h (coefficient_past R a k l) ∙ map-zero R.ring S.ring h H)

  pub congruent-map_poly : (m a b : Poly R) → Congruent P m a b → Congruent Q (map_poly m) (map_poly a) (map_poly b)
  congruent-map_poly m a b c =
      let M = map_poly_hom in
      (map_poly c.0, ap map_poly c.1 ∙ M.map-add b (P.◌⊗◌ c.0 m) ∙ ap (Q.◌⊕◌ (map_poly b)) (M.map-mul c.0 m))

  -- remainders by m go to remainders by its image
  module _ (m : Poly R) (monic : IsMonic R m) (m' : Poly S) (monic' : IsMonic S m') (image : map_poly m ≡ m') where
    pub length-image : length m'.0 ≡ length m.0
    length-image =
        let low : length m'.0 ≤ length m.0 = subst (λ x. length x.0 ≤ length m.0) image (length-map_poly_le m) in
        let high : degree m.0 < length m'.0 = lt_length S m' (degree m.0) nonzero in
        omega (arith, length-degree R m monic.nonzero)
      where
        nonzero : coefficient S m' (degree m.0) ≢ S.zero
        nonzero e = lead-ne-zero_of_length S m' monic'.nonzero
            (monic'.leading ∙ sym (ap (λ x. coefficient S x (degree m.0)) (sym image)
            ∙ coefficient-map_poly m (degree m.0) ∙ ap h monic.leading ∙ H.map-one) ∙ e)

    pub map_remainder : Remainder R m → Remainder S m'
    map_remainder a = remainder S Z' m' monic' (map_poly a.0)

    pub map_remainder-poly : (a : Remainder R m) → (map_remainder a).0 ≡ map_poly a.0
    unfolding map_remainder
    map_remainder-poly a =
        ap (λ x. x.0) (remainder_of_small S Z' m' monic' (map_poly a.0)
        (omega (arith, length-map_poly_le a.0, a.1, length-image)))

    pub coefficient-map_remainder : (a : Remainder R m) (k : ℕ)
        → coefficient S (map_remainder a).0 k ≡ h (coefficient R a.0 k)
    coefficient-map_remainder a k = ap (λ x. coefficient S x k) (map_remainder-poly a) ∙ coefficient-map_poly a.0 k

    pub map_remainder-remainder : (a : Poly R)
        → map_remainder (remainder R Z m monic a) ≡ remainder S Z' m' monic' (map_poly a)
    unfolding map_remainder
    map_remainder-remainder a =
        remainder_eq S Z' m' monic' (map_poly (remainder R Z m monic a).0) (map_poly a)
        (subst (λ x. Congruent Q x (map_poly (remainder R Z m monic a).0) (map_poly a)) image
        (congruent-map_poly m (remainder R Z m monic a).0 a (remainder_congruent R Z m monic a)))

    abbrev A : CommRingOn (Remainder R m)
    A = remainders R Z m monic

    abbrev B : CommRingOn (Remainder S m')
    B = remainders S Z' m' monic'

    pub map_remainder_hom : IsRingHom A.ring B.ring map_remainder
    unfolding map_remainder
    map_remainder_hom =
        let M = map_poly_hom in
        let N = remainder_hom S Z' m' monic' in
        record {
          map-one = ap map_remainder (remainders-one R Z m monic) ∙ map_remainder-remainder P.one
              ∙ ap (remainder S Z' m' monic') M.map-one ∙ N.map-one;
          map-add = λ a b. ap map_remainder (remainders-add R Z m monic a b) ∙ map_remainder-remainder (P.◌⊕◌ a.0 b.0)
              ∙ ap (remainder S Z' m' monic') (M.map-add a.0 b.0) ∙ N.map-add (map_poly a.0) (map_poly b.0);
          map-mul = λ a b. ap map_remainder (remainders-mul R Z m monic a b) ∙ map_remainder-remainder (P.◌⊗◌ a.0 b.0)
              ∙ ap (remainder S Z' m' monic') (M.map-mul a.0 b.0) ∙ N.map-mul (map_poly a.0) (map_poly b.0);
        }
