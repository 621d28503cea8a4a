-- The remainders by a monic polynomial over a lift ring are a lift ring of those by its residue; and monic polynomials
-- are lifted.
use Rattle.std.specs.Prelude.{◌≡◌, ◌≢◌, ℕ, zero, suc, ◌^◌, ◌<◌, ◌≤◌, Bool, cond, length}
use Rattle.std.proofs.Common.{sym, ◌∙◌, ap, arith, ⊎_elim}
use Rattle.std.proofs.lemmas.Bool.{cases_lt, cond_both}
use Rattle.theory_rings.specs.Ring.{CommRingOn, ZeroTest}
use Rattle.theory_rings.specs.Power.{times}
use Rattle.theory_rings.specs.Homomorphism.{IsRingHom}
use Rattle.theory_rings.specs.Polynomial.{Poly, coefficient, constant_coefficients, degree, IsMonic, IsPolynomialRing}
use Rattle.theory_rings.specs.Remainder.{Remainder, IsRemainderRing}
use Rattle.theory_rings.proofs.Rings.RingLaws.{add-neg}
use Rattle.theory_rings.proofs.Rings.ZeroTests.{is_zero-false, eq_of_sub_eq_zero}
use Rattle.theory_rings.proofs.Powers.Times.{times_char}
use Rattle.theory_rings.proofs.Polynomials.PolynomialRing.{Poly-path, coefficient_past, polynomial}
use Rattle.theory_rings.proofs.Polynomials.PolynomialRing.{coefficient-polynomial, coefficient-one}
use Rattle.theory_rings.proofs.Polynomials.Degrees.{length-degree, lead-ne-zero_of_length, lt_length, degree_eq}
use Rattle.theory_rings.proofs.Polynomials.Degrees.{coefficient_above}
use Rattle.theory_rings.proofs.Polynomials.Mapping.{map_poly, coefficient-map_poly, length-image, map_remainder}
use Rattle.theory_rings.proofs.Polynomials.Mapping.{coefficient-map_remainder, map_remainder_hom}
use Rattle.theory_rings.proofs.Polynomials.Remainders.{remainders, remainders-one_poly}
use Rattle.theory_radical.specs.Congruence.{MultipleOf}
use Rattle.theory_radical.specs.LiftRing.{IsLiftRing}
use Rattle.theory_radical.proofs.Lifts.LiftRings.{up, down-up, down-zero}
use Rattle.theory_rings.proofs.Polynomials.RemainderRings.{for_remainders, Remainder-ext, remainder-past}
use Rattle.theory_rings.proofs.Polynomials.RemainderRings.{remainder-coefficient-zero, remainder-coefficient-times}
use Rattle.theory_rings.proofs.Polynomials.RemainderRings.{small_remainder, small_remainder-coefficient}
use Rattle.theory_rings.proofs.Polynomials.RemainderRings.{small_remainder-all}

-- representatives that keep 0 and 1
pub record IsSection {K W : Type 0} (S : CommRingOn K) (R : CommRingOn W) (down : W → K) (rep : K → W) : Type 0 where
  pub down-rep : (x : K) → down (rep x) ≡ x
  pub rep-zero : rep S.zero ≡ R.zero
  pub rep-one : rep S.one ≡ R.one

-- the leading coefficient of a monic polynomial is 1 and not 0
pub one-ne-zero_of_monic : {K : Type 0} (S : CommRingOn K) (f : Poly S) → IsMonic S f → S.one ≢ S.zero
one-ne-zero_of_monic S f h e = lead-ne-zero_of_length S f h.nonzero (h.leading ∙ e)

module _ {K W : Type 0} (S : CommRingOn K) {is_zero' : K → Bool} (Z' : ZeroTest S.zero is_zero')
    (R : CommRingOn W) {is_zero : W → Bool} (Z : ZeroTest R.zero is_zero)
    (p n : ℕ) (down : W → K) (L : IsLiftRing S R p n down) where
  -- the polynomial of the representatives of the coefficients
  module _ (rep : K → W) (section : IsSection S R down rep) (g : Poly S) (monic : IsMonic S g) where
    pub lift_poly : Poly R
    lift_poly = polynomial R Z (length g.0) (λ k. rep (coefficient S g k))

    pub lift_poly-coefficient : (k : ℕ) → coefficient R lift_poly k ≡ rep (coefficient S g k)
    unfolding lift_poly
    lift_poly-coefficient k =
        coefficient-polynomial R Z (length g.0) (λ k. rep (coefficient S g k))
        (λ k l. ap rep (coefficient_past S g k l) ∙ section.rep-zero) k

    pub lift_poly-reduces : (k : ℕ) → coefficient S g k ≡ down (coefficient R lift_poly k)
    lift_poly-reduces k = sym (ap down (lift_poly-coefficient k) ∙ section.down-rep (coefficient S g k))

    pub lift_poly_monic : IsMonic R lift_poly
    lift_poly_monic =
        let one : R.one ≢ R.zero = λ e.
        one-ne-zero_of_monic S g monic (sym L.homomorphism.map-one ∙ ap down e ∙ down-zero S R p n down L) in
        let top : coefficient R lift_poly (degree g.0) ≡ R.one = lift_poly-coefficient (degree g.0)
        ∙ ap rep monic.leading ∙ section.rep-one in
        let nonzero : coefficient R lift_poly (degree g.0) ≢ R.zero = λ e. one (sym top ∙ e) in
        let same : degree lift_poly.0 ≡ degree g.0 = degree_eq R lift_poly (degree g.0) nonzero
        (λ k l. lift_poly-coefficient k ∙ ap rep (coefficient_above S g k l) ∙ section.rep-zero) in
        let l = lt_length R lift_poly (degree g.0) nonzero in
        record { nonzero = omega arith; leading = ap (coefficient R lift_poly) same ∙ top }

  -- remainders by f over R and by its residue g over S
  module _ (f : Poly R) (monic : IsMonic R f) (g : Poly S) (monic' : IsMonic S g)
      (reduces : (k : ℕ) → coefficient S g k ≡ down (coefficient R f k)) where
    H : IsRingHom R.ring S.ring down
    H = L.homomorphism

    image : map_poly R Z S Z' down L.homomorphism f ≡ g
    image = Poly-path S (map_poly R Z S Z' down L.homomorphism f) g
        (λ k. coefficient-map_poly R Z S Z' down L.homomorphism f k ∙ sym (reduces k))

    abbrev Q : CommRingOn (Remainder R f)
    Q = remainders R Z f monic

    abbrev Q' : CommRingOn (Remainder S g)
    Q' = remainders S Z' g monic'

    -- the remainder whose coefficients are the residues
    pub remainder_down : Remainder R f → Remainder S g
    remainder_down = map_remainder R Z S Z' down L.homomorphism f monic g monic' image

    pub remainder_down-coefficient : (y : Remainder R f) (k : ℕ)
        → coefficient S (remainder_down y).0 k ≡ down (coefficient R y.0 k)
    unfolding remainder_down
    remainder_down-coefficient y k = coefficient-map_remainder R Z S Z' down L.homomorphism f monic g monic' image y k

    pub same_degree : degree f.0 ≡ degree g.0
    same_degree =
        let a = length-image R Z S Z' down L.homomorphism f monic g monic' image in
        let b = length-degree R f monic.nonzero in
        let c = length-degree S g monic'.nonzero in
        omega arith

    -- a remainder is a multiple where its coefficients are
    multiple_of_coefficients : (q : ℕ) (y : Remainder R f) → ((k : ℕ) → MultipleOf R.monoid q (coefficient R y.0 k))
        → MultipleOf Q.monoid q y
    multiple_of_coefficients q y h =
        let z = small_remainder R Z f monic (λ k. (h k).part) in
        record {
          part = z;
          is = Remainder-ext R Z f monic y (times Q.monoid q z) (λ k. ⊎_elim
              (λ (l : k < degree f.0). (h k).is
              ∙ ap (times R.monoid q) (sym (small_remainder-coefficient R Z f monic (λ k. (h k).part) k l))
              ∙ sym (remainder-coefficient-times R Z f monic q z k))
              (λ (l : degree f.0 ≤ k). remainder-past R f monic y k l
              ∙ sym (remainder-past R f monic (times Q.monoid q z) k l))
              (cases_lt k (degree f.0)));
        }

    representative : Remainder S g → Remainder R f
    representative x = small_remainder R Z f monic (λ k. up S R p n down L (coefficient S x.0 k))

    down-representative : (x : Remainder S g) → remainder_down (representative x) ≡ x
    unfolding representative
    down-representative x =
        let e = same_degree in
        Remainder-ext S Z' g monic' (remainder_down (representative x)) x
        (λ k. remainder_down-coefficient (representative x) k ∙ ⊎_elim
        (λ (l : k < degree f.0).
        ap down (small_remainder-coefficient R Z f monic (λ k. up S R p n down L (coefficient S x.0 k)) k l)
        ∙ down-up S R p n down L (coefficient S x.0 k))
        (λ (l : degree f.0 ≤ k). ap down (remainder-past R f monic (representative x) k l) ∙ down-zero S R p n down L
        ∙ sym (remainder-past S g monic' x k (omega arith)))
        (cases_lt k (degree f.0)))

    lift_of_remainders : IsLiftRing Q' Q p n remainder_down
    unfolding remainder_down
    lift_of_remainders = record {
      homomorphism = map_remainder_hom R Z S Z' down L.homomorphism f monic g monic' image;
      onto = λ x. (representative x, down-representative x);
      kernel = λ y e. multiple_of_coefficients p y (λ k. L.kernel (coefficient R y.0 k)
          (sym (remainder_down-coefficient y k) ∙ ap (λ (x : Remainder S g). coefficient S x.0 k) e
          ∙ remainder-coefficient-zero S Z' g monic' k));
      characteristic = Remainder-ext S Z' g monic' (times Q'.monoid p Q'.one) Q'.zero
          (λ k. remainder-coefficient-times S Z' g monic' p Q'.one k
          ∙ times_char S.ring p L.characteristic (coefficient S Q'.one.0 k)
          ∙ sym (remainder-coefficient-zero S Z' g monic' k));
      cancels = λ i l y h. multiple_of_coefficients p y (λ k. L.cancels i l (coefficient R y.0 k) (record {
        part = coefficient R h.part.0 k;
        is = sym (remainder-coefficient-times R Z f monic (p ^ i) y k)
            ∙ ap (λ (x : Remainder R f). coefficient R x.0 k) h.is
            ∙ remainder-coefficient-times R Z f monic (p ^ suc i) h.part k;
      }));
    }

    -- so is each ring with these operations
    pub remainders_lift : (P' : CommRingOn (Poly S)) → IsPolynomialRing S P' → (E' : CommRingOn (Remainder S g))
        → IsRemainderRing S g P' E'
        → (P : CommRingOn (Poly R)) → IsPolynomialRing R P → (E : CommRingOn (Remainder R f))
        → IsRemainderRing R f P E → IsLiftRing E' E p n remainder_down
    remainders_lift P' I' E' J' P I E J = for_remainders S Z' g monic' (λ X'. IsLiftRing X' E p n remainder_down)
        (for_remainders R Z f monic (λ X. IsLiftRing Q' X p n remainder_down) lift_of_remainders P I E J) P' I' E' J'

    -- representatives of the remainders by those of the coefficients
    module _ (rep : K → W) (section : IsSection S R down rep) where
      pub remainder_rep : Remainder S g → Remainder R f
      remainder_rep x = small_remainder R Z f monic (λ k. rep (coefficient S x.0 k))

      pub remainder_rep-coefficient : (x : Remainder S g) (k : ℕ)
          → coefficient R (remainder_rep x).0 k ≡ rep (coefficient S x.0 k)
      unfolding remainder_rep
      remainder_rep-coefficient x k =
          let e = same_degree in
          small_remainder-all R Z f monic (λ k. rep (coefficient S x.0 k))
          (λ k l. ap rep (remainder-past S g monic' x k (omega arith)) ∙ section.rep-zero) k

      section_of_remainders : 1 ≤ degree g.0 → IsSection Q' Q remainder_down remainder_rep
      section_of_remainders d = record {
        down-rep = λ x. Remainder-ext S Z' g monic' (remainder_down (remainder_rep x)) x
            (λ k. remainder_down-coefficient (remainder_rep x) k
            ∙ ap down (remainder_rep-coefficient x k) ∙ section.down-rep (coefficient S x.0 k));
        rep-zero = Remainder-ext R Z f monic (remainder_rep Q'.zero) Q.zero (λ k. remainder_rep-coefficient Q'.zero k
            ∙ ap rep (remainder-coefficient-zero S Z' g monic' k) ∙ section.rep-zero
            ∙ sym (remainder-coefficient-zero R Z f monic k));
        rep-one = Remainder-ext R Z f monic (remainder_rep Q'.one) Q.one (λ k. remainder_rep-coefficient Q'.one k
            ∙ ap rep (ap (λ a. coefficient S a k) (remainders-one_poly S Z' g monic' d) ∙ coefficient-one S Z' k)
            ∙ unit k
            ∙ sym (ap (λ a. coefficient R a k) (remainders-one_poly R Z f monic (let e = same_degree in omega arith))
            ∙ coefficient-one R Z k));
      }
        where
          unit : (k : ℕ) → rep (constant_coefficients S.zero S.one k) ≡ constant_coefficients R.zero R.one k
          unit zero = section.rep-one
          unit (suc k) = section.rep-zero

      pub remainders_section : (P' : CommRingOn (Poly S)) → IsPolynomialRing S P' → (E' : CommRingOn (Remainder S g))
          → IsRemainderRing S g P' E' → 1 ≤ degree g.0
          → (P : CommRingOn (Poly R)) → IsPolynomialRing R P → (E : CommRingOn (Remainder R f))
          → IsRemainderRing R f P E → IsSection E' E remainder_down remainder_rep
      remainders_section P' I' E' J' d P I E J =
          for_remainders S Z' g monic' (λ X'. IsSection X' E remainder_down remainder_rep)
          (for_remainders R Z f monic (λ X. IsSection Q' X remainder_down remainder_rep)
          (section_of_remainders d) P I E J) P' I' E' J'

-- the remainders by a constant are all 0
pub degree-pos_of_nontrivial : {K : Type 0} (S : CommRingOn K) {is_zero : K → Bool} (Z : ZeroTest S.zero is_zero)
    (g : Poly S) (monic : IsMonic S g)
    → (E : CommRingOn (Remainder S g)) → E.one ≢ E.zero → 1 ≤ degree g.0
degree-pos_of_nontrivial S Z g monic E h = ⊎_elim
    (λ (l : 0 < degree g.0). l)
    (λ (l : degree g.0 ≤ 0). absurd (h (Remainder-ext S Z g monic E.one E.zero (λ k.
    remainder-past S g monic E.one k (omega arith) ∙ sym (remainder-past S g monic E.zero k (omega arith))))))
    (cases_lt 0 (degree g.0))

-- where q times 1 is 0 in R, it is in each ring of remainders
pub remainders_times-one : {K : Type 0} (R : CommRingOn K) {is_zero : K → Bool} (Z : ZeroTest R.zero is_zero)
    (f : Poly R) (monic : IsMonic R f)
    (q : ℕ) → times R.monoid q R.one ≡ R.zero → (P : CommRingOn (Poly R)) → IsPolynomialRing R P
    → (E : CommRingOn (Remainder R f)) → IsRemainderRing R f P E
    → times E.monoid q E.one ≡ E.zero
remainders_times-one R Z f monic q e =
    let Q = remainders R Z f monic in
    for_remainders R Z f monic (λ X. times X.monoid q X.one ≡ X.zero)
    (Remainder-ext R Z f monic (times Q.monoid q Q.one) Q.zero (λ k. remainder-coefficient-times R Z f monic q Q.one k
    ∙ times_char R.ring q e (coefficient R Q.one.0 k) ∙ sym (remainder-coefficient-zero R Z f monic k)))

-- over each lift ring of a ring with a test of 0 there are representatives that keep 0 and 1, so that a monic
-- polynomial is lifted
module _ {K W : Type 0} (S : CommRingOn K) {is_zero' : K → Bool} (Z' : ZeroTest S.zero is_zero')
    (R : CommRingOn W) {is_zero : W → Bool} (Z : ZeroTest R.zero is_zero)
    (p n : ℕ) (down : W → K) (L : IsLiftRing S R p n down) (nontrivial : S.one ≢ S.zero) where
  rep : K → W
  rep x = cond (is_zero' x) R.zero (cond (is_zero' (S.◌⊕◌ x (S.neg S.one))) R.one (up S R p n down L x))

  down-rep : (x : K) → down (rep x) ≡ x
  unfolding rep
  down-rep x = cond_both (is_zero' x) R.zero (cond (is_zero' (S.◌⊕◌ x (S.neg S.one))) R.one (up S R p n down L x))
      (λ y. down y ≡ x)
      (λ e. down-zero S R p n down L ∙ sym (Z'.is_zero-sound x e))
      (λ _. cond_both (is_zero' (S.◌⊕◌ x (S.neg S.one))) R.one (up S R p n down L x) (λ y. down y ≡ x)
      (λ e. L.homomorphism.map-one
      ∙ sym (eq_of_sub_eq_zero S.additive x S.one (Z'.is_zero-sound (S.◌⊕◌ x (S.neg S.one)) e)))
      (λ _. down-up S R p n down L x))

  rep-one : rep S.one ≡ R.one
  unfolding rep
  rep-one = ap (λ b. cond b R.zero (cond (is_zero' (S.◌⊕◌ S.one (S.neg S.one))) R.one (up S R p n down L S.one)))
      (is_zero-false Z' S.one nontrivial)
      ∙ ap (λ b. cond b R.one (up S R p n down L S.one)) (ap is_zero' (add-neg S.additive S.one) ∙ Z'.is_zero-zero)

  rep-zero : rep S.zero ≡ R.zero
  unfolding rep
  rep-zero = ap (λ b. cond b R.zero
      (cond (is_zero' (S.◌⊕◌ S.zero (S.neg S.one))) R.one (up S R p n down L S.zero))) Z'.is_zero-zero

  pub section_of_lift : (rep : K → W) × IsSection S R down rep
  section_of_lift = (rep, record { down-rep = down-rep; rep-zero = rep-zero; rep-one = rep-one })

pub monic_lift : {K W : Type 0} (S : CommRingOn K) {is_zero' : K → Bool} (Z' : ZeroTest S.zero is_zero')
    (R : CommRingOn W) {is_zero : W → Bool} (Z : ZeroTest R.zero is_zero)
    (p n : ℕ) (down : W → K) → IsLiftRing S R p n down → (g : Poly S) → IsMonic S g → (f : Poly R) × IsMonic R f
    × ((k : ℕ) → coefficient S g k ≡ down (coefficient R f k))
monic_lift S Z' R Z p n down L g monic =
    let s = section_of_lift S Z' R Z p n down L (one-ne-zero_of_monic S g monic) in (
      lift_poly S Z' R Z p n down L s.0 s.1 g monic,
      lift_poly_monic S Z' R Z p n down L s.0 s.1 g monic,
      lift_poly-reduces S Z' R Z p n down L s.0 s.1 g monic,
    )
