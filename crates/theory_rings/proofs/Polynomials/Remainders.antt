-- The remainders by a monic polynomial are a commutative ring, over any commutative ring with a test of 0.
use Rattle.std.specs.Prelude.{◌≡◌, ◌<◌, ◌≤◌, Bool, length}
use Rattle.std.proofs.Common.{refl, sym, ◌∙◌, ap, subst, arith}
use Rattle.std.proofs.Math.Bridge.{le_prop}
use Rattle.theory_rings.specs.Ring.{CommRingOn, ZeroTest}
use Rattle.theory_rings.specs.Polynomial.{Poly, lead, degree, IsMonic}
use Rattle.theory_rings.specs.Division.{IsDivision, Congruent}
use Rattle.theory_rings.specs.Homomorphism.{IsRingHom}
use Rattle.theory_rings.specs.Remainder.{Remainder, IsRemainderRing}
use Rattle.theory_rings.proofs.Rings.RingLaws.{zero-mul}
use Rattle.theory_rings.proofs.Polynomials.PolynomialRing.{polynomials, coefficient-one, constant_past, is_zero_poly}
use Rattle.theory_rings.proofs.Polynomials.PolynomialRing.{zero_poly_test}
use Rattle.theory_rings.proofs.Polynomials.Degrees.{length_le, zero-length, length-add_le, length-neg_le, length-degree}
use Rattle.theory_rings.proofs.Polynomials.Division.{divide, division_unique}
use Rattle.theory_rings.proofs.Rings.Congruences.{congruent_of_eq, congruent_sym}
use Rattle.theory_rings.proofs.Rings.Representatives.{representatives-zero, representatives-one, representatives-add}
use Rattle.theory_rings.proofs.Rings.Representatives.{representatives-neg, representatives-mul, IsRepresentativeSystem}
use Rattle.theory_rings.proofs.Rings.Representatives.{representatives, representative, representative_hom}
use Rattle.theory_rings.proofs.Rings.Representatives.{representative_eq, representative-small}
use Rattle.theory_rings.proofs.Rings.Representatives.{congruent_of_representative, Representative-path}

module _ {K : Type 0} (R : CommRingOn K) {is_zero : K → Bool} (Z : ZeroTest R.zero is_zero) (m : Poly R)
    (monic : IsMonic R m) where
  abbrev P : CommRingOn (Poly R)
  P = polynomials R Z

  abbrev Small : Poly R → Type 0
  Small a = length a.0 < length m.0

  lead_unit : R.◌⊗◌ (lead R m) R.one ≡ R.one
  lead_unit = R.mul-one (lead R m) ∙ monic.leading

  -- the quotient and the remainder of a by m
  pub quo : Poly R → Poly R
  quo a = let d = divide R Z m R.one lead_unit monic.nonzero a in d.0

  pub rem : Poly R → Poly R
  rem a = let d = divide R Z m R.one lead_unit monic.nonzero a in d.1

  pub rem-division : (a : Poly R) → IsDivision R P a m (quo a) (rem a)
  unfolding quo rem
  rem-division a = let d = divide R Z m R.one lead_unit monic.nonzero a in d.2

  pub is_representative_system : IsRepresentativeSystem P m Small rem
  is_representative_system = record {
    small_prop = λ a. le_prop;
    rem-small = λ a. let d = rem-division a in d.smaller;
    rem-congruent = λ a. let d = rem-division a in (quo a, d.whole ∙ P.add_comm (P.◌⊗◌ (quo a) m) (rem a));
    unique = λ a b sa sb c.
        let own : IsDivision R P a m P.zero a = record {
          whole = sym (ap (λ x. P.◌⊕◌ x a) (zero-mul P.ring m) ∙ P.zero-add a);
          smaller = sa;
        } in
        let other : IsDivision R P a m c.0 b = record {
          whole = c.1 ∙ P.add_comm b (P.◌⊗◌ c.0 m);
          smaller = sb;
        } in
        let e = division_unique R Z m R.one lead_unit monic.nonzero a P.zero a c.0 b own other in
        e.1;
  }

  -- the ring of remainders
  pub remainders : CommRingOn (Remainder R m)
  remainders = representatives P m Small rem is_representative_system

  -- the remainder of a
  pub remainder : Poly R → Remainder R m
  remainder a = representative P m Small rem is_representative_system a

  pub remainder-rem : (a : Poly R) → (remainder a).0 ≡ rem a
  unfolding remainder
  remainder-rem a = refl

  -- taking the remainder keeps 1, sums and products
  pub remainder_hom : IsRingHom P.ring remainders.ring remainder
  unfolding remainders remainder
  remainder_hom = representative_hom P m Small rem is_representative_system

  -- a remainder is its own remainder
  pub remainder-small : (a : Remainder R m) → remainder a.0 ≡ a
  unfolding remainder
  remainder-small a = representative-small P m Small rem is_representative_system a

  -- congruent polynomials have the same remainder
  pub remainder_eq : (a b : Poly R) → Congruent P m a b → remainder a ≡ remainder b
  unfolding remainder
  remainder_eq a b s = representative_eq P m Small rem is_representative_system a b s

  pub congruent_of_remainder : (a b : Poly R) → remainder a ≡ remainder b → Congruent P m a b
  unfolding remainder
  congruent_of_remainder a b e = congruent_of_representative P m Small rem is_representative_system a b e

  -- congruent remainders are one
  pub Remainder-path : (a b : Remainder R m) → Congruent P m a.0 b.0 → a ≡ b
  Remainder-path a b s = Representative-path P m Small rem is_representative_system a b s

  pub remainder_congruent : (a : Poly R) → Congruent P m (remainder a).0 a
  unfolding remainder
  remainder_congruent a = congruent_sym P m a (rem a) (let S = is_representative_system in S.rem-congruent a)

  pub remainder_of_small : (a : Poly R) (s : length a.0 < length m.0) → remainder a ≡ (a, s)
  remainder_of_small a s = remainder-small (a, s)

  -- the operations: sums, opposites and 0 are those of polynomials, products are taken modulo m
  pub remainders-zero : remainders.zero ≡ remainder P.zero
  unfolding remainders remainder
  remainders-zero = representatives-zero P m Small rem is_representative_system

  pub remainders-one : remainders.one ≡ remainder P.one
  unfolding remainders remainder
  remainders-one = representatives-one P m Small rem is_representative_system

  pub remainders-add : (a b : Remainder R m) → remainders.◌⊕◌ a b ≡ remainder (P.◌⊕◌ a.0 b.0)
  unfolding remainders remainder
  remainders-add a b = representatives-add P m Small rem is_representative_system a b

  pub remainders-neg : (a : Remainder R m) → remainders.neg a ≡ remainder (P.neg a.0)
  unfolding remainders remainder
  remainders-neg a = representatives-neg P m Small rem is_representative_system a

  pub remainders-mul : (a b : Remainder R m) → remainders.◌⊗◌ a b ≡ remainder (P.◌⊗◌ a.0 b.0)
  unfolding remainders remainder
  remainders-mul a b = representatives-mul P m Small rem is_representative_system a b

  pub remainders-zero_poly : remainders.zero.0 ≡ P.zero
  remainders-zero_poly =
      ap (λ x. x.0) (remainders-zero ∙ remainder_of_small P.zero (omega (arith, zero-length R Z, monic.nonzero)))

  pub remainders-one_poly : 1 ≤ degree m.0 → remainders.one.0 ≡ P.one
  remainders-one_poly d =
      let short = length_le R P.one 1 (λ k l. coefficient-one R Z k ∙ constant_past R.zero R.one k l) in
      ap (λ x. x.0) (remainders-one ∙ remainder_of_small P.one (omega (arith, length-degree R m monic.nonzero)))

  pub remainders-add_poly : (a b : Remainder R m) → (remainders.◌⊕◌ a b).0 ≡ P.◌⊕◌ a.0 b.0
  remainders-add_poly a b =
      let long = length-degree R m monic.nonzero in
      let low : length a.0.0 ≤ degree m.0 = omega (arith, a.1) in
      let low' : length b.0.0 ≤ degree m.0 = omega (arith, b.1) in
      ap (λ x. x.0) (remainders-add a b
      ∙ remainder_of_small (P.◌⊕◌ a.0 b.0) (omega (arith, length-add_le R Z a.0 b.0 (degree m.0) low low')))

  pub remainders-neg_poly : (a : Remainder R m) → (remainders.neg a).0 ≡ P.neg a.0
  remainders-neg_poly a =
      let long = length-degree R m monic.nonzero in
      let low : length a.0.0 ≤ degree m.0 = omega (arith, a.1) in
      ap (λ x. x.0) (remainders-neg a
      ∙ remainder_of_small (P.neg a.0) (omega (arith, length-neg_le R Z a.0 (degree m.0) low)))

  pub is_remainder_ring : IsRemainderRing R m P remainders
  is_remainder_ring = record {
    zero_mod = congruent_of_eq P m remainders.zero.0 P.zero remainders-zero_poly;
    one_mod = subst (λ x. Congruent P m x.0 P.one) (sym remainders-one) (remainder_congruent P.one);
    add_mod = λ a b. congruent_of_eq P m (remainders.◌⊕◌ a b).0 (P.◌⊕◌ a.0 b.0) (remainders-add_poly a b);
    neg_mod = λ a. congruent_of_eq P m (remainders.neg a).0 (P.neg a.0) (remainders-neg_poly a);
    mul_mod = λ a b. subst (λ x. Congruent P m x.0 (P.◌⊗◌ a.0 b.0)) (sym (remainders-mul a b))
        (remainder_congruent (P.◌⊗◌ a.0 b.0));
  }

  -- a test of the remainder 0
  abbrev pub is_zero_remainder : Remainder R m → Bool
  is_zero_remainder a = is_zero_poly R Z a.0

  pub zero_remainder_test : ZeroTest remainders.zero is_zero_remainder
  zero_remainder_test = record {
    is_zero-sound = λ a e. Remainder-path a remainders.zero
        (congruent_of_eq P m a.0 remainders.zero.0
        (let T = zero_poly_test R Z in T.is_zero-sound a.0 e ∙ sym remainders-zero_poly));
    is_zero-zero = ap (is_zero_poly R Z) remainders-zero_poly ∙ (let T = zero_poly_test R Z in T.is_zero-zero);
  }
