-- The field of the numbers below p^d by their digits has the lift ring (Z/p^n)[t]/(f), where f has the numbers of its
-- modulus; and F_q[x]/(π) has the remainders over it by the polynomial whose numbers are the digits of the coefficients
-- of π.
use Rattle.std.specs.Prelude.{◌≡◌, ℕ, zero, suc, ◌%◌, ◌^◌, ◌<◌, ◌≤◌, List, length}
use Rattle.std.proofs.Common.{refl, sym, ◌∙◌, ap, ap₂, subst, arith}
use Rattle.std.proofs.Math.Nat.{mod-eq_of_lt}
use Rattle.std.proofs.lemmas.Bool.{lt-ltb}
use Rattle.theory_rings.specs.Ring.{CommRingOn, FieldOn, ZeroTest}
use Rattle.theory_rings.specs.Ops.{Ops, FieldLaws}
use Rattle.theory_rings.specs.Elements.{Elem, Elem-path, elements}
use Rattle.theory_rings.specs.Digits.{digit}
use Rattle.theory_rings.specs.Homomorphism.{IsRingHom}
use Rattle.theory_rings.specs.IntegersMod.{Fin, Fin-path, value-lt, integers_mod, residue, residue_is_zero}
use Rattle.theory_rings.specs.FieldByDigits.{modulus_coefficient, size_by_digits, IsFieldByDigits, DigitsAreRemainders}
use Rattle.theory_rings.specs.Polynomial.{Poly, coefficient, constant_coefficients, degree, IsMonic, IsPolynomialRing}
use Rattle.theory_rings.specs.Remainder.{Remainder, IsRemainderRing}
use Rattle.theory_rings.proofs.Rings.Homomorphisms.{comp_hom}
use Rattle.theory_rings.proofs.Numbers.Digits.{digit-zero, zero-digit, digit-suc_of_lt, digit_lt, digit_past}
use Rattle.theory_rings.proofs.Numbers.Digits.{digit_injective}
use Rattle.theory_rings.proofs.Numbers.IntegersMod.{residue-zero, residue-one, residue_zero_test}
use Rattle.theory_rings.proofs.Polynomials.PolynomialRing.{Poly-path, polynomials, is_polynomial_ring, coefficient-one}
use Rattle.theory_rings.proofs.Polynomials.Remainders.{remainders, is_remainder_ring, remainders-one_poly}
use Rattle.theory_rings.proofs.Polynomials.Remainders.{is_zero_remainder, zero_remainder_test}
use Rattle.theory_rings.proofs.FiniteFields.FieldByDigits.{modulus, coefficient-modulus, degree-modulus, modulus_monic}
use Rattle.theory_rings.proofs.FiniteFields.RingByDigits.{elem_lt, lt_elem, digits_are_remainders_law}
use Rattle.theory_radical.specs.LiftRing.{IsLiftRing}
use Rattle.theory_radical.specs.LiftLaws.{IsBijective}
use Rattle.theory_radical.specs.Tower.{TowerElement, TowerMod, double_coefficient}
use Rattle.theory_radical.proofs.Lifts.IntegerLifts.{reduce, reduce-residue, integers_lift}
use Rattle.theory_radical.proofs.Lifts.LiftRings.{isomorphic_lift_rings}
use Rattle.theory_rings.proofs.Polynomials.RemainderRings.{Remainder-ext, remainder-coefficient-zero, small_remainder}
use Rattle.theory_rings.proofs.Polynomials.RemainderRings.{small_remainder-all}
use Rattle.theory_radical.proofs.Lifts.RemainderLifts.{IsSection, lift_poly, lift_poly-coefficient, lift_poly-reduces}
use Rattle.theory_radical.proofs.Lifts.RemainderLifts.{lift_poly_monic, remainder_down, remainder_down-coefficient}
use Rattle.theory_radical.proofs.Lifts.RemainderLifts.{remainders_lift}
use Rattle.theory_lifts.specs.DigitLift.{HasDigitModuli}

module _ (p : ℕ) (two_le : 2 ≤ p) (m : List ℕ) (d : 1 ≤ length m) (o : Ops ℕ) (D : IsFieldByDigits p m o)
    (L : FieldLaws o) where
  abbrev q : ℕ
  q = size_by_digits p m

  abbrev E : FieldOn (Elem o)
  E = elements o L

  abbrev S : CommRingOn (Fin p)
  S = integers_mod p two_le

  abbrev Z : ZeroTest S.zero (residue_is_zero p two_le)
  Z = residue_zero_test p two_le

  abbrev X : DigitsAreRemainders p two_le m
  X = digits_are_remainders_law p two_le m d

  M_monic : IsMonic S X.M
  M_monic = subst (IsMonic S)
      (sym (Poly-path S X.M (modulus p two_le m) (λ k. X.coefficient-M k ∙ sym (coefficient-modulus p two_le m k))))
      (modulus_monic p two_le m)

  below : (x : Elem o) → x.0 < q
  below x = elem_lt p two_le m d o D x.0 x.1

  abbrev to_elem : Fin q → Elem o
  to_elem a = (a.0, lt_elem p two_le m d o D a.0 (value-lt q a))

  abbrev to_fin : Elem o → Fin q
  to_fin x = (x.0, lt-ltb x.0 q (below x))

  to_elem_hom : IsRingHom X.F.ring E.ring to_elem
  to_elem_hom = record {
    map-one = Elem-path o (to_elem X.F.one) E.one (X.by_digits.one ∙ sym D.one);
    map-add = λ a b. Elem-path o (to_elem (X.F.◌⊕◌ a b)) (E.◌⊕◌ (to_elem a) (to_elem b))
        (sym (X.by_digits.add_only a b (o.add a.0 b.0) (D.add a.0 b.0 (value-lt q a) (value-lt q b))));
    map-mul = λ a b. Elem-path o (to_elem (X.F.◌⊗◌ a b)) (E.◌⊗◌ (to_elem a) (to_elem b))
        (sym (X.by_digits.mul_only a b (o.mul a.0 b.0) (D.mul a.0 b.0 (value-lt q a) (value-lt q b))));
  }

  back_hom : IsRingHom X.Q.ring X.F.ring X.back
  back_hom = record {
    map-one = ap X.back (sym X.homomorphism.map-one) ∙ X.back-map X.F.one;
    map-add = λ a b. ap X.back (ap₂ X.Q.◌⊕◌ (sym (X.map-back a)) (sym (X.map-back b))
        ∙ sym (X.homomorphism.map-add (X.back a) (X.back b)))
        ∙ X.back-map (X.F.◌⊕◌ (X.back a) (X.back b));
    map-mul = λ a b. ap X.back (ap₂ X.Q.◌⊗◌ (sym (X.map-back a)) (sym (X.map-back b))
        ∙ sym (X.homomorphism.map-mul (X.back a) (X.back b)))
        ∙ X.back-map (X.F.◌⊗◌ (X.back a) (X.back b));
  }

  -- the element whose digits are the coefficients of a remainder
  abbrev residue_elem : Remainder S X.M → Elem o
  residue_elem f = to_elem (X.back f)

  residue_elem_hom : IsRingHom X.Q.ring E.ring residue_elem
  residue_elem_hom = comp_hom X.Q.ring X.F.ring E.ring X.back to_elem back_hom to_elem_hom

  residue_elem_bijective : IsBijective residue_elem
  residue_elem_bijective = record {
    injective = λ a b e. sym (X.map-back a) ∙ ap X.map (Fin-path q (X.back a) (X.back b) (ap (λ (x : Elem o). x.0) e))
        ∙ X.map-back b;
    surjective = λ x. (
      X.map (to_fin x),
      Elem-path o (to_elem (X.back (X.map (to_fin x)))) x
          (ap (λ (a : Fin q). a.0) (X.back-map (to_fin x))),
    );
  }

  residue_elem-digit : (f : Remainder S X.M) (v : ℕ) → digit p (residue_elem f).0 v ≡ (coefficient S f.0 v).0
  residue_elem-digit f v =
      let e : coefficient S f.0 v ≡ residue p two_le (digit p (X.back f).0 v) =
      ap (λ (g : Remainder S X.M). coefficient S g.0 v) (sym (X.map-back f)) ∙ X.coefficient-map (X.back f) v in
      sym (ap (λ (a : Fin p). a.0) e ∙ mod-eq_of_lt (digit_lt p (omega arith) (X.back f).0 v))

  module _ (n : ℕ) (two_le_pow : 2 ≤ p ^ n) where
    abbrev R : CommRingOn (Fin (p ^ n))
    R = integers_mod (p ^ n) two_le_pow

    abbrev ZR : ZeroTest R.zero (residue_is_zero (p ^ n) two_le_pow)
    ZR = residue_zero_test (p ^ n) two_le_pow

    abbrev pub f : Poly R
    f = modulus (p ^ n) two_le_pow m

    abbrev pub f_monic : IsMonic R f
    f_monic = modulus_monic (p ^ n) two_le_pow m

    pub degree-f : degree f.0 ≡ length m
    degree-f = degree-modulus (p ^ n) two_le_pow m

    f_reduces : (k : ℕ) → coefficient S X.M k ≡ reduce p n two_le two_le_pow (coefficient R f k)
    f_reduces k = X.coefficient-M k
        ∙ sym (ap (reduce p n two_le two_le_pow) (coefficient-modulus (p ^ n) two_le_pow m k)
        ∙ reduce-residue p n two_le two_le_pow (modulus_coefficient m k))

    abbrev pub T : CommRingOn (Remainder R f)
    T = remainders R ZR f f_monic

    abbrev pub ZT : ZeroTest T.zero (is_zero_remainder R ZR f f_monic)
    ZT = zero_remainder_test R ZR f f_monic

    abbrev first_down : Remainder R f → Remainder S X.M
    first_down = remainder_down S Z R ZR p n (reduce p n two_le two_le_pow)
        (integers_lift p n two_le two_le_pow) f f_monic X.M M_monic f_reduces

    first_lift : IsLiftRing X.Q T p n first_down
    first_lift = remainders_lift S Z R ZR p n (reduce p n two_le two_le_pow)
        (integers_lift p n two_le two_le_pow) f f_monic X.M M_monic f_reduces
        X.P X.polynomials X.Q X.remainders (polynomials R ZR) (is_polynomial_ring R ZR) T
        (is_remainder_ring R ZR f f_monic)

    -- each coefficient modulo p, as a digit
    pub elem_down : Remainder R f → Elem o
    elem_down y = residue_elem (first_down y)

    pub elem_lift : IsLiftRing E.cring T p n elem_down
    unfolding elem_down
    elem_lift = isomorphic_lift_rings X.Q T E.cring T p n first_down first_lift residue_elem residue_elem_hom
        residue_elem_bijective
        (λ y. y) (record { map-one = refl; map-add = λ a b. refl; map-mul = λ a b. refl })
        (record { injective = λ a b e. e; surjective = λ y. (y, refl) })

    pub elem_down-digit : (y : Remainder R f) (v : ℕ) → digit p (elem_down y).0 v ≡ (coefficient R y.0 v).0 % p
    unfolding elem_down
    elem_down-digit y v = residue_elem-digit (first_down y) v
        ∙ ap (λ (a : Fin p). a.0) (remainder_down-coefficient S Z R ZR p n (reduce p n two_le two_le_pow)
        (integers_lift p n two_le two_le_pow) f f_monic X.M M_monic f_reduces y v)

    -- the remainder whose coefficients are the digits
    pub elem_rep : Elem o → Remainder R f
    elem_rep a = small_remainder R ZR f f_monic (λ v. residue (p ^ n) two_le_pow (digit p a.0 v))

    pub elem_rep-coefficient : (a : Elem o) (v : ℕ)
        → coefficient R (elem_rep a).0 v ≡ residue (p ^ n) two_le_pow (digit p a.0 v)
    unfolding elem_rep
    elem_rep-coefficient a v = small_remainder-all R ZR f f_monic (λ v. residue (p ^ n) two_le_pow (digit p a.0 v))
        (λ k l. let e = degree-f in ap (residue (p ^ n) two_le_pow)
        (digit_past p (omega arith) (length m) a.0 k (below a) (omega arith)) ∙ residue-zero (p ^ n) two_le_pow) v

    one-digit : (k : ℕ) → residue (p ^ n) two_le_pow (digit p 1 k) ≡ constant_coefficients R.zero R.one k
    one-digit zero = ap (residue (p ^ n) two_le_pow) (digit-zero p 1 ∙ mod-eq_of_lt two_le)
        ∙ residue-one (p ^ n) two_le_pow
    one-digit (suc k) = ap (residue (p ^ n) two_le_pow) (digit-suc_of_lt p 1 k two_le) ∙ residue-zero (p ^ n) two_le_pow

    pub section : IsSection E.cring T elem_down elem_rep
    section = record {
      down-rep = λ a. Elem-path o (elem_down (elem_rep a)) a
          (digit_injective p (length m) (elem_down (elem_rep a)).0 a.0 (below (elem_down (elem_rep a))) (below a)
          (λ v l. elem_down-digit (elem_rep a) v ∙ ap (λ (x : Fin (p ^ n)). x.0 % p) (elem_rep-coefficient a v)
          ∙ ap (λ (x : Fin p). x.0) (reduce-residue p n two_le two_le_pow (digit p a.0 v))
          ∙ mod-eq_of_lt (digit_lt p (omega arith) a.0 v)));
      rep-zero = Remainder-ext R ZR f f_monic (elem_rep E.zero) T.zero (λ k. elem_rep-coefficient E.zero k
          ∙ ap (residue (p ^ n) two_le_pow) (ap (λ a. digit p a k) D.zero ∙ zero-digit p k)
          ∙ residue-zero (p ^ n) two_le_pow
          ∙ sym (remainder-coefficient-zero R ZR f f_monic k));
      rep-one = Remainder-ext R ZR f f_monic (elem_rep E.one) T.one (λ k. elem_rep-coefficient E.one k
          ∙ ap (λ a. residue (p ^ n) two_le_pow (digit p a k)) D.one ∙ one-digit k
          ∙ sym (ap (λ a. coefficient R a k) (remainders-one_poly R ZR f f_monic (let e = degree-f in omega arith))
          ∙ coefficient-one R ZR k));
    }

    module _ (π : Poly E.cring) (monic : IsMonic E.cring π) where
      abbrev pub g : Poly T
      g = lift_poly E.cring E.zero_test T ZT p n elem_down elem_lift elem_rep section π monic

      pub g_monic : IsMonic T g
      g_monic = lift_poly_monic E.cring E.zero_test T ZT p n elem_down elem_lift elem_rep section π monic

      g-coefficient : (u : ℕ) → coefficient T g u ≡ elem_rep (coefficient E.cring π u)
      g-coefficient = lift_poly-coefficient E.cring E.zero_test T ZT p n elem_down elem_lift elem_rep section π monic

      pub g_reduces : (u : ℕ) → coefficient E.cring π u ≡ elem_down (coefficient T g u)
      g_reduces = lift_poly-reduces E.cring E.zero_test T ZT p n elem_down elem_lift elem_rep section π monic

      abbrev pub tower : TowerMod (p ^ n) two_le_pow
      tower = record {
        first_polynomials = polynomials R ZR;
        first_polynomials_is = is_polynomial_ring R ZR;
        first_modulus = f;
        first_monic = f_monic;
        first = T;
        first_is = is_remainder_ring R ZR f f_monic;
        second_polynomials = polynomials T ZT;
        second_polynomials_is = is_polynomial_ring T ZT;
        second_modulus = g;
        second_monic = g_monic;
        second = remainders T ZT g g_monic;
        second_is = is_remainder_ring T ZT g g_monic;
      }

      pub has_digit_moduli : HasDigitModuli p m o L π n two_le_pow tower
      has_digit_moduli = record {
        first = coefficient-modulus (p ^ n) two_le_pow m;
        second = λ u v. ap (λ (a : Remainder R f). coefficient R a.0 v) (g-coefficient u)
            ∙ elem_rep-coefficient (coefficient E.cring π u) v;
      }

      -- the remainders by g go to those by π
      pub tower_down : TowerElement tower → Remainder E.cring π
      tower_down = remainder_down E.cring E.zero_test T ZT p n elem_down elem_lift g g_monic π monic g_reduces

      pub tower_down-digit : (y : TowerElement tower) (u v : ℕ)
          → digit p (coefficient E.cring (tower_down y).0 u).0 v ≡ (double_coefficient tower y.0 u v).0 % p
      unfolding tower_down
      tower_down-digit y u v =
          ap (λ (a : Elem o). digit p a.0 v)
          (remainder_down-coefficient E.cring E.zero_test T ZT p n elem_down elem_lift g g_monic π monic g_reduces y
          u)
          ∙ elem_down-digit (coefficient T y.0 u) v

      pub tower_lift : (P : CommRingOn (Poly E.cring)) → IsPolynomialRing E.cring P
          → (Q : CommRingOn (Remainder E.cring π)) → IsRemainderRing E.cring π P Q
          → IsLiftRing Q tower.second p n tower_down
      unfolding tower_down
      tower_lift P I Q J =
          remainders_lift E.cring E.zero_test T ZT p n elem_down elem_lift g g_monic π monic g_reduces P I Q J
          (polynomials T ZT) (is_polynomial_ring T ZT) (remainders T ZT g g_monic) (is_remainder_ring T ZT g g_monic)
