-- The ring (Z/p^n)[t]/(f)[x]/(g) is a lift ring of its residue over Z/p; and each ring over Z/p has such a lift ring,
-- with the same numbers as coefficients of the moduli.
use Rattle.std.specs.Prelude.{◌≡◌, ℕ, ◌^◌, ◌≤◌}
use Rattle.std.proofs.Common.{sym, ◌∙◌, ap}
use Rattle.theory_rings.specs.Ring.{CommRingOn, ZeroTest}
use Rattle.theory_rings.specs.Power.{times}
use Rattle.theory_rings.specs.IntegersMod.{Fin, integers_mod, residue, residue_is_zero}
use Rattle.theory_rings.specs.Polynomial.{Poly, coefficient, IsMonic}
use Rattle.theory_rings.specs.Remainder.{Remainder}
use Rattle.theory_rings.proofs.Powers.Times.{times_char}
use Rattle.theory_rings.proofs.Numbers.IntegersMod.{residue_zero_test, residue-zero, residue-one}
use Rattle.theory_rings.proofs.Polynomials.PolynomialRing.{polynomials, is_polynomial_ring}
use Rattle.theory_rings.proofs.Polynomials.Remainders.{remainders, is_remainder_ring, is_zero_remainder}
use Rattle.theory_rings.proofs.Polynomials.Remainders.{zero_remainder_test}
use Rattle.theory_radical.specs.LiftRing.{IsLiftRing}
use Rattle.theory_radical.specs.Tower.{TowerElement, TowerMod, Reduces, HasSameNumbers, IsCoefficientwise}
use Rattle.theory_radical.specs.Tower.{double_coefficient}
use Rattle.theory_radical.proofs.Lifts.IntegerLifts.{reduce, raise_residue, reduce-raise, value-raise, integers_lift}
use Rattle.theory_radical.proofs.Lifts.IntegerLifts.{times-modulus}
use Rattle.theory_rings.proofs.Polynomials.RemainderRings.{Remainder-ext, Remainder-set, remainders_zero_test}
use Rattle.theory_radical.proofs.Lifts.RemainderLifts.{IsSection, one-ne-zero_of_monic, lift_poly}
use Rattle.theory_radical.proofs.Lifts.RemainderLifts.{lift_poly-coefficient, lift_poly-reduces, lift_poly_monic}
use Rattle.theory_radical.proofs.Lifts.RemainderLifts.{remainder_down, remainder_down-coefficient, remainders_lift}
use Rattle.theory_radical.proofs.Lifts.RemainderLifts.{remainder_rep, remainder_rep-coefficient, remainders_section}
use Rattle.theory_radical.proofs.Lifts.RemainderLifts.{degree-pos_of_nontrivial, remainders_times-one}

module _ (p n : ℕ) (two_le : 2 ≤ p) (two_le_pow : 2 ≤ p ^ n) where
  abbrev S : CommRingOn (Fin p)
  S = integers_mod p two_le

  abbrev R : CommRingOn (Fin (p ^ n))
  R = integers_mod (p ^ n) two_le_pow

  abbrev pub Z' : ZeroTest S.zero (residue_is_zero p two_le)
  Z' = residue_zero_test p two_le

  abbrev pub Z : ZeroTest R.zero (residue_is_zero (p ^ n) two_le_pow)
  Z = residue_zero_test (p ^ n) two_le_pow

  abbrev L : IsLiftRing S R p n (reduce p n two_le two_le_pow)
  L = integers_lift p n two_le two_le_pow

  -- a test of 0 in the first ring of a tower
  abbrev pub first_test' : (k : TowerMod p two_le)
      → ZeroTest k.first.zero (is_zero_remainder S Z' k.first_modulus k.first_monic)
  first_test' k = remainders_zero_test S Z' k.first_modulus k.first_monic k.first_polynomials k.first_polynomials_is
      k.first k.first_is

  abbrev pub first_test : (T : TowerMod (p ^ n) two_le_pow)
      → ZeroTest T.first.zero (is_zero_remainder R Z T.first_modulus T.first_monic)
  first_test T = remainders_zero_test R Z T.first_modulus T.first_monic T.first_polynomials T.first_polynomials_is
      T.first T.first_is

  module _ (T : TowerMod (p ^ n) two_le_pow) (k : TowerMod p two_le) (reduces : Reduces p n two_le two_le_pow T k) where
    abbrev first_down : Remainder R T.first_modulus → Remainder S k.first_modulus
    first_down = remainder_down S Z' R Z p n
        (reduce p n two_le two_le_pow) L T.first_modulus T.first_monic k.first_modulus k.first_monic reduces.first

    first_down-coefficient : (y : Remainder R T.first_modulus) (v : ℕ)
        → coefficient S (first_down y).0 v ≡ residue p two_le (coefficient R y.0 v).0
    first_down-coefficient y v =
        remainder_down-coefficient S Z' R Z p n
        (reduce p n two_le two_le_pow) L T.first_modulus T.first_monic k.first_modulus k.first_monic reduces.first y v

    first_lift : IsLiftRing k.first T.first p n first_down
    first_lift = remainders_lift S Z' R Z p n
        (reduce p n two_le two_le_pow) L T.first_modulus T.first_monic k.first_modulus k.first_monic reduces.first
        k.first_polynomials k.first_polynomials_is k.first k.first_is T.first_polynomials T.first_polynomials_is T.first
        T.first_is

    second_reduces : (u : ℕ)
        → coefficient k.first k.second_modulus u ≡ first_down (coefficient T.first T.second_modulus u)
    second_reduces u = Remainder-ext S Z' k.first_modulus k.first_monic (coefficient k.first k.second_modulus u)
        (first_down (coefficient T.first T.second_modulus u))
        (λ v. reduces.second u v ∙ sym (first_down-coefficient (coefficient T.first T.second_modulus u) v))

    -- each coefficient modulo p
    pub tower_down : TowerElement T → TowerElement k
    tower_down = remainder_down k.first (first_test' k) T.first
        (first_test T) p n first_down first_lift T.second_modulus T.second_monic k.second_modulus k.second_monic
        second_reduces

    pub tower_down_coefficientwise : IsCoefficientwise p n two_le two_le_pow T k tower_down
    unfolding tower_down
    tower_down_coefficientwise y u v =
        ap (λ (a : Remainder S k.first_modulus). coefficient S a.0 v)
        (remainder_down-coefficient k.first (first_test' k) T.first
        (first_test T) p n first_down first_lift T.second_modulus T.second_monic k.second_modulus k.second_monic
        second_reduces y u)
        ∙ first_down-coefficient (coefficient T.first y.0 u) v

    pub tower_lift : IsLiftRing k.second T.second p n tower_down
    unfolding tower_down
    tower_lift = remainders_lift k.first (first_test' k) T.first
        (first_test T) p n first_down first_lift T.second_modulus T.second_monic k.second_modulus k.second_monic
        second_reduces
        k.second_polynomials k.second_polynomials_is k.second k.second_is T.second_polynomials T.second_polynomials_is
        T.second T.second_is

  -- in which p^n is 0
  pub tower_times-modulus : (T : TowerMod (p ^ n) two_le_pow) (y : TowerElement T)
      → times T.second.monoid (p ^ n) y ≡ T.second.zero
  tower_times-modulus T y = times_char T.second.ring (p ^ n)
      (remainders_times-one T.first (first_test T) T.second_modulus T.second_monic (p ^ n)
      (remainders_times-one R Z T.first_modulus T.first_monic (p ^ n)
      (times-modulus p n two_le two_le_pow R.one) T.first_polynomials T.first_polynomials_is T.first T.first_is)
      T.second_polynomials T.second_polynomials_is T.second T.second_is) y

  pub tower_set : (T : TowerMod (p ^ n) two_le_pow) → IsSet (TowerElement T)
  tower_set T = Remainder-set T.first (first_test T) T.second_modulus T.second_monic

  -- the lift of a tower
  module _ (k : TowerMod p two_le) where
    section : IsSection S R (reduce p n two_le two_le_pow) (raise_residue p n two_le two_le_pow)
    section = record {
      down-rep = reduce-raise p n two_le two_le_pow;
      rep-zero = residue-zero (p ^ n) two_le_pow;
      rep-one = residue-one (p ^ n) two_le_pow;
    }

    abbrev f : Poly R
    f = lift_poly S Z' R Z p n (reduce p n two_le two_le_pow) L
        (raise_residue p n two_le two_le_pow) section k.first_modulus k.first_monic

    f_monic : IsMonic R f
    f_monic = lift_poly_monic S Z' R Z p n (reduce p n two_le two_le_pow) L
        (raise_residue p n two_le two_le_pow) section k.first_modulus k.first_monic

    f-coefficient : (v : ℕ) → coefficient R f v ≡ raise_residue p n two_le two_le_pow (coefficient S k.first_modulus v)
    f-coefficient = lift_poly-coefficient S Z' R Z p n (reduce p n two_le two_le_pow) L
        (raise_residue p n two_le two_le_pow) section k.first_modulus k.first_monic

    f_reduces : (v : ℕ) → coefficient S k.first_modulus v ≡ reduce p n two_le two_le_pow (coefficient R f v)
    f_reduces = lift_poly-reduces S Z' R Z p n (reduce p n two_le two_le_pow) L
        (raise_residue p n two_le two_le_pow) section k.first_modulus k.first_monic

    abbrev P : CommRingOn (Poly R)
    P = polynomials R Z

    abbrev Q : CommRingOn (Remainder R f)
    Q = remainders R Z f f_monic

    abbrev Q_test : ZeroTest Q.zero (is_zero_remainder R Z f f_monic)
    Q_test = zero_remainder_test R Z f f_monic

    abbrev Q_down : Remainder R f → Remainder S k.first_modulus
    Q_down = remainder_down S Z' R Z p n
        (reduce p n two_le two_le_pow) L f f_monic k.first_modulus k.first_monic f_reduces

    Q_lift : IsLiftRing k.first Q p n Q_down
    Q_lift = remainders_lift S Z' R Z p n
        (reduce p n two_le two_le_pow) L f f_monic k.first_modulus k.first_monic f_reduces
        k.first_polynomials k.first_polynomials_is k.first k.first_is P (is_polynomial_ring R Z) Q
        (is_remainder_ring R Z f f_monic)

    abbrev Q_rep : Remainder S k.first_modulus → Remainder R f
    Q_rep = remainder_rep S Z' R Z p n
        (reduce p n two_le two_le_pow) L f f_monic k.first_modulus k.first_monic f_reduces
        (raise_residue p n two_le two_le_pow) section

    Q_section : IsSection k.first Q Q_down Q_rep
    Q_section = remainders_section S Z' R Z p n
        (reduce p n two_le two_le_pow) L f f_monic k.first_modulus k.first_monic f_reduces
        (raise_residue p n two_le two_le_pow) section
        k.first_polynomials k.first_polynomials_is k.first k.first_is
        (degree-pos_of_nontrivial S Z' k.first_modulus k.first_monic k.first
        (one-ne-zero_of_monic k.first k.second_modulus k.second_monic))
        P (is_polynomial_ring R Z) Q (is_remainder_ring R Z f f_monic)

    abbrev g : Poly Q
    g = lift_poly k.first (first_test' k) Q Q_test p n Q_down Q_lift Q_rep Q_section k.second_modulus k.second_monic

    g_monic : IsMonic Q g
    g_monic = lift_poly_monic k.first
        (first_test' k) Q Q_test p n Q_down Q_lift Q_rep Q_section k.second_modulus k.second_monic

    g-coefficient : (u : ℕ) → coefficient Q g u ≡ Q_rep (coefficient k.first k.second_modulus u)
    g-coefficient = lift_poly-coefficient k.first
        (first_test' k) Q Q_test p n Q_down Q_lift Q_rep Q_section k.second_modulus k.second_monic

    pub lifted_tower : TowerMod (p ^ n) two_le_pow
    lifted_tower = record {
      first_polynomials = P;
      first_polynomials_is = is_polynomial_ring R Z;
      first_modulus = f;
      first_monic = f_monic;
      first = Q;
      first_is = is_remainder_ring R Z f f_monic;
      second_polynomials = polynomials Q Q_test;
      second_polynomials_is = is_polynomial_ring Q Q_test;
      second_modulus = g;
      second_monic = g_monic;
      second = remainders Q Q_test g g_monic;
      second_is = is_remainder_ring Q Q_test g g_monic;
    }

    second-number : (u v : ℕ)
        → coefficient R (coefficient Q g u).0 v ≡ raise_residue p n two_le two_le_pow
        (double_coefficient k k.second_modulus u v)
    second-number u v = ap (λ (a : Remainder R f). coefficient R a.0 v) (g-coefficient u)
        ∙ remainder_rep-coefficient S Z' R Z p n
        (reduce p n two_le two_le_pow) L f f_monic k.first_modulus k.first_monic f_reduces
        (raise_residue p n two_le two_le_pow) section
        (coefficient k.first k.second_modulus u) v

    pub lifted_tower_reduces : Reduces p n two_le two_le_pow lifted_tower k
    unfolding lifted_tower
    lifted_tower_reduces = record {
      first = f_reduces;
      second = λ u v. sym (ap (reduce p n two_le two_le_pow) (second-number u v)
          ∙ reduce-raise p n two_le two_le_pow (double_coefficient k k.second_modulus u v));
    }

    pub lifted_tower_numbers : HasSameNumbers p n two_le two_le_pow lifted_tower k
    unfolding lifted_tower
    lifted_tower_numbers = record {
      first = λ v. ap (λ (a : Fin (p ^ n)). a.0) (f-coefficient v)
          ∙ value-raise p n two_le two_le_pow (coefficient S k.first_modulus v);
      second = λ u v. ap (λ (a : Fin (p ^ n)). a.0) (second-number u v)
          ∙ value-raise p n two_le two_le_pow (double_coefficient k k.second_modulus u v);
    }
