-- The lift ring of F_q[x]/(π) on lists of numbers, and what it does: the radical of an algebra over the residue field.
use Rattle.std.specs.Prelude.{◌≡◌, ℕ, suc, ◌%◌, ◌^◌, ◌<◌, ◌≤◌, List, length}
use Rattle.std.proofs.Common.{refl, ◌∙◌, ap, arith}
use Rattle.theory_rings.specs.Ring.{CommRingOn, FieldOn}
use Rattle.theory_rings.specs.Power.{times}
use Rattle.theory_rings.specs.Ops.{Ops, FieldLaws}
use Rattle.theory_rings.specs.Elements.{elements}
use Rattle.theory_rings.specs.FieldByDigits.{IsFieldByDigits}
use Rattle.theory_rings.specs.Polynomial.{Poly, degree, IsMonic, IsPolynomialRing}
use Rattle.theory_rings.specs.Remainder.{Remainder, IsRemainderRing}
use Rattle.theory_rings.proofs.Numbers.Digits.{lt_pow_self}
use Rattle.theory_rings.proofs.FiniteFields.ElementsByDigits.{prime_by_digits}
use Rattle.theory_spaces.specs.Module.{AlgebraOn, module_of}
use Rattle.theory_spaces.specs.Linear.{Basis}
use Rattle.theory_radical.specs.LiftRing.{LiftRingOn}
use Rattle.theory_radical.specs.Tower.{TowerMod}
use Rattle.theory_radical.proofs.Lifts.LiftRings.{isomorphic_lift_rings}
use Rattle.theory_radical.proofs.Lifts.RemainderLifts.{same_degree}
use Rattle.theory_lifts.specs.DigitLift.{LiftList, IsLiftOfLists}
use Rattle.theory_lifts.specs.RadicalSpan.{RadicalBasis}
use Rattle.theory_lifts.proofs.DigitLifts.{T, ZT, elem_down, elem_lift, degree-f, g_monic, g_reduces, tower, tower_down}
use Rattle.theory_lifts.proofs.DigitLifts.{tower_down-digit, tower_lift}
use Rattle.theory_lifts.proofs.TowerLists.{value, coefficient-value, value_bijective, ring_of_lists, value_hom}
use Rattle.theory_lifts.proofs.TowerLists.{lists_set}
use Rattle.theory_lifts.proofs.ResidueRoots.{residue_roots}
use Rattle.theory_lifts.proofs.RadicalSpan.{radical_basis}

module _ (p : ℕ) (two_le : 2 ≤ p) (m : List ℕ) (d : 1 ≤ length m) (o : Ops ℕ) (D : IsFieldByDigits p m o)
    (L : FieldLaws o)
    (π : Poly (elements o L).cring) (monic : IsMonic (elements o L).cring π)
    (P : CommRingOn (Poly (elements o L).cring)) (I : IsPolynomialRing (elements o L).cring P)
    (F : FieldOn (Remainder (elements o L).cring π)) (J : IsRemainderRing (elements o L).cring π P F.cring) where
  module _ (n : ℕ) (two_le_pow : 2 ≤ p ^ n) where
    abbrev pub lift_tower : TowerMod (p ^ n) two_le_pow
    lift_tower = tower p two_le m d o D L n two_le_pow π monic

    pub height : degree lift_tower.second_modulus.0 ≡ degree π.0
    height = same_degree (elements o L).cring (elements o L).zero_test (T p two_le m d o D L n two_le_pow)
        (ZT p two_le m d o D L n two_le_pow) p n
        (elem_down p two_le m d o D L n two_le_pow)
        (elem_lift p two_le m d o D L n two_le_pow) lift_tower.second_modulus
        (g_monic p two_le m d o D L n two_le_pow π monic) π monic
        (g_reduces p two_le m d o D L n two_le_pow π monic)

    pub width : degree lift_tower.first_modulus.0 ≡ length m
    width = degree-f p two_le m d o D L n two_le_pow

    abbrev list_value : LiftList p m o L π n → Remainder lift_tower.first lift_tower.second_modulus
    list_value = value (p ^ n) two_le_pow lift_tower (degree π.0) (length m) height width

    -- each number modulo p
    list_down : LiftList p m o L π n → Remainder (elements o L).cring π
    list_down w = tower_down p two_le m d o D L n two_le_pow π monic (list_value w)

    pub list_lift : LiftRingOn F p n (LiftList p m o L π n)
    unfolding list_down
    list_lift = record {
      ring = ring_of_lists (p ^ n) two_le_pow lift_tower (degree π.0) (length m) height width;
      set = lists_set (p ^ n) two_le_pow lift_tower (degree π.0) (length m) height width;
      down = list_down;
      is_lift = isomorphic_lift_rings F.cring lift_tower.second F.cring
          (ring_of_lists (p ^ n) two_le_pow lift_tower (degree π.0) (length m) height width) p n
          (tower_down p two_le m d o D L n two_le_pow π monic)
          (tower_lift p two_le m d o D L n two_le_pow π monic P I F.cring J)
          (λ x. x) (record { map-one = refl; map-add = λ a b. refl; map-mul = λ a b. refl })
          (record { injective = λ a b e. e; surjective = λ y. (y, refl) })
          list_value (value_hom (p ^ n) two_le_pow lift_tower (degree π.0) (length m) height width)
          (value_bijective (p ^ n) two_le_pow lift_tower (degree π.0) (length m) height width);
    }

    pub list_lift-ring : list_lift.ring
        ≡ ring_of_lists (p ^ n) two_le_pow lift_tower (degree π.0) (length m) height width
    unfolding list_lift
    list_lift-ring = refl

    pub is_lift_of_lists : IsLiftOfLists p m o L π n two_le_pow lift_tower F list_lift
    unfolding list_lift list_down
    is_lift_of_lists = record {
      value = list_value;
      coefficient-value = coefficient-value (p ^ n) two_le_pow lift_tower (degree π.0) (length m) height width;
      homomorphism = value_hom (p ^ n) two_le_pow lift_tower (degree π.0) (length m) height width;
      bijective = value_bijective (p ^ n) two_le_pow lift_tower (degree π.0) (length m) height width;
      digit-down = λ w u v lu lv. tower_down-digit p two_le m d o D L n two_le_pow π monic (list_value w) u v
          ∙ ap (λ k. k % p) (coefficient-value (p ^ n) two_le_pow lift_tower (degree π.0)
          (length m) height width w u v lu lv);
    }

  -- p is 0 in the residue field
  pub residue_characteristic : times F.monoid p F.one ≡ F.zero
  residue_characteristic = let L' = list_lift 1 (let l = lt_pow_self p 1 two_le in omega arith) in
      L'.is_lift.characteristic

  -- each algebra with a basis over the residue field has a radical with a basis
  pub residue_radical : {V : Type 0} (A : AlgebraOn F.ring V) (k : ℕ) → Basis (module_of A) k → RadicalBasis A
  residue_radical A k B =
      let n = suc k in
      let large : n < p ^ n = lt_pow_self p n two_le in
      radical_basis (prime_by_digits p two_le m d o D) (list_lift n (omega arith)) A k B
      (residue_roots p two_le m d o D L π monic F) (omega arith)
