-- The ring of remainders by a polynomial.
use Rattle.std.specs.Prelude.{◌<◌, length}
use Rattle.theory_rings.specs.Ring.{CommRingOn}
use Rattle.theory_rings.specs.Polynomial.{Poly}
use Rattle.theory_rings.specs.Division.{Congruent}

module _ {K : Type 0} (R : CommRingOn K) (m : Poly R) where
  -- the polynomials of smaller degree than m
  abbrev pub Remainder : Type 0
  Remainder = (a : Poly R) × (length a.0 < length m.0)

  -- the operations of Q are those of polynomials modulo m
  pub record IsRemainderRing (P : CommRingOn (Poly R)) (Q : CommRingOn Remainder) : Type 0 where
    pub zero_mod : Congruent P m Q.zero.0 P.zero
    pub one_mod : Congruent P m Q.one.0 P.one
    pub add_mod : (a b : Remainder) → Congruent P m (Q.◌⊕◌ a b).0 (P.◌⊕◌ a.0 b.0)
    pub neg_mod : (a : Remainder) → Congruent P m (Q.neg a).0 (P.neg a.0)
    pub mul_mod : (a b : Remainder) → Congruent P m (Q.◌⊗◌ a b).0 (P.◌⊗◌ a.0 b.0)
