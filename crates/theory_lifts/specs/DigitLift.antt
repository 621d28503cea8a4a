-- The lift ring of a residue field F_q[x]/(π), where the elements of F_q are the numbers below q = p^d, by their
-- digits.
use Rattle.std.specs.Prelude.{◌≡◌, ℕ, ◌+◌, ◌*◌, ◌%◌, ◌^◌, ◌<◌, ◌≤◌, List, [], length, get_or}
use Rattle.theory_rings.specs.Ring.{CommRingOn, FieldOn}
use Rattle.theory_rings.specs.Ops.{Ops, FieldLaws}
use Rattle.theory_rings.specs.Elements.{elements}
use Rattle.theory_rings.specs.Digits.{digit}
use Rattle.theory_rings.specs.Homomorphism.{IsRingHom}
use Rattle.theory_rings.specs.IntegersMod.{integers_mod, residue, mod_ops}
use Rattle.theory_rings.specs.FieldByDigits.{modulus_coefficient, IsFieldByDigits}
use Rattle.theory_rings.specs.Polynomial.{Poly, coefficient, degree, IsMonic, IsPolynomialRing}
use Rattle.theory_rings.specs.Division.{IsIrreducible}
use Rattle.theory_rings.specs.Remainder.{Remainder, IsRemainderRing}
use Rattle.theory_spaces.specs.Tuples.{Tuple}
use Rattle.theory_radical.specs.LiftRing.{LiftRingOn, HasRoots}
use Rattle.theory_radical.specs.LiftLaws.{IsBijective}
use Rattle.theory_radical.specs.Tower.{TowerElement, TowerMod, double_coefficient}

module _ (p : ℕ) (m : List ℕ) (o : Ops ℕ) (L : FieldLaws o) (π : Poly (elements o L).cring) where
  module _ (n : ℕ) (two_le : 2 ≤ p ^ n) where
    -- the ring T is (Z/p^n)[t]/(f)[x]/(g): the modulus of the field has the numbers of f, and the digits of the
    -- coefficients of π are the numbers of g
    pub record HasDigitModuli (T : TowerMod (p ^ n) two_le) : Type 0 where
      pub first : (v : ℕ) → coefficient (integers_mod (p ^ n) two_le) T.first_modulus v ≡ residue (p ^ n) two_le
          (modulus_coefficient m v)
      pub second : (u v : ℕ) → double_coefficient T T.second_modulus u v ≡ residue (p ^ n) two_le
          (digit p (coefficient (elements o L).cring π u).0 v)

  -- the lists of e·d numbers below p^n, where e is the degree of π
  abbrev pub LiftList : ℕ → Type 0
  LiftList n = Tuple (mod_ops (p ^ n) []) (degree π.0 * length m)

  -- the lists are the elements of T, number u·d + v the coefficient at x^u·t^v, and go to the elements of the residue
  -- field by taking each number modulo p, as digit v of coefficient u
  pub record IsLiftOfLists (n : ℕ) (two_le : 2 ≤ p ^ n) (T : TowerMod (p ^ n) two_le)
      (F : FieldOn (Remainder (elements o L).cring π)) (lift : LiftRingOn F p n (LiftList n)) : Type 0 where
    pub value : LiftList n → TowerElement T
    pub coefficient-value : (w : LiftList n) (u v : ℕ) → u < degree π.0 → v < length m
        → (double_coefficient T (value w).0 u v).0 ≡ get_or w.0 (u * length m + v) 0
    pub homomorphism : IsRingHom lift.ring.ring T.second.ring value
    pub bijective : IsBijective value
    pub digit-down : (w : LiftList n) (u v : ℕ) → u < degree π.0 → v < length m
        → digit p (coefficient (elements o L).cring (lift.down w).0 u).0 v ≡ get_or w.0 (u * length m + v) 0 % p

-- the residue field is a field where π is irreducible, and a field with its ring has p-th roots
abbrev pub ResidueFields : Type 0
ResidueFields = (p : ℕ) → 2 ≤ p → (m : List ℕ) → 1 ≤ length m → (o : Ops ℕ) → IsFieldByDigits p m o → (L : FieldLaws o)
    → (π : Poly (elements o L).cring) → IsMonic (elements o L).cring π → (P : CommRingOn (Poly (elements o L).cring))
    → IsPolynomialRing (elements o L).cring P
    → (IsIrreducible (elements o L).cring P π → (F : FieldOn (Remainder (elements o L).cring π))
    × IsRemainderRing (elements o L).cring π P F.cring)
    × ((F : FieldOn (Remainder (elements o L).cring π)) → IsRemainderRing (elements o L).cring π P F.cring
    → HasRoots F.ring p)

-- and it has a lift ring of lists for each n
abbrev pub LiftsOfLists : Type 0
LiftsOfLists = (p : ℕ) → 2 ≤ p → (m : List ℕ) → 1 ≤ length m → (o : Ops ℕ) → IsFieldByDigits p m o → (L : FieldLaws o)
    → (π : Poly (elements o L).cring) → IsMonic (elements o L).cring π → (P : CommRingOn (Poly (elements o L).cring))
    → IsPolynomialRing (elements o L).cring P
    → (F : FieldOn (Remainder (elements o L).cring π)) → IsRemainderRing (elements o L).cring π P F.cring
    → (n : ℕ) (two_le : 2 ≤ p ^ n)
    → (T : TowerMod (p ^ n) two_le) × HasDigitModuli p m o L π n two_le T
    × ((lift : LiftRingOn F p n (LiftList p m o L π n)) × IsLiftOfLists p m o L π n two_le T F lift)
