-- The residue field as a program has it, with p-th roots and a lift ring on lists of numbers.
use Rattle.std.specs.Prelude.{◌≡◌, ℕ, ◌^◌, ◌≤◌, List, length}
use Rattle.theory_rings.specs.Ops.{Ops, FieldLaws}
use Rattle.theory_rings.specs.Ring.{FieldOn}
use Rattle.theory_rings.specs.Elements.{Elem}
use Rattle.theory_rings.specs.FieldByDigits.{IsFieldByDigits}
use Rattle.theory_radical.specs.LiftRing.{LiftRingOn, HasRoots}
use Rattle.theory_remainders.specs.Irreducible.{IsIrreducible}
use Rattle.theory_remainders.specs.RemainderOps.{remainder_ops}
use Rattle.theory_remainders.proofs.RemainderField.{monic}
use Rattle.theory_lifts.proofs.ElementLifts.{residue_elements}
use Rattle.theory_lifts.proofs.ElementLists.{Lists, HasNumbers, digit_list}

module _ (o : Ops ℕ) (L : FieldLaws o) (m : List ℕ) (i : IsIrreducible o m) (p : ℕ) (two_le : 2 ≤ p) (n : List ℕ)
    (d : 1 ≤ length n) (D : IsFieldByDigits p n o) where
  abbrev K : FieldOn (Elem (remainder_ops o L m (monic o L m i)))
  K = residue_elements o L m i

  -- a lift ring on the lists of numbers below p^k, whose sums and products by t and x are these sums of numbers, and in
  -- which the list of the digits of an element is a lift of it
  pub record LiftOfElements (k : ℕ) (two_le_pow : 2 ≤ p ^ k) : Type 0 where
    pub lift : LiftRingOn K p k (Lists o L m i p two_le n d D k two_le_pow)
    pub numbers : HasNumbers o L m i p two_le n d D k two_le_pow lift.ring
    pub digits : (a : Elem (remainder_ops o L m (monic o L m i)))
        → lift.down (digit_list o L m i p two_le n d D k two_le_pow a.0) ≡ a

  pub record ElementLifts : Type 0 where
    pub roots : HasRoots K.ring p
    pub lifts : (k : ℕ) (two_le_pow : 2 ≤ p ^ k) → LiftOfElements k two_le_pow

abbrev pub ElementLiftsLaw : Type 0
ElementLiftsLaw = (o : Ops ℕ) (L : FieldLaws o) (m : List ℕ) (i : IsIrreducible o m) (p : ℕ) (two_le : 2 ≤ p)
    (n : List ℕ) (d : 1 ≤ length n) (D : IsFieldByDigits p n o) → ElementLifts o L m i p two_le n d D
