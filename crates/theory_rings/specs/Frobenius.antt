-- The Frobenius map x ↦ x^p, where p is prime and p times 1 is 0.
use Rattle.std.specs.Prelude.{◌≡◌, ℕ, ◌<◌, ◌↔◌}
use Rattle.theory_rings.specs.Ring.{CommRingOn}
use Rattle.theory_rings.specs.Ops.{Ops, IsElem, FieldLaws}
use Rattle.theory_rings.specs.Prime.{IsPrime}
use Rattle.theory_rings.specs.Power.{power, power_of, times, times_of}

-- the p-th power of a sum is the sum of the p-th powers
abbrev pub FrobeniusLaw : {K : Type 0} → CommRingOn K → Type 0
FrobeniusLaw {K} C = (p : ℕ) → IsPrime p → times C.monoid p C.one ≡ C.zero
    → (a b : K) → power C.ring (C.◌⊕◌ a b) p ≡ C.◌⊕◌ (power C.ring a p) (power C.ring b p)

-- r is the only element below q whose p-th power is a
pub record IsFrobeniusRoot (o : Ops ℕ) (q p a r : ℕ) : Type 0 where
  pub below : r < q
  pub root : power_of o r p ≡ a
  pub unique : (s : ℕ) → s < q → power_of o s p ≡ a → s ≡ r

-- in a program's field whose elements are the numbers below q, each is the p-th power of exactly one
abbrev pub FrobeniusRootsLaw : Type 0
FrobeniusRootsLaw = (o : Ops ℕ) → FieldLaws o → (q : ℕ) → ((a : ℕ) → IsElem o a ↔ (a < q))
    → (p : ℕ) → IsPrime p → times_of o p o.one ≡ o.zero
    → (a : ℕ) → a < q → (r : ℕ) × IsFrobeniusRoot o q p a r
