-- Which rings are lift rings: the integers modulo p^n, remainders over a lift ring, and the rings
-- (Z/p^n)[t]/(f)[x]/(g).
use Rattle.std.specs.Prelude.{◌≡◌, ℕ, ◌^◌, ◌≤◌, ◌<◌}
use Rattle.theory_rings.specs.Ring.{CommRingOn, FieldOn}
use Rattle.theory_rings.specs.Power.{times}
use Rattle.theory_rings.specs.Prime.{IsPrime}
use Rattle.theory_rings.specs.Enumerated.{Enumerated}
use Rattle.theory_rings.specs.Homomorphism.{IsRingHom}
use Rattle.theory_rings.specs.IntegersMod.{integers_mod, residue}
use Rattle.theory_rings.specs.Polynomial.{Poly, coefficient, degree, IsMonic, IsPolynomialRing}
use Rattle.theory_rings.specs.Remainder.{Remainder, IsRemainderRing}
use Rattle.theory_radical.specs.Congruence.{MultipleOf}
use Rattle.theory_radical.specs.LiftRing.{IsLiftRing, HasRoots}
use Rattle.theory_radical.specs.Tower.{TowerElement, IsIrreducibleTower, TowerMod, Reduces, HasSameNumbers}
use Rattle.theory_radical.specs.Tower.{IsCoefficientwise}

-- one to one and onto
pub record IsBijective {X Y : Type 0} (f : X → Y) : Type 0 where
  pub injective : (a b : X) → f a ≡ f b → a ≡ b
  pub surjective : (y : Y) → (x : X) × (f x ≡ y)

-- the integers modulo p^n, of those modulo p
abbrev pub IntegersAreLiftRings : Type 0
IntegersAreLiftRings = (p n : ℕ) (two_le : 2 ≤ p) (two_le_pow : 2 ≤ p ^ n)
    → IsLiftRing (integers_mod p two_le) (integers_mod (p ^ n) two_le_pow) p n (λ y. residue p two_le y.0)

module _ {K W : Type 0} (S : CommRingOn K) (R : CommRingOn W) where
  -- where R is a lift ring of S, the remainders by a monic polynomial over R are one of those by its residue
  abbrev pub RemaindersAreLiftRings : Type 0
  RemaindersAreLiftRings = (p n : ℕ) (down : W → K) → IsLiftRing S R p n down
      → (f : Poly R) → IsMonic R f → (g : Poly S) → IsMonic S g
      → ((k : ℕ) → coefficient S g k ≡ down (coefficient R f k))
      → (P' : CommRingOn (Poly S)) → IsPolynomialRing S P' → (E' : CommRingOn (Remainder S g))
      → IsRemainderRing S g P' E'
      → (P : CommRingOn (Poly R)) → IsPolynomialRing R P → (E : CommRingOn (Remainder R f)) → IsRemainderRing R f P E
      → (d : Remainder R f → Remainder S g)
      × ((y : Remainder R f) (k : ℕ) → coefficient S (d y).0 k ≡ down (coefficient R y.0 k)) × IsLiftRing E' E p n d

  -- and each monic polynomial over S is the residue of one over R
  abbrev pub HasMonicLifts : Type 0
  HasMonicLifts = (p n : ℕ) (down : W → K) → IsLiftRing S R p n down
      → (g : Poly S) → IsMonic S g → (f : Poly R) × IsMonic R f
      × ((k : ℕ) → coefficient S g k ≡ down (coefficient R f k))

  -- of the multiples of 1 by numbers below p^n only 0 is a multiple of p^n, where p is prime and S is not 0
  abbrev pub OneHasFullOrder : Type 0
  OneHasFullOrder = (p n : ℕ) (down : W → K) → IsLiftRing S R p n down → IsPrime p → (S.one ≡ S.zero → ⊥)
      → (r : ℕ) → r < p ^ n → MultipleOf R.monoid (p ^ n) (times R.monoid r R.one) → r ≡ 0

-- rings that are isomorphic to R and S, by g and h
abbrev pub IsomorphicLiftRings : {K W K' W' : Type 0} → CommRingOn K → CommRingOn W → CommRingOn K' → CommRingOn W'
    → Type 0
IsomorphicLiftRings {K} {W} {K'} {W'} S R S' R' = (p n : ℕ) (down : W → K) → IsLiftRing S R p n down
    → (h : K → K') → IsRingHom S.ring S'.ring h → IsBijective h → (g : W' → W) → IsRingHom R'.ring R.ring g
    → IsBijective g
    → IsLiftRing S' R' p n (λ y. h (down (g y)))

-- the ring of T is a lift ring of that of k, where its moduli reduce to those of k, and p^n is 0 in it
abbrev pub TowersAreLiftRings : Type 0
TowersAreLiftRings = (p n : ℕ) (two_le : 2 ≤ p) (two_le_pow : 2 ≤ p ^ n) (T : TowerMod (p ^ n) two_le_pow)
    (k : TowerMod p two_le)
    → Reduces p n two_le two_le_pow T k
    → (down : TowerElement T → TowerElement k) × IsCoefficientwise p n two_le two_le_pow T k down
    × IsLiftRing k.second T.second p n down
    × ((y : TowerElement T) → times T.second.monoid (p ^ n) y ≡ T.second.zero)

-- each k has such a T, by the numbers below p that are its coefficients
abbrev pub TowersHaveLifts : Type 0
TowersHaveLifts = (p n : ℕ) (two_le : 2 ≤ p) (two_le_pow : 2 ≤ p ^ n) (k : TowerMod p two_le)
    → (T : TowerMod (p ^ n) two_le_pow) × Reduces p n two_le two_le_pow T k × HasSameNumbers p n two_le two_le_pow T k

-- where the moduli are irreducible, the ring of k is a field
abbrev pub IrreducibleTowersAreFields : Type 0
IrreducibleTowersAreFields = (p : ℕ) (prime : IsPrime p) (k : TowerMod p prime.two_le) → IsIrreducibleTower k
    → (F : FieldOn (TowerElement k)) × (F.cring ≡ k.second)

-- a field with the ring of k is finite, and has p-th roots
abbrev pub TowerFieldsHaveRoots : Type 0
TowerFieldsHaveRoots = (p : ℕ) (two_le : 2 ≤ p) (k : TowerMod p two_le) (F : FieldOn (TowerElement k))
    → F.cring ≡ k.second
    → HasRoots F.ring p ×
    ((E : Enumerated (TowerElement k)) × (E.size ≡ (p ^ degree k.first_modulus.0) ^ degree k.second_modulus.0))
