-- Lift rings: commutative rings of which a given ring is the quotient by a prime p, and in which p^i can be cancelled
-- modulo p^(i + 1) for the first i. The ring Z/p^n is one of Z/p. (Rónyai, Computing the structure of finite algebras.)
use Rattle.std.specs.Prelude.{◌≡◌, ℕ, suc, ◌^◌, ◌<◌}
use Rattle.theory_rings.specs.Ring.{RingOn, CommRingOn, FieldOn}
use Rattle.theory_rings.specs.Power.{power, times}
use Rattle.theory_rings.specs.Homomorphism.{IsRingHom}
use Rattle.theory_radical.specs.Congruence.{MultipleOf}

-- down maps R onto S, its kernel is p·R, and p^i·y is a multiple of p^(i + 1) only where y is one of p, for each i
-- below n
pub record IsLiftRing {K W : Type 0} (S : CommRingOn K) (R : CommRingOn W) (p n : ℕ) (down : W → K) : Type 0 where
  pub homomorphism : IsRingHom R.ring S.ring down
  pub onto : (x : K) → (y : W) × (down y ≡ x)
  pub kernel : (y : W) → down y ≡ S.zero → MultipleOf R.monoid p y
  pub characteristic : times S.monoid p S.one ≡ S.zero
  pub cancels : (i : ℕ) → i < n → (y : W) → MultipleOf R.monoid (p ^ suc i) (times R.monoid (p ^ i) y)
      → MultipleOf R.monoid p y

-- a lift ring of a field
pub record LiftRingOn {K : Type 0} (F : FieldOn K) (p n : ℕ) (W : Type 0) : Type 0 where
  pub ring : CommRingOn W
  pub set : IsSet W
  pub down : W → K
  pub is_lift : IsLiftRing F.cring ring p n down

-- each element has a p-th root
pub record HasRoots {K : Type 0} (R : RingOn K) (p : ℕ) : Type 0 where
  pub root : K → K
  pub power-root : (x : K) → power R (root x) p ≡ x
