-- Powers of an element, and its multiples by a number.
use Rattle.std.specs.Prelude.{ℕ, zero, suc}
use Rattle.theory_rings.specs.Ring.{AddCommMonoidOn, RingOn}
use Rattle.theory_rings.specs.Ops.{Ops}
use Rattle.theory_rings.specs.Sum.{sum, sum_of}

-- x · .. · x, n factors, by a 1 and a product
abbrev pub power_by_ops : {K : Type 0} → K → (K → K → K) → K → ℕ → K
power_by_ops one mul x zero = one
power_by_ops one mul x (suc n) = mul x (power_by_ops one mul x n)

-- in a ring
abbrev pub power : {K : Type 0} → RingOn K → K → ℕ → K
power R x n = power_by_ops R.one R.◌⊗◌ x n

-- in a program's field
abbrev pub power_of : {E : Type 0} → Ops E → E → ℕ → E
power_of o x n = power_by_ops o.one o.mul x n

-- x + .. + x, n terms, in a commutative monoid
abbrev pub times : {V : Type 0} → AddCommMonoidOn V → ℕ → V → V
times M n x = sum M n (λ _. x)

-- in a program's field
abbrev pub times_of : {E : Type 0} → Ops E → ℕ → E → E
times_of o n x = sum_of o n (λ _. x)
