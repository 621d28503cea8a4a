-- Values of polynomials.
use Rattle.std.specs.Prelude.{length}
use Rattle.theory_rings.specs.Ring.{CommRingOn}
use Rattle.theory_rings.specs.Sum.{sum}
use Rattle.theory_rings.specs.Power.{power}
use Rattle.theory_rings.specs.Polynomial.{Poly, coefficient}

-- the value at x, in a ring S into which h takes the coefficients a k: the sum of h (a k) · x^k
abbrev pub evaluate : {K L : Type 0} (R : CommRingOn K) → CommRingOn L → (K → L) → L → Poly R → L
evaluate R S h x a = sum S.monoid (length a.0) (λ k. S.◌⊗◌ (h (coefficient R a k)) (power S.ring x k))
