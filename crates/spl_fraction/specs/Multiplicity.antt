-- How often one polynomial divides another.
use Rattle.std.specs.Prelude.{◌≡◌, ℕ, List}
use Rattle.theory_rings.specs.Ops.{Ops}
use Rattle.theory_rings.specs.Sum.{at}
use Rattle.theory_rings.specs.Polynomial.{convolution_of}
use Rattle.theory_fractions.specs.PolynomialLists.{IsOver, Divides}
use Rattle.spl_poly.specs.Operations.{power_coefficients}

module _ {E : Type 0} (o : Ops E) where
  -- a is m^n · u, where m does not divide u
  pub record HasMultiplicity (m a : List E) (n : ℕ) : Type 0 where
    pub rest : List E
    pub rest_over : IsOver o rest
    pub whole : (k : ℕ) → at o a k ≡ convolution_of o (power_coefficients o m n) (at o rest) k
    pub off : Divides o m rest → ⊥
