-- Greatest common divisors of two polynomials, as lists of coefficients.
use Rattle.std.specs.Prelude.{◌≡◌, ℕ, List}
use Rattle.theory_rings.specs.Ops.{Ops}
use Rattle.theory_rings.specs.Sum.{at}
use Rattle.theory_rings.specs.Polynomial.{convolution_of}
use Rattle.theory_fractions.specs.PolynomialLists.{IsOver, Divides}

-- g divides a and b, and is s · a + t · b
pub record IsCommonDivisor {E : Type 0} (o : Ops E) (a b g : List E) : Type 0 where
  pub left : Divides o g a
  pub right : Divides o g b
  pub s : List E
  pub t : List E
  pub s_over : IsOver o s
  pub t_over : IsOver o t
  pub combination : (k : ℕ)
      → at o g k ≡ o.add (convolution_of o (at o s) (at o a) k) (convolution_of o (at o t) (at o b) k)
