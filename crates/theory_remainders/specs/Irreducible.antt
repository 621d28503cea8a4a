-- Irreducible polynomials over a program's field, as lists of coefficients, that of power 0 first. (Lang, Algebra,
-- chapter IV.)
use Rattle.std.specs.Prelude.{◌<◌, ◌≤◌, List}
use Rattle.theory_rings.specs.Ops.{Ops}
use Rattle.theory_rings.specs.Polynomial.{degree}
use Rattle.theory_fractions.specs.PolynomialLists.{IsProduct, IsPolynomialList}

module _ {E : Type 0} (o : Ops E) where
  -- of degree at least 1, and no product of two polynomials of smaller degree
  pub record IsIrreducible (m : List E) : Type 0 where
    pub polynomial : IsPolynomialList o m
    pub positive : 1 ≤ degree m
    pub no_factors : (a b : List E) → IsPolynomialList o a → IsPolynomialList o b → degree a < degree m
        → degree b < degree m
        → IsProduct o a b m → ⊥
