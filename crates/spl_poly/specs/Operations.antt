-- Remainders, powers and leading coefficients of polynomials over a program's field, as lists of coefficients, that of
-- power 0 first. Each says what every coefficient is; a list that does not end with 0 is what its coefficients are.
-- (Lang, Algebra, chapter IV.)
use Rattle.std.specs.Prelude.{◌≡◌, ℕ, ◌<◌, ◌⊎◌, Bool, List, [], length, nat_eq}
use Rattle.std.specs.List.{All}
use Rattle.theory_rings.specs.Ops.{Ops, IsElem}
use Rattle.theory_rings.specs.Sum.{at}
use Rattle.theory_rings.specs.Polynomial.{convolution_of, constant_coefficients, degree, trim}
use Rattle.theory_rings.specs.Power.{power_by_ops}
pub use Rattle.theory_fractions.specs.PolynomialLists.{IsOver, IsSum, IsProduct, IsDivisionOf, IsDivision, Divides}

-- the number is 0
abbrev pub is_nought : ℕ → Bool
is_nought a = nat_eq a 0

-- the list without the zeros at its end
abbrev pub without_zeros : List ℕ → List ℕ
without_zeros c = trim is_nought c

module _ {E : Type 0} (o : Ops E) where
  -- r is the remainder of the product of a and b by m
  abbrev pub IsProductRemainder : List E → List E → List E → List E → Type 0
  IsProductRemainder a b m r = (q : List E) × IsOver o q × IsDivisionOf o (convolution_of o (at o a) (at o b)) m q r

  -- the coefficients of the power with exponent n
  abbrev pub power_coefficients : List E → ℕ → ℕ → E
  power_coefficients a n = power_by_ops (constant_coefficients o.zero o.one) (convolution_of o) (at o a) n

  -- r is the remainder of a power of a by m
  abbrev pub IsPowerRemainder : List E → ℕ → List E → List E → Type 0
  IsPowerRemainder a n m r = (q : List E) × IsOver o q × IsDivisionOf o (power_coefficients a n) m q r

  -- r is a, divided by its leading coefficient
  pub record IsMonicOf (a r : List E) : Type 0 where
    pub same_degree : length r ≡ length a
    pub leading : at o r (degree r) ≡ o.one
    pub scaled : (k : ℕ) → at o r k ≡ o.mul (o.inv (at o a (degree a))) (at o a k)

  -- it is 0, or its leading coefficient is 1
  abbrev pub IsZeroOrMonic : List E → Type 0
  IsZeroOrMonic a = (a ≡ []) ⊎ (at o a (degree a) ≡ o.one)
