-- Sum, product and division of polynomials over a program's field, as lists of coefficients, that of power 0 first.
-- Each says what every coefficient is; a list that does not end with 0 is what its coefficients are. (Lang, Algebra,
-- chapter IV.)
use Rattle.std.specs.Prelude.{◌≡◌, ℕ, ◌<◌, List, length}
use Rattle.std.specs.List.{All}
use Rattle.theory_rings.specs.Ops.{Ops, IsElem}
use Rattle.theory_rings.specs.Sum.{at}
use Rattle.theory_rings.specs.Polynomial.{IsTrimmed, convolution_of}

module _ {E : Type 0} (o : Ops E) where
  -- the coefficients are elements
  abbrev pub IsOver : List E → Type 0
  IsOver a = All (IsElem o) a

  -- the coefficients of a polynomial: elements, of which the last is not 0
  pub record IsPolynomialList (a : List E) : Type 0 where
    pub over : IsOver a
    pub trimmed : IsTrimmed o.zero a

  -- c is the sum of a and b
  abbrev pub IsSum : List E → List E → List E → Type 0
  IsSum a b c = (k : ℕ) → at o c k ≡ o.add (at o a k) (at o b k)

  -- c is the product: its coefficient k is the sum of a_i · b_(k − i) over i from 0 to k
  abbrev pub IsProduct : List E → List E → List E → Type 0
  IsProduct a b c = (k : ℕ) → at o c k ≡ convolution_of o (at o a) (at o b) k

  -- the polynomial with coefficients f is q · b + r, where r is of smaller degree than b; as 0 has no coefficients, it
  -- counts as smaller than a constant
  pub record IsDivisionOf (f : ℕ → E) (b q r : List E) : Type 0 where
    pub whole : (k : ℕ) → f k ≡ o.add (convolution_of o (at o q) (at o b) k) (at o r k)
    pub smaller : length r < length b

  abbrev pub IsDivision : List E → List E → List E → List E → Type 0
  IsDivision a b q r = IsDivisionOf (at o a) b q r

  -- b is c · a for some c
  abbrev pub Divides : List E → List E → Type 0
  Divides a b = (c : List E) × IsOver c × IsProduct c a b
