-- Polynomials over a commutative ring, as the lists of their coefficients, that of power 0 first, with no 0 at the end.
use Rattle.std.specs.Prelude.{◌≡◌, ◌≢◌, ℕ, zero, suc, ◌-◌, ◌<◌, Bool, cond, List, [], ◌∷◌, length, get_or}
use Rattle.theory_rings.specs.Ring.{RingOn, CommRingOn}
use Rattle.theory_rings.specs.Ops.{Ops}
use Rattle.theory_rings.specs.Sum.{sum_by_ops}

-- the last item is not 0
abbrev pub IsTrimmed : {X : Type 0} → X → List X → Type 0
IsTrimmed nought [] = Unit {0}
IsTrimmed nought (x ∷ []) = x ≢ nought
IsTrimmed nought (x ∷ y ∷ ys) = IsTrimmed nought (y ∷ ys)

-- x in front of a list, but no list of a single 0
abbrev pub put_before : {X : Type 0} → (X → Bool) → X → List X → List X
put_before is_zero x [] = cond (is_zero x) [] (x ∷ [])
put_before is_zero x (y ∷ ys) = x ∷ y ∷ ys

-- the list without the zeros at its end
abbrev pub trim : {X : Type 0} → (X → Bool) → List X → List X
trim is_zero [] = []
trim is_zero (x ∷ xs) = put_before is_zero x (trim is_zero xs)

-- the degree of the polynomial with these coefficients; that of 0 is 0 here
abbrev pub degree : {X : Type 0} → List X → ℕ
degree [] = 0
degree (x ∷ xs) = length xs

-- coefficient k of a product: the sum of f i · g (k − i) over i from 0 to k, by a 0, a sum and a product
abbrev pub convolution_by_ops : {K : Type 0} → K → (K → K → K) → (K → K → K) → (ℕ → K) → (ℕ → K) → ℕ → K
convolution_by_ops z plus mul f g k = sum_by_ops z plus (suc k) (λ i. mul (f i) (g (k - i)))

-- in a ring
abbrev pub convolution : {K : Type 0} → RingOn K → (ℕ → K) → (ℕ → K) → ℕ → K
convolution R f g k = convolution_by_ops R.zero R.◌⊕◌ R.◌⊗◌ f g k

-- in a program's field
abbrev pub convolution_of : {E : Type 0} → Ops E → (ℕ → E) → (ℕ → E) → ℕ → E
convolution_of o f g k = convolution_by_ops o.zero o.add o.mul f g k

-- the coefficients of the constant c
abbrev pub constant_coefficients : {X : Type 0} → X → X → ℕ → X
constant_coefficients nought c zero = c
constant_coefficients nought c (suc k) = nought

-- the coefficients of the variable, by a 0 and a 1
abbrev pub variable_coefficients : {X : Type 0} → X → X → ℕ → X
variable_coefficients nought unit zero = nought
variable_coefficients nought unit (suc k) = constant_coefficients nought unit k

module _ {K : Type 0} (R : CommRingOn K) where
  -- the polynomials over R
  abbrev pub Poly : Type 0
  Poly = (xs : List K) × IsTrimmed R.zero xs

  -- the coefficient of the power k; past the end it is 0
  abbrev pub coefficient : Poly → ℕ → K
  coefficient a k = get_or a.0 k R.zero

  -- the leading coefficient
  abbrev pub lead : Poly → K
  lead a = coefficient a (degree a.0)

  -- a is the constant c
  abbrev pub IsConstant : K → Poly → Type 0
  IsConstant c a = (k : ℕ) → coefficient a k ≡ constant_coefficients R.zero c k

  -- a is the variable
  abbrev pub IsVariable : Poly → Type 0
  IsVariable a = (k : ℕ) → coefficient a k ≡ variable_coefficients R.zero R.one k

  -- not 0, and its leading coefficient is 1
  pub record IsMonic (a : Poly) : Type 0 where
    pub nonzero : 0 < length a.0
    pub leading : lead a ≡ R.one

  -- the operations of P are those of polynomials
  pub record IsPolynomialRing (P : CommRingOn Poly) : Type 0 where
    pub coefficient-zero : (k : ℕ) → coefficient P.zero k ≡ R.zero
    pub coefficient-one : (k : ℕ) → coefficient P.one k ≡ constant_coefficients R.zero R.one k
    pub coefficient-add : (a b : Poly) (k : ℕ) → coefficient (P.◌⊕◌ a b) k ≡ R.◌⊕◌ (coefficient a k) (coefficient b k)
    pub coefficient-neg : (a : Poly) (k : ℕ) → coefficient (P.neg a) k ≡ R.neg (coefficient a k)
    pub coefficient-mul : (a b : Poly) (k : ℕ)
        → coefficient (P.◌⊗◌ a b) k ≡ convolution R.ring (coefficient a) (coefficient b) k
