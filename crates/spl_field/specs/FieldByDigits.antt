-- The field of q = p^d elements by digits: the numbers below q, each read as d digits to the base p, lowest first,
-- which are the coefficients of a polynomial over Z/p. The sum goes digit by digit modulo p, the product is the
-- remainder of the product of the polynomials by the modulus. (Lidl and Niederreiter, Finite Fields, section 1.4.)
use Rattle.std.specs.Prelude.{ℕ, ◌^◌, ◌<◌, ◌≤◌, List, length, All}
use Rattle.theory_rings.specs.FieldByDigits.{IsProductByDigits}

-- p and a modulus with which there are 2 to 256 elements
pub record FitsField (p : ℕ) (modulus : List ℕ) : Type 0 where
  pub least : 2 ≤ p
  pub some_number : 0 < length modulus
  pub most : p ^ length modulus ≤ 256
  pub below : All (λ m. m < p) modulus

-- b is the inverse of a
pub record IsInverse (p : ℕ) (modulus : List ℕ) (a b : ℕ) : Type 0 where
  pub element : b < p ^ length modulus
  pub product_one : IsProductByDigits p modulus a b 1

abbrev pub HasInverse : ℕ → List ℕ → ℕ → Type 0
HasInverse p modulus a = (b : ℕ) × IsInverse p modulus a b

-- each nonzero element has an inverse
pub record IsAdmitted (p : ℕ) (modulus : List ℕ) : Type 0 where
  pub fits : FitsField p modulus
  pub invertible : (a : ℕ) → 0 < a → a < p ^ length modulus → HasInverse p modulus a

-- the first nonzero element without an inverse
pub record IsFirstWithoutInverse (p : ℕ) (modulus : List ℕ) (element : ℕ) : Type 0 where
  pub fits : FitsField p modulus
  pub nonzero : 0 < element
  pub below : element < p ^ length modulus
  pub without : HasInverse p modulus element → ⊥
  pub before : (a : ℕ) → 0 < a → a < element → HasInverse p modulus a
