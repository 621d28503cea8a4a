-- The numbers below p ^ d, read as d digits in base p, lowest first, with a modulus given by d numbers m_0, .., m_(d −
-- 1). A number stands for the polynomial in t whose coefficients are its digits, over the integers modulo p, and the
-- modulus is t ^ d + m_(d − 1) t ^ (d − 1) + .. + m_0.
use Rattle.std.specs.Prelude.{◌≡◌, ◌≢◌, ℕ, ◌+◌, ◌*◌, ◌%◌, ◌^◌, ◌<◌, ◌≤◌, List, [], ◌∷◌, ◌++◌, length, get_or, nat_lt}
use Rattle.std.specs.Prelude.{nat_eq}
use Rattle.theory_rings.specs.Ring.{CommRingOn}
use Rattle.theory_rings.specs.Ops.{Ops, FieldLaws}
use Rattle.theory_rings.specs.Elements.{Elem}
use Rattle.theory_rings.specs.Prime.{IsPrime}
use Rattle.theory_rings.specs.Power.{times_of}
use Rattle.theory_rings.specs.Enumerated.{Enumerated}
use Rattle.theory_rings.specs.Homomorphism.{IsRingHom}
use Rattle.theory_rings.specs.IntegersMod.{Fin, integers_mod, residue, mod_ops, IsInverseTable}
use Rattle.theory_rings.specs.Polynomial.{Poly, coefficient, convolution_by_ops, IsPolynomialRing}
use Rattle.theory_rings.specs.Remainder.{Remainder, IsRemainderRing}
use Rattle.theory_rings.specs.Digits.{digit}

-- coefficient k of the product of two polynomials
abbrev pub product_coefficient : (ℕ → ℕ) → (ℕ → ℕ) → ℕ → ℕ
product_coefficient f g k = convolution_by_ops 0 ◌+◌ ◌*◌ f g k

-- coefficient k of t ^ d + m_(d − 1) t ^ (d − 1) + .. + m_0
abbrev pub modulus_coefficient : List ℕ → ℕ → ℕ
modulus_coefficient m k = get_or (m ++ 1 ∷ []) k 0

module _ (p : ℕ) (m : List ℕ) where
  -- how many elements there are
  abbrev pub size_by_digits : ℕ
  size_by_digits = p ^ length m

  -- c is the sum of a and b: digit by digit modulo p
  pub record IsSumByDigits (a b c : ℕ) : Type 0 where
    pub below : c < size_by_digits
    pub each : (k : ℕ) → k < length m → digit p c k ≡ (digit p a k + digit p b k) % p

  -- c is the product of a and b: the remainder of the product of their polynomials by the modulus. The quotient is a
  -- polynomial, too, and is read from the digits of a number
  pub record IsProductByDigits (a b c : ℕ) : Type 0 where
    pub below : c < size_by_digits
    pub quotient : ℕ
    pub each : (k : ℕ)
        → product_coefficient (digit p a) (digit p b) k % p
        ≡ (product_coefficient (digit p quotient) (modulus_coefficient m) k + digit p c k) % p

  -- the operations of F are these: each two numbers have this sum and this product, and no others
  pub record IsRingByDigits (F : CommRingOn (Fin size_by_digits)) : Type 0 where
    pub zero : F.zero.0 ≡ 0
    pub one : F.one.0 ≡ 1
    pub add : (a b : Fin size_by_digits) → IsSumByDigits a.0 b.0 (F.◌⊕◌ a b).0
    pub add_only : (a b : Fin size_by_digits) (c : ℕ) → IsSumByDigits a.0 b.0 c → c ≡ (F.◌⊕◌ a b).0
    pub mul : (a b : Fin size_by_digits) → IsProductByDigits a.0 b.0 (F.◌⊗◌ a b).0
    pub mul_only : (a b : Fin size_by_digits) (c : ℕ) → IsProductByDigits a.0 b.0 c → c ≡ (F.◌⊗◌ a b).0

  -- the operations of o are these, and each element but 0 has its inverse
  pub record IsFieldByDigits (o : Ops ℕ) : Type 0 where
    pub is_elem : (a : ℕ) → o.is_elem a ≡ nat_lt a size_by_digits
    pub is_zero : (a : ℕ) → o.is_zero a ≡ nat_eq a 0
    pub zero : o.zero ≡ 0
    pub one : o.one ≡ 1
    pub add : (a b : ℕ) → a < size_by_digits → b < size_by_digits → IsSumByDigits a b (o.add a b)
    pub neg : (a : ℕ) → a < size_by_digits → o.neg a < size_by_digits
    pub add-neg : (a : ℕ) → a < size_by_digits → IsSumByDigits a (o.neg a) 0
    pub mul : (a b : ℕ) → a < size_by_digits → b < size_by_digits → IsProductByDigits a b (o.mul a b)
    pub inv : (a : ℕ) → a < size_by_digits → o.inv a < size_by_digits
    pub mul-inv : (a : ℕ) → a < size_by_digits → a ≢ 0 → IsProductByDigits a (o.inv a) 1

-- The numbers below p ^ d with these operations are a ring F, and one copy of the ring Q of the remainders by the
-- modulus M among the polynomials over the integers modulo p: each number goes to the polynomial of its digits
pub record DigitsAreRemainders (p : ℕ) (two_le : 2 ≤ p) (m : List ℕ) : Type 0 where
  pub F : CommRingOn (Fin (size_by_digits p m))
  pub by_digits : IsRingByDigits p m F
  pub P : CommRingOn (Poly (integers_mod p two_le))
  pub polynomials : IsPolynomialRing (integers_mod p two_le) P
  pub M : Poly (integers_mod p two_le)
  pub coefficient-M : (k : ℕ) → coefficient (integers_mod p two_le) M k ≡ residue p two_le (modulus_coefficient m k)
  pub Q : CommRingOn (Remainder (integers_mod p two_le) M)
  pub remainders : IsRemainderRing (integers_mod p two_le) M P Q
  pub map : Fin (size_by_digits p m) → Remainder (integers_mod p two_le) M
  pub coefficient-map : (a : Fin (size_by_digits p m)) (k : ℕ)
      → coefficient (integers_mod p two_le) (map a).0 k ≡ residue p two_le (digit p a.0 k)
  pub homomorphism : IsRingHom F.ring Q.ring map
  pub back : Remainder (integers_mod p two_le) M → Fin (size_by_digits p m)
  pub back-map : (a : Fin (size_by_digits p m)) → back (map a) ≡ a
  pub map-back : (f : Remainder (integers_mod p two_le) M) → map (back f) ≡ f

-- they are, for every p from 2 on, prime or not, and every modulus of degree 1 or more, irreducible or not
abbrev pub DigitsAreRemaindersLaw : Type 0
DigitsAreRemaindersLaw = (p : ℕ) (two_le : 2 ≤ p) (m : List ℕ) → 1 ≤ length m → DigitsAreRemainders p two_le m

-- o is a field of p ^ d elements, in which the prime p is 0
pub record IsFiniteField (p d : ℕ) (o : Ops ℕ) : Type 0 where
  pub laws : FieldLaws o
  pub prime : IsPrime p
  pub characteristic : times_of o p o.one ≡ o.zero
  pub members : Enumerated (Elem o)
  pub size : members.size ≡ p ^ d

-- a program's operations that are these, with inverses, are a field
abbrev pub FieldByDigitsLaw : Type 0
FieldByDigitsLaw = (p : ℕ) → 2 ≤ p → (m : List ℕ) → 1 ≤ length m → (o : Ops ℕ) → IsFieldByDigits p m o
    → IsFiniteField p (length m) o

-- the integers modulo p are the case of one digit, whatever the modulus
abbrev pub OneDigitLaw : Type 0
OneDigitLaw = (p c : ℕ) (inverses : List ℕ) → 2 ≤ p → IsInverseTable p inverses
    → IsFieldByDigits p (c ∷ []) (mod_ops p inverses)
