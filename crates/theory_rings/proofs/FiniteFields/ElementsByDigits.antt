-- The field of the numbers below p ^ d: its elements are numbered, its p is prime and is 0 in it. The integers modulo p
-- are the case of one digit.
use Rattle.std.specs.Prelude.{◌≡◌, ℕ, zero, suc, ◌+◌, ◌-◌, ◌*◌, ◌%◌, ◌^◌, ◌<◌, ◌≤◌, Bool, true, false, List, [], ◌∷◌}
use Rattle.std.specs.Prelude.{length, nat_lt, slice_index}
use Rattle.std.specs.Int.{◌∣◌}
use Rattle.std.proofs.Common.{refl, sym, ◌∙◌, ap, ap₂, subst, arith, ⊎_elim, inl, inr}
use Rattle.std.proofs.Math.Nat.{zero-mod, mod-add-mod, mod_self, mod-eq-zero_of_dvd, dvd_of_mod-eq-zero, lt_of_lt_of_le}
use Rattle.std.proofs.Math.Nat.{pow-suc, pow-zero, one-mul}
use Rattle.std.proofs.Math.Bool.{true≢false}
use Rattle.std.proofs.lemmas.Nat.{mod_below, mul-mod}
use Rattle.theory_rings.specs.Ring.{FieldOn}
use Rattle.theory_rings.specs.Ops.{Ops, IsElem, FieldLaws}
use Rattle.theory_rings.specs.Elements.{Elem, Elem-path, elements}
use Rattle.theory_rings.specs.IntegersMod.{mod_ops, IsInverseTable, add-neg_mod}
use Rattle.theory_rings.specs.Prime.{IsPrime}
use Rattle.theory_rings.specs.Power.{times_of}
use Rattle.theory_rings.specs.Enumerated.{Enumerated}
use Rattle.theory_rings.specs.FieldByDigits.{size_by_digits, IsSumByDigits, IsProductByDigits, IsFieldByDigits}
use Rattle.theory_rings.specs.FieldByDigits.{FieldByDigitsLaw, OneDigitLaw}
use Rattle.theory_rings.proofs.Rings.Fields.{eq-zero_of_mul-eq-zero}
use Rattle.theory_rings.proofs.Numbers.Primes.{IsPrime_of_dvd-mul}
use Rattle.theory_rings.proofs.Numbers.Digits.{le_pow_self}
use Rattle.theory_rings.proofs.FiniteFields.FieldByDigits.{sum-constants, sum_unique, product_unique}
use Rattle.theory_rings.proofs.FiniteFields.ProductSteps.{product-constants}
use Rattle.theory_rings.proofs.FiniteFields.RingByDigits.{elem_lt, lt_elem, field_by_digits_laws}

-- a program's field of the numbers below n
module _ (o : Ops ℕ) (L : FieldLaws o) (n : ℕ) (below : (a : ℕ) → IsElem o a → a < n)
    (elem : (a : ℕ) → a < n → IsElem o a) where
  abbrev number_member : (i : ℕ) (b : Bool) → o.is_elem i ≡ b → Elem o
  number_member i true e = (i, e)
  number_member i false e = (o.zero, L.zero-elem)

  value-number_member : (i : ℕ) (b : Bool) (e : o.is_elem i ≡ b) → b ≡ true → (number_member i b e).0 ≡ i
  value-number_member i true e t = refl
  value-number_member i false e t = absurd (true≢false (sym t))

  -- has these elements
  pub numbers_enumerated : Enumerated (Elem o)
  numbers_enumerated = record {
    size = n;
    member = λ i. number_member i (o.is_elem i) refl;
    number = λ x. x.0;
    number-lt = λ x. below x.0 x.1;
    member-number = λ x. Elem-path o (number_member x.0 (o.is_elem x.0) refl) x
        (value-number_member x.0 (o.is_elem x.0) refl x.1);
    number-member = λ i l. value-number_member i (o.is_elem i) refl (elem i l);
  }

  pub size-numbers : numbers_enumerated.size ≡ n
  unfolding numbers_enumerated
  size-numbers = refl

module _ (p : ℕ) (two_le : 2 ≤ p) (m : List ℕ) (d : 1 ≤ length m) (o : Ops ℕ) (F : IsFieldByDigits p m o) where
  abbrev laws : FieldLaws o
  laws = field_by_digits_laws p two_le m d o F

  abbrev pub field_by_digits : FieldOn (Elem o)
  field_by_digits = elements o laws

  abbrev q : ℕ
  q = size_by_digits p m

  -- the field has p ^ d elements
  pub enumerated_by_digits : Enumerated (Elem o)
  enumerated_by_digits = numbers_enumerated o laws q (elem_lt p two_le m d o F) (lt_elem p two_le m d o F)

  pub size-by_digits : enumerated_by_digits.size ≡ p ^ length m
  unfolding enumerated_by_digits
  size-by_digits = size-numbers o laws q (elem_lt p two_le m d o F) (lt_elem p two_le m d o F)

  constant_lt : (a : ℕ) → a < p → a < q
  constant_lt a l = lt_of_lt_of_le l (le_pow_self p (length m) d)

  add-constants : (a b : ℕ) → a < p → b < p → o.add a b ≡ (a + b) % p
  add-constants a b la lb = sum_unique p two_le m a b (o.add a b) ((a + b) % p)
      (F.add a b (constant_lt a la) (constant_lt b lb)) (sum-constants p two_le m a b d la lb)

  mul-constants : (a b : ℕ) → a < p → b < p → o.mul a b ≡ (a * b) % p
  mul-constants a b la lb = product_unique p two_le m a b (o.mul a b) ((a * b) % p)
      (F.mul a b (constant_lt a la) (constant_lt b lb)) (product-constants p two_le m a b d la lb)

  times_of-one : (n : ℕ) → times_of o n o.one ≡ n % p
  times_of-one zero = F.zero ∙ sym (zero-mod p)
  times_of-one (suc n) =
      ap₂ o.add (times_of-one n) F.one ∙ add-constants (n % p) 1 (mod_below n p (omega arith)) (omega arith)
      ∙ mod-add-mod n p 1 ∙ ap (λ x. x % p) (omega arith)

  -- p is 0 in it
  pub characteristic_by_digits : times_of o p o.one ≡ o.zero
  characteristic_by_digits = times_of-one p ∙ mod_self p ∙ sym F.zero

  -- the remainder of a number, as an element
  constant : ℕ → Elem o
  constant a = (a % p, lt_elem p two_le m d o F (a % p) (constant_lt (a % p) (mod_below a p (omega arith))))

  dvd_of_constant : (a : ℕ) → constant a ≡ field_by_digits.zero → p ∣ a
  unfolding constant
  dvd_of_constant a z = dvd_of_mod-eq-zero p (ap (λ x. x.0) z ∙ F.zero)

  constant-mul_of_dvd : (a b : ℕ) → p ∣ a * b → field_by_digits.◌⊗◌ (constant a) (constant b) ≡ field_by_digits.zero
  unfolding constant
  constant-mul_of_dvd a b h =
      Elem-path o (field_by_digits.◌⊗◌ (constant a) (constant b)) field_by_digits.zero
      (mul-constants (a % p) (b % p) (mod_below a p (omega arith)) (mod_below b p (omega arith)) ∙ sym (mul-mod a b p)
      ∙ mod-eq-zero_of_dvd p h ∙ sym F.zero)

  -- and prime, as a product in a field is 0 only by a factor
  pub prime_by_digits : IsPrime p
  prime_by_digits = IsPrime_of_dvd-mul p two_le (λ a b h. ⊎_elim
      (λ (z : constant a ≡ field_by_digits.zero). inl (dvd_of_constant a z))
      (λ (z : constant b ≡ field_by_digits.zero). inr (dvd_of_constant b z))
      (eq-zero_of_mul-eq-zero field_by_digits (constant a) (constant b) (constant-mul_of_dvd a b h)))

-- the integers modulo p are the field of one digit, whatever the modulus
module _ (p : ℕ) (two_le : 2 ≤ p) (c : ℕ) (inverses : List ℕ) (T : IsInverseTable p inverses) where
  size_one : size_by_digits p (c ∷ []) ≡ p
  size_one = pow-suc p 0 ∙ ap (λ x. x * p) (pow-zero p) ∙ one-mul p

  small : (a : ℕ) → a < size_by_digits p (c ∷ []) → a < p
  small a l = let e = size_one in omega arith

  small_mod : (a : ℕ) → a % p < size_by_digits p (c ∷ [])
  small_mod a = let e = size_one in let l = mod_below a p (omega arith) in omega arith

  pub mod_ops_by_digits : IsFieldByDigits p (c ∷ []) (mod_ops p inverses)
  mod_ops_by_digits = record {
    is_elem = λ a. ap (nat_lt a) (sym size_one);
    is_zero = λ a. refl;
    zero = refl;
    one = refl;
    add = λ a b la lb. sum-constants p two_le (c ∷ []) a b (omega arith) (small a la) (small b lb);
    neg = λ a la. small_mod (p - a);
    add-neg = λ a la. subst (IsSumByDigits p (c ∷ []) a ((p - a) % p)) (add-neg_mod p a (small a la))
        (sum-constants p two_le (c ∷ []) a ((p - a) % p) (omega arith) (small a la)
        (small ((p - a) % p) (small_mod (p - a))));
    mul = λ a b la lb. product-constants p two_le (c ∷ []) a b (omega arith) (small a la) (small b lb);
    inv = λ a la. subst (λ n. slice_index inverses a < n) (sym size_one) (T.below a (small a la));
    mul-inv = λ a la n. subst (IsProductByDigits p (c ∷ []) a (slice_index inverses a))
        (T.inverse a (omega arith) (small a la))
        (product-constants p two_le (c ∷ []) a (slice_index inverses a) (omega arith) (small a la)
        (T.below a (small a la)));
  }

pub field_by_digits_law : FieldByDigitsLaw
field_by_digits_law p two_le m d o F = record {
  laws = field_by_digits_laws p two_le m d o F;
  prime = prime_by_digits p two_le m d o F;
  characteristic = characteristic_by_digits p two_le m d o F;
  members = enumerated_by_digits p two_le m d o F;
  size = size-by_digits p two_le m d o F;
}

pub one_digit_law : OneDigitLaw
one_digit_law p c inverses two_le T = mod_ops_by_digits p two_le c inverses T
