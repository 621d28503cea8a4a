-- The sum and the product of numbers by their digits are those of their polynomials modulo the modulus.
use Rattle.std.specs.Prelude.{◌≡◌, ◌≢◌, ℕ, zero, suc, ◌+◌, ◌-◌, ◌%◌, ◌<◌, ◌≤◌, List, [], ◌∷◌, ◌++◌, length}
use Rattle.std.proofs.Common.{refl, sym, ◌∙◌, ap, ap₂, arith, ⊎_elim, length-append}
use Rattle.std.proofs.Math.Nat.{mod-mod, mod-eq_of_lt, zero-mod, one-le-pow, lt_of_lt_of_le}
use Rattle.std.proofs.lemmas.Bool.{cases_lt}
use Rattle.std.proofs.lemmas.List.{get_or_past, get_or_push}
use Rattle.std.proofs.lemmas.Nat.{mod_below}
use Rattle.theory_rings.specs.Ring.{CommRingOn}
use Rattle.theory_rings.specs.IntegersMod.{integers_mod, Fin, residue, add-neg_mod}
use Rattle.theory_rings.specs.Digits.{digit, of_digits}
use Rattle.theory_rings.specs.Polynomial.{coefficient, lead, degree, IsMonic}
use Rattle.theory_rings.specs.Division.{IsDivision}
use Rattle.theory_rings.specs.FieldByDigits.{product_coefficient, modulus_coefficient, size_by_digits, IsSumByDigits}
use Rattle.theory_rings.specs.FieldByDigits.{IsProductByDigits}
use Rattle.theory_rings.proofs.Numbers.IntegersMod.{residue_eq, residue-zero, residue-one, residue-add}
use Rattle.theory_rings.proofs.Numbers.IntegersMod.{residue_zero_test}
use Rattle.theory_rings.proofs.Numbers.Digits.{digit-zero, digit-suc_of_lt, zero-digit, digit_lt, le_pow_self}
use Rattle.theory_rings.proofs.Numbers.Digits.{digit_past, digit_injective, digit-of_digits, of_digits_lt}
use Rattle.theory_rings.proofs.Polynomials.PolynomialRing.{Poly-path, coefficient-add, coefficient-mul}
use Rattle.theory_rings.proofs.Polynomials.Series.{convolution_congr}
use Rattle.theory_rings.proofs.Polynomials.Degrees.{length_le, lt_length, length-degree}
use Rattle.theory_rings.proofs.Polynomials.Division.{division_unique}
use Rattle.theory_rings.proofs.Polynomials.Remainders.{quo, rem, rem-division}
use Rattle.theory_rings.proofs.FiniteFields.DigitPolynomials.{length-polynomial_of, number_of, number_of_lt}
use Rattle.theory_rings.proofs.FiniteFields.DigitPolynomials.{polynomial_of-number_of, polynomial_of-injective}
use Rattle.theory_rings.proofs.FiniteFields.DigitPolynomials.{DigitPoly, digit_polynomials, residues_polynomial}
use Rattle.theory_rings.proofs.FiniteFields.DigitPolynomials.{coefficient-residues, polynomial_of}
use Rattle.theory_rings.proofs.FiniteFields.DigitPolynomials.{coefficient-polynomial_of, residue-product_coefficient}

module _ (p : ℕ) (two_le : 2 ≤ p) (m : List ℕ) where
  infixl 65 ◌⊕◌
  infixl 70 ◌⊗◌
  open digit_polynomials p two_le use {◌⊕◌, ◌⊗◌}

  abbrev q : ℕ
  q = size_by_digits p m

  abbrev R : CommRingOn (Fin p)
  R = integers_mod p two_le

  -- the modulus as a polynomial
  pub modulus : DigitPoly p two_le
  modulus = residues_polynomial p two_le (suc (length m)) (modulus_coefficient m)

  pub coefficient-modulus : (k : ℕ) → coefficient R modulus k ≡ residue p two_le (modulus_coefficient m k)
  unfolding modulus
  coefficient-modulus k = coefficient-residues p two_le (suc (length m)) (modulus_coefficient m)
      (λ k l. get_or_past (m ++ 1 ∷ []) k 0 (omega (arith, length-append m (1 ∷ [])))) k

  pub coefficient-polynomial_of-add : (a b k : ℕ)
      → coefficient R (polynomial_of p two_le a ⊕ polynomial_of p two_le b) k ≡ residue p two_le
      (digit p a k + digit p b k)
  coefficient-polynomial_of-add a b k =
      coefficient-add R (residue_zero_test p two_le) (polynomial_of p two_le a) (polynomial_of p two_le b) k
      ∙ ap₂ R.◌⊕◌ (coefficient-polynomial_of p two_le a k) (coefficient-polynomial_of p two_le b k)
      ∙ sym (residue-add p two_le (digit p a k) (digit p b k))

  -- the sum by digits is the sum of the polynomials
  pub polynomial_of-sum : (a b c : ℕ) → a < q → b < q → IsSumByDigits p m a b c
      → polynomial_of p two_le c ≡ polynomial_of p two_le a ⊕ polynomial_of p two_le b
  polynomial_of-sum a b c la lb s =
      Poly-path R (polynomial_of p two_le c) (polynomial_of p two_le a ⊕ polynomial_of p two_le b)
      (λ k. coefficient-polynomial_of p two_le c k
      ∙ residue_eq p two_le (digit p c k) (digit p a k + digit p b k)
      (⊎_elim (within k) (past k) (cases_lt k (length m)))
      ∙ sym (coefficient-polynomial_of-add a b k))
    where
      within : (k : ℕ) → k < length m → digit p c k % p ≡ (digit p a k + digit p b k) % p
      within k l = ap (λ x. x % p) (s.each k l) ∙ mod-mod (digit p a k + digit p b k) p

      past : (k : ℕ) → length m ≤ k → digit p c k % p ≡ (digit p a k + digit p b k) % p
      past k l =
          ap (λ x. x % p) (digit_past p (omega arith) (length m) c k s.below l
          ∙ sym (ap₂ (λ x y. x + y) (digit_past p (omega arith) (length m) a k la l)
          (digit_past p (omega arith) (length m) b k lb l)))

  coefficient-product : (a b k : ℕ)
      → coefficient R (polynomial_of p two_le a ⊗ polynomial_of p two_le b) k
      ≡ residue p two_le (product_coefficient (digit p a) (digit p b) k)
  coefficient-product a b k =
      coefficient-mul R (residue_zero_test p two_le) (polynomial_of p two_le a) (polynomial_of p two_le b) k
      ∙ convolution_congr R.ring (coefficient R (polynomial_of p two_le a)) (coefficient R (polynomial_of p two_le b))
      (λ i. residue p two_le (digit p a i)) (λ i. residue p two_le (digit p b i))
      (coefficient-polynomial_of p two_le a) (coefficient-polynomial_of p two_le b) k
      ∙ sym (residue-product_coefficient p two_le (digit p a) (digit p b) k)

  coefficient-multiple : (u c k : ℕ)
      → coefficient R (polynomial_of p two_le u ⊗ modulus ⊕ polynomial_of p two_le c) k
      ≡ residue p two_le (product_coefficient (digit p u) (modulus_coefficient m) k + digit p c k)
  coefficient-multiple u c k =
      coefficient-add R (residue_zero_test p two_le) (polynomial_of p two_le u ⊗ modulus) (polynomial_of p two_le c) k
      ∙ ap₂ R.◌⊕◌
      (coefficient-mul R (residue_zero_test p two_le) (polynomial_of p two_le u) modulus k
      ∙ convolution_congr R.ring (coefficient R (polynomial_of p two_le u)) (coefficient R modulus)
      (λ i. residue p two_le (digit p u i)) (λ i. residue p two_le (modulus_coefficient m i))
      (coefficient-polynomial_of p two_le u) coefficient-modulus k
      ∙ sym (residue-product_coefficient p two_le (digit p u) (modulus_coefficient m) k))
      (coefficient-polynomial_of p two_le c k)
      ∙ sym (residue-add p two_le (product_coefficient (digit p u) (modulus_coefficient m) k) (digit p c k))

  -- the product by digits is a remainder of the product of the polynomials
  pub polynomial_of-product : (a b c : ℕ) (s : IsProductByDigits p m a b c)
      → polynomial_of p two_le a ⊗ polynomial_of p two_le b
      ≡ polynomial_of p two_le s.quotient ⊗ modulus ⊕ polynomial_of p two_le c
  polynomial_of-product a b c s =
      Poly-path R (polynomial_of p two_le a ⊗ polynomial_of p two_le b)
      (polynomial_of p two_le s.quotient ⊗ modulus ⊕ polynomial_of p two_le c)
      (λ k. coefficient-product a b k
      ∙ residue_eq p two_le (product_coefficient (digit p a) (digit p b) k)
      (product_coefficient (digit p s.quotient) (modulus_coefficient m) k + digit p c k) (s.each k)
      ∙ sym (coefficient-multiple s.quotient c k))

  pub product_from : (a b c u : ℕ) → c < q
      → polynomial_of p two_le a ⊗ polynomial_of p two_le b
      ≡ polynomial_of p two_le u ⊗ modulus ⊕ polynomial_of p two_le c
      → IsProductByDigits p m a b c
  product_from a b c u l e = record {
    below = l;
    quotient = u;
    each = λ k. ap (λ x. x.0)
        (sym (coefficient-product a b k) ∙ ap (λ f. coefficient R f k) e ∙ coefficient-multiple u c k);
  }

  pub product_from_polynomial : (a b c : ℕ) (f : DigitPoly p two_le) → c < q
      → polynomial_of p two_le a ⊗ polynomial_of p two_le b ≡ f ⊗ modulus ⊕ polynomial_of p two_le c
      → IsProductByDigits p m a b c
  product_from_polynomial a b c f l e =
      product_from a b c (number_of p two_le f) l
      (e ∙ ap (λ x. x ⊗ modulus ⊕ polynomial_of p two_le c) (sym (polynomial_of-number_of p two_le f)))

  one-ne-zero : R.one ≢ R.zero
  one-ne-zero e = let h : R.one.0 ≡ R.zero.0 = ap (λ x. x.0) e in omega arith

  coefficient-modulus_top : coefficient R modulus (length m) ≡ R.one
  coefficient-modulus_top = coefficient-modulus (length m) ∙ ap (residue p two_le) (get_or_push m 1 0 (length m) refl)
      ∙ residue-one p two_le

  pub length-modulus : length modulus.0 ≡ suc (length m)
  length-modulus = omega (arith, high, low)
    where
      low : length m < length modulus.0
      low = lt_length R modulus (length m) (λ e. one-ne-zero (sym coefficient-modulus_top ∙ e))

      high : length modulus.0 ≤ suc (length m)
      high = length_le R modulus (suc (length m))
          (λ k l. coefficient-modulus k ∙ ap (residue p two_le) (past k l) ∙ residue-zero p two_le)
        where
          past : (k : ℕ) → suc (length m) ≤ k → modulus_coefficient m k ≡ 0
          past k l = get_or_past (m ++ 1 ∷ []) k 0 (omega (arith, length-append m (1 ∷ [])))

  pub degree-modulus : degree modulus.0 ≡ length m
  degree-modulus = let h = length-degree R modulus (omega (arith, length-modulus)) in omega (arith, length-modulus)

  -- the modulus is monic, of degree d
  pub modulus_monic : IsMonic R modulus
  modulus_monic = record {
    nonzero = omega (arith, length-modulus);
    leading = ap (coefficient R modulus) degree-modulus ∙ coefficient-modulus_top;
  }

  pub product_division : (a b c : ℕ) (s : IsProductByDigits p m a b c)
      → IsDivision R (digit_polynomials p two_le) (polynomial_of p two_le a ⊗ polynomial_of p two_le b) modulus
      (polynomial_of p two_le s.quotient) (polynomial_of p two_le c)
  product_division a b c s = record {
    whole = polynomial_of-product a b c s;
    smaller = omega (arith, length-modulus, length-polynomial_of p two_le (length m) c s.below);
  }

  -- two numbers have one product
  pub product_unique : (a b c c' : ℕ) → IsProductByDigits p m a b c → IsProductByDigits p m a b c' → c ≡ c'
  product_unique a b c c' s s' = polynomial_of-injective p two_le c c'
      (division_unique R (residue_zero_test p two_le) modulus R.one
      (R.mul-one (lead R modulus) ∙ modulus_monic.leading) modulus_monic.nonzero
      (polynomial_of p two_le a ⊗ polynomial_of p two_le b)
      (polynomial_of p two_le s.quotient) (polynomial_of p two_le c) (polynomial_of p two_le s'.quotient)
      (polynomial_of p two_le c')
      (product_division a b c s) (product_division a b c' s')).1

  pub product_exists : (a b : ℕ) → (c : ℕ) × IsProductByDigits p m a b c
  product_exists a b =
      let Z = residue_zero_test p two_le in
      let f : DigitPoly p two_le = polynomial_of p two_le a ⊗ polynomial_of p two_le b in
      let r : DigitPoly p two_le = rem R Z modulus modulus_monic f in
      let D = rem-division R Z modulus modulus_monic f in
      let small : length r.0 < length modulus.0 = D.smaller in
      let c : ℕ = number_of p two_le r in (
        c,
        product_from_polynomial a b c (quo R Z modulus modulus_monic f)
            (number_of_lt p two_le (length m) r (omega (arith, length-modulus)))
            (D.whole ∙ ap (λ y. quo R Z modulus modulus_monic f ⊗ modulus ⊕ y)
            (sym (polynomial_of-number_of p two_le r))),
      )

  -- the sum, made of its digits
  pub sum_by_digits : (a b : ℕ) → IsSumByDigits p m a b (of_digits p (length m) (λ k. (digit p a k + digit p b k) % p))
  sum_by_digits a b =
      let f : ℕ → ℕ = λ k. (digit p a k + digit p b k) % p in
      let small : (k : ℕ) → k < length m → f k < p = λ k l. mod_below (digit p a k + digit p b k) p (omega arith) in
      record {
        below = of_digits_lt p (omega arith) (length m) f small;
        each = digit-of_digits p (omega arith) (length m) f small;
      }

  -- the opposite, too
  pub neg_by_digits : (a : ℕ) → IsSumByDigits p m a (of_digits p (length m) (λ k. (p - digit p a k) % p)) 0
  neg_by_digits a =
      let f : ℕ → ℕ = λ k. (p - digit p a k) % p in
      let small : (k : ℕ) → k < length m → f k < p = λ k l. mod_below (p - digit p a k) p (omega arith) in
      record {
        below = let l = one-le-pow (length m) p (omega arith) in omega arith;
        each = λ k l. zero-digit p k ∙ sym
            (ap (λ x. (digit p a k + x) % p) (digit-of_digits p (omega arith) (length m) f small k l)
            ∙ add-neg_mod p (digit p a k) (digit_lt p (omega arith) a k));
      }

  -- the sum of numbers below p is that modulo p
  pub sum-constants : (a b : ℕ) → 1 ≤ length m → a < p → b < p → IsSumByDigits p m a b ((a + b) % p)
  sum-constants a b d la lb = record {
    below = lt_of_lt_of_le (mod_below (a + b) p (omega arith)) (le_pow_self p (length m) d);
    each = λ k _. each k;
  }
    where
      each : (k : ℕ) → digit p ((a + b) % p) k ≡ (digit p a k + digit p b k) % p
      each zero =
          digit-zero p ((a + b) % p) ∙ mod-mod (a + b) p
          ∙ sym (ap₂ (λ x y. (x + y) % p) (digit-zero p a ∙ mod-eq_of_lt la) (digit-zero p b ∙ mod-eq_of_lt lb))
      each (suc k) =
          digit-suc_of_lt p ((a + b) % p) k (mod_below (a + b) p (omega arith)) ∙ sym (zero-mod p)
          ∙ sym (ap₂ (λ x y. (x + y) % p) (digit-suc_of_lt p a k la) (digit-suc_of_lt p b k lb))

  pub sum_unique : (a b c c' : ℕ) → IsSumByDigits p m a b c → IsSumByDigits p m a b c' → c ≡ c'
  sum_unique a b c c' s s' = digit_injective p (length m) c c' s.below s'.below (λ k l. s.each k l ∙ sym (s'.each k l))
