-- Products by digits from others: by 0, by 1, by a sum, by t times a number, and of numbers below p.
use Rattle.std.specs.Prelude.{◌≡◌, ℕ, zero, suc, ◌+◌, ◌-◌, ◌*◌, ◌%◌, ◌<◌, ◌≤◌, List, [], ◌∷◌, ◌++◌, length, get_or}
use Rattle.std.proofs.Common.{refl, sym, ◌∙◌, ap, ap₂, arith, ⊎_elim, length-append}
use Rattle.std.proofs.Math.ListN.{get_or-append}
use Rattle.std.proofs.lemmas.List.{get_or_past, get_or_push}
use Rattle.std.proofs.Math.Nat.{mod-mod, one-le-pow, lt_of_lt_of_le, mul-div_cancel_left}
use Rattle.std.proofs.lemmas.Nat.{mod_below}
use Rattle.std.proofs.lemmas.Bool.{cases_lt}
use Rattle.theory_rings.specs.Ring.{CommRingOn, ZeroTest}
use Rattle.theory_rings.specs.IntegersMod.{integers_mod, Fin, residue, residue_is_zero}
use Rattle.theory_rings.specs.Digits.{digit}
use Rattle.theory_rings.specs.Polynomial.{constant_coefficients}
use Rattle.theory_rings.specs.FieldByDigits.{modulus_coefficient, size_by_digits, IsSumByDigits, IsProductByDigits}
use Rattle.theory_rings.proofs.Rings.Solver.{◌⊞◌, ◌⊠◌, ring3, ring4, ring5}
use Rattle.theory_rings.proofs.Rings.RingLaws.{zero-mul, mul-zero}
use Rattle.theory_rings.proofs.Numbers.IntegersMod.{residue_eq, residue-zero, residue-add, residue-mul}
use Rattle.theory_rings.proofs.Numbers.IntegersMod.{residue_zero_test}
use Rattle.theory_rings.proofs.Numbers.Digits.{digit-suc, digit_past, le_pow_self}
use Rattle.theory_rings.proofs.Polynomials.PolynomialRing.{Poly-path, coefficient-add, constant, coefficient-constant}
use Rattle.theory_rings.proofs.Polynomials.PolynomialRing.{prepend}
use Rattle.theory_rings.proofs.Polynomials.Constants.{variable, prepend-zero, coefficient-constant_mul}
use Rattle.theory_rings.proofs.FiniteFields.DigitPolynomials.{DigitPoly, digit_polynomials, polynomial_of}
use Rattle.theory_rings.proofs.FiniteFields.DigitPolynomials.{coefficient-polynomial_of, polynomial_of-zero}
use Rattle.theory_rings.proofs.FiniteFields.DigitPolynomials.{polynomial_of-one, polynomial_of-constant}
use Rattle.theory_rings.proofs.FiniteFields.DigitPolynomials.{polynomial_of-prepend}
use Rattle.theory_rings.proofs.FiniteFields.FieldByDigits.{modulus, coefficient-modulus, polynomial_of-sum}
use Rattle.theory_rings.proofs.FiniteFields.FieldByDigits.{polynomial_of-product, product_from_polynomial}

module _ (p : ℕ) (two_le : 2 ≤ p) (m : List ℕ) where
  infixl 65 ◌⊕◌
  infixl 70 ◌⊗◌
  open digit_polynomials p two_le use {◌⊕◌, ◌⊗◌}

  abbrev R : CommRingOn (Fin p)
  R = integers_mod p two_le

  abbrev P : CommRingOn (DigitPoly p two_le)
  P = digit_polynomials p two_le

  abbrev H : ℕ → DigitPoly p two_le
  H = polynomial_of p two_le

  abbrev M : DigitPoly p two_le
  M = modulus p two_le m

  size_pos : 0 < size_by_digits p m
  size_pos = let l = one-le-pow (length m) p (omega arith) in omega arith

  pub product_comm : (a b c : ℕ) → IsProductByDigits p m a b c → IsProductByDigits p m b a c
  product_comm a b c s =
      product_from_polynomial p two_le m b a c (H s.quotient) s.below
      (P.mul_comm (H b) (H a) ∙ polynomial_of-product p two_le m a b c s)

  pub product-zero : (a : ℕ) → IsProductByDigits p m a 0 0
  product-zero a = product_from_polynomial p two_le m a 0 0 P.zero size_pos
      (ap (λ x. H a ⊗ x) (polynomial_of-zero p two_le) ∙ mul-zero P.ring (H a)
      ∙ sym (ap₂ (λ x y. x ⊕ y) (zero-mul P.ring M) (polynomial_of-zero p two_le) ∙ P.zero-add P.zero))

  pub product-one : (a : ℕ) → a < size_by_digits p m → IsProductByDigits p m a 1 a
  product-one a l = product_from_polynomial p two_le m a 1 a P.zero l
      (ap (λ x. H a ⊗ x) (polynomial_of-one p two_le) ∙ P.mul-one (H a)
      ∙ sym (ap (λ x. x ⊕ H a) (zero-mul P.ring M) ∙ P.zero-add (H a)))

  pub product-add : (a b b' b'' c c' c'' : ℕ) → b < size_by_digits p m → b' < size_by_digits p m
      → IsProductByDigits p m a b c → IsProductByDigits p m a b' c' → IsSumByDigits p m b b' b''
      → IsSumByDigits p m c c' c''
      → IsProductByDigits p m a b'' c''
  product-add a b b' b'' c c' c'' l l' s s' t t' =
      product_from_polynomial p two_le m a b'' c'' (H s.quotient ⊕ H s'.quotient) t'.below
      (ap (λ x. H a ⊗ x) (polynomial_of-sum p two_le m b b' b'' l l' t)
      ∙ P.mul-add (H a) (H b) (H b')
      ∙ ap₂ (λ x y. x ⊕ y) (polynomial_of-product p two_le m a b c s) (polynomial_of-product p two_le m a b' c' s')
      ∙ ring5 P (λ u u' m c c'. ((u ⊠ m ⊞ c) ⊞ (u' ⊠ m ⊞ c'), (u ⊞ u') ⊠ m ⊞ (c ⊞ c'))) refl (H s.quotient)
      (H s'.quotient) M (H c) (H c')
      ∙ ap (λ x. (H s.quotient ⊕ H s'.quotient) ⊗ M ⊕ x)
      (sym (polynomial_of-sum p two_le m c c' c'' s.below s'.below t')))

  pub product-mul : (a b b' c c' t : ℕ) → IsProductByDigits p m a b c → IsProductByDigits p m t c c' → H b' ≡ H t ⊗ H b
      → IsProductByDigits p m a b' c'
  product-mul a b b' c c' t s s' e =
      product_from_polynomial p two_le m a b' c' (H t ⊗ H s.quotient ⊕ H s'.quotient) s'.below
      (ap (λ x. H a ⊗ x) e
      ∙ ring3 P (λ a t b. (a ⊠ (t ⊠ b), t ⊠ (a ⊠ b))) refl (H a) (H t) (H b)
      ∙ ap (λ x. H t ⊗ x) (polynomial_of-product p two_le m a b c s)
      ∙ ring4 P (λ t u m c. (t ⊠ (u ⊠ m ⊞ c), (t ⊠ u) ⊠ m ⊞ t ⊠ c)) refl (H t) (H s.quotient) M (H c)
      ∙ ap (λ x. (H t ⊗ H s.quotient) ⊗ M ⊕ x) (polynomial_of-product p two_le m t c c' s')
      ∙ ring5 P (λ t u u' m c. ((t ⊠ u) ⊠ m ⊞ (u' ⊠ m ⊞ c), (t ⊠ u ⊞ u') ⊠ m ⊞ c)) refl (H t) (H s.quotient)
      (H s'.quotient) M (H c'))

  -- the number p is t
  pub polynomial_of-shift : (b : ℕ) → H (p * b) ≡ H p ⊗ H b
  polynomial_of-shift b = shift b ∙ ap (λ x. x ⊗ H b) (sym t)
    where
      shift : (b : ℕ) → H (p * b) ≡ variable R (residue_zero_test p two_le) ⊗ H b
      shift b =
          ap H (omega arith) ∙ polynomial_of-prepend p two_le b 0 (omega arith)
          ∙ ap (λ x. prepend R (residue_zero_test p two_le) x (H b)) (residue-zero p two_le)
          ∙ sym (prepend-zero R (residue_zero_test p two_le) (H b))

      t : H p ≡ variable R (residue_zero_test p two_le)
      t =
          ap H (omega arith) ∙ shift 1
          ∙ ap (λ x. variable R (residue_zero_test p two_le) ⊗ x) (polynomial_of-one p two_le)
          ∙ P.mul-one (variable R (residue_zero_test p two_le))

  -- a times p · b is t times the product of a and b
  pub product-shift : (a b c c' : ℕ) → IsProductByDigits p m a b c → IsProductByDigits p m p c c'
      → IsProductByDigits p m a (p * b) c'
  product-shift a b c c' s s' = product-mul a b (p * b) c c' p s s' (polynomial_of-shift b)

  -- t times a: its digits but the last move up, and the last takes so many times the modulus away
  pub product-t : (a c : ℕ) → 1 ≤ length m → a < size_by_digits p m → c < size_by_digits p m
      → ((k : ℕ) → k < length m → (digit p c k + get_or m k 0 * digit p a (length m - 1)) % p ≡ digit p (p * a) k)
      → IsProductByDigits p m p a c
  product-t a c d la lc h = product_from_polynomial p two_le m p a c (constant R Z (residue p two_le top)) lc
      (sym (polynomial_of-shift a) ∙ Poly-path R (H (p * a)) (constant R Z (residue p two_le top) ⊗ M ⊕ H c)
      (λ k. coefficient-polynomial_of p two_le (p * a) k
      ∙ residue_eq p two_le (digit p (p * a) k) (top * modulus_coefficient m k + digit p c k) (each k)
      ∙ residue-add p two_le (top * modulus_coefficient m k) (digit p c k)
      ∙ ap (λ x. R.◌⊕◌ x (residue p two_le (digit p c k))) (residue-mul p two_le top (modulus_coefficient m k))
      ∙ sym (coefficient-add R Z (constant R Z (residue p two_le top) ⊗ M) (H c) k
      ∙ ap₂ R.◌⊕◌
      (coefficient-constant_mul R Z (residue p two_le top) M k
      ∙ ap (R.◌⊗◌ (residue p two_le top)) (coefficient-modulus p two_le m k))
      (coefficient-polynomial_of p two_le c k))))
    where
      Z : ZeroTest R.zero (residue_is_zero p two_le)
      Z = residue_zero_test p two_le

      top : ℕ
      top = digit p a (length m - 1)

      below : (k : ℕ) → k < length m → digit p (p * a) k % p ≡ (top * modulus_coefficient m k + digit p c k) % p
      below k l =
          ap (λ x. x % p) (sym (h k l)) ∙ mod-mod (digit p c k + get_or m k 0 * top) p
          ∙ ap (λ x. (digit p c k + x * top) % p) (sym (get_or-append m (1 ∷ []) 0 k l))
          ∙ ap (λ x. x % p) (omega arith)

      one_times : top ≡ top * 1 + 0
      one_times = omega arith

      no_times : 0 ≡ top * 0 + 0
      no_times = omega arith

      shifted : (k : ℕ) → digit p (p * a) (suc k) ≡ digit p a k
      shifted k = digit-suc p (p * a) k ∙ ap (λ x. digit p x k) (mul-div_cancel_left a (omega arith))

      at_top : (k : ℕ) → suc k ≡ length m
          → digit p (p * a) (suc k) % p ≡ (top * modulus_coefficient m (suc k) + digit p c (suc k)) % p
      at_top k e =
          let last : k ≡ length m - 1 = omega arith in
          ap (λ x. x % p)
          (shifted k ∙ ap (digit p a) last ∙ one_times
          ∙ sym (ap₂ (λ x y. top * x + y) (get_or_push m 1 0 (suc k) (sym e))
          (digit_past p (omega arith) (length m) c (suc k) lc (omega arith))))

      above : (k : ℕ) → length m ≤ k
          → digit p (p * a) (suc k) % p ≡ (top * modulus_coefficient m (suc k) + digit p c (suc k)) % p
      above k l =
          ap (λ x. x % p)
          (shifted k ∙ digit_past p (omega arith) (length m) a k la l ∙ no_times
          ∙ sym (ap₂ (λ x y. top * x + y)
          (get_or_past (m ++ 1 ∷ []) (suc k) 0 (omega (arith, length-append m (1 ∷ []))))
          (digit_past p (omega arith) (length m) c (suc k) lc (omega arith))))

      each : (k : ℕ) → digit p (p * a) k % p ≡ (top * modulus_coefficient m k + digit p c k) % p
      each zero = below 0 (omega arith)
      each (suc k) = ⊎_elim (below (suc k))
          (λ l. ⊎_elim (λ g. at_top k (omega arith)) (above k) (cases_lt k (length m))) (cases_lt (suc k) (length m))

  -- the product of numbers below p is that modulo p
  pub product-constants : (a b : ℕ) → 1 ≤ length m → a < p → b < p → IsProductByDigits p m a b ((a * b) % p)
  product-constants a b d la lb = product_from_polynomial p two_le m a b ((a * b) % p) P.zero small
      (ap₂ (λ x y. x ⊗ y) (polynomial_of-constant p two_le a la) (polynomial_of-constant p two_le b lb)
      ∙ Poly-path R (constant R Z (residue p two_le a) ⊗ constant R Z (residue p two_le b))
      (constant R Z (residue p two_le ((a * b) % p)))
      (λ k. coefficient-constant_mul R Z (residue p two_le a) (constant R Z (residue p two_le b)) k
      ∙ ap (R.◌⊗◌ (residue p two_le a)) (coefficient-constant R Z (residue p two_le b) k) ∙ each k
      ∙ sym (coefficient-constant R Z (residue p two_le ((a * b) % p)) k))
      ∙ sym (ap₂ (λ x y. x ⊕ y) (zero-mul P.ring M) (polynomial_of-constant p two_le ((a * b) % p) below)
      ∙ P.zero-add (constant R Z (residue p two_le ((a * b) % p)))))
    where
      Z : ZeroTest R.zero (residue_is_zero p two_le)
      Z = residue_zero_test p two_le

      below : (a * b) % p < p
      below = mod_below (a * b) p (omega arith)

      small : (a * b) % p < size_by_digits p m
      small = lt_of_lt_of_le below (le_pow_self p (length m) d)

      each : (k : ℕ) → R.◌⊗◌ (residue p two_le a) (constant_coefficients R.zero (residue p two_le b) k)
          ≡ constant_coefficients R.zero (residue p two_le ((a * b) % p)) k
      each zero = sym (residue-mul p two_le a b) ∙ residue_eq p two_le (a * b) ((a * b) % p) (sym (mod-mod (a * b) p))
      each (suc k) = mul-zero R.ring (residue p two_le a)
