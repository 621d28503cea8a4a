-- A product from those before it: by t where the second number ends in 0, and else by a sum with the first.
use Rattle.std.specs.Prelude.{◌≡◌, ◌≢◌, ℕ, zero, suc, ◌+◌, ◌-◌, ◌*◌, ◌/◌, ◌%◌, ◌^◌, ◌<◌, List, length, get_or}
use Rattle.std.proofs.Common.{sym, ◌∙◌, ap, ap₂, subst, arith}
use Rattle.std.proofs.Math.Nat.{mod-add-mod, add-mod-mod, mod-eq_of_lt, div-add-mod, div-lt_self, pos_of_ne-zero}
use Rattle.std.proofs.lemmas.Nat.{mod_below, div-mul-add}
use Rattle.theory_rings.specs.Digits.{digit}
use Rattle.theory_rings.specs.FieldByDigits.{IsSumByDigits, IsProductByDigits}
use Rattle.theory_rings.proofs.Numbers.Digits.{digit-zero, digit-suc, digit-suc_of_lt, digit_lt, le_pow_self}
use Rattle.theory_rings.proofs.FiniteFields.ProductSteps.{product-zero, product-one, product-add, product-shift}
use Rattle.spl_field.specs.FieldByDigits.{FitsField}
use Rattle.spl_field.proofs.DigitLoops.{positive}

-- a number that does not end in 0 has the same digits above the last as the one before it
pub div-pred : (p b : ℕ) → 0 < p → b % p ≢ 0 → (b - 1) / p ≡ b / p
div-pred p b h n =
    let e = div-add-mod b p in
    let l = mod_below b p h in
    ap (λ x. x / p) (split (b / p) (b % p) e n) ∙ div-mul-add (b / p) p (b % p - 1) (omega arith)
  where
    split : (x y : ℕ) → p * x + y ≡ b → y ≢ 0 → b - 1 ≡ x * p + (y - 1)
    split x y e n = omega arith

module _ (p : ℕ) (m : List ℕ) (fits : FitsField p m) where
  pub sum-one : (b : ℕ) → b < p ^ length m → b % p ≢ 0 → IsSumByDigits p m (b - 1) 1 b
  sum-one b l n = record { below = l; each = λ k _. each k }
    where
      nonzero : b % p ≢ 0 → b ≡ b - 1 + 1
      nonzero n = some b (λ e. n (ap (λ x. x % p) e ∙ mod-eq_of_lt (positive p m fits)))
        where
          some : (x : ℕ) → x ≢ 0 → x ≡ x - 1 + 1
          some x n = omega arith

      each : (k : ℕ) → digit p b k ≡ (digit p (b - 1) k + digit p 1 k) % p
      each zero =
          digit-zero p b ∙ ap (λ x. x % p) (nonzero n)
          ∙ sym (ap₂ (λ x y. (x + y) % p) (digit-zero p (b - 1)) (digit-zero p 1)
          ∙ mod-add-mod (b - 1) p (1 % p) ∙ add-mod-mod (b - 1) 1 p)
      each (suc k) =
          let two = fits.least in
          digit-suc p b k ∙ ap (λ x. digit p x k) (sym (div-pred p b (positive p m fits) n))
          ∙ sym (digit-suc p (b - 1) k)
          ∙ sym (ap (λ x. (digit p (b - 1) (suc k) + x) % p) (digit-suc_of_lt p 1 k (omega arith))
          ∙ ap (λ x. x % p) (plain (digit p (b - 1) (suc k)))
          ∙ mod-eq_of_lt (digit_lt p (positive p m fits) (b - 1) (suc k)))
        where
          plain : (x : ℕ) → x + 0 ≡ x
          plain x = omega arith

  module _ (a b i x c : ℕ) (row : List ℕ) (before : (k : ℕ) → k < b → IsProductByDigits p m a k (get_or row k 0)) where
    pub product_at_zero : b ≡ 0 → IsProductByDigits p m a b 0
    product_at_zero e = subst (λ n. IsProductByDigits p m a n 0) (sym e) (product-zero p fits.least m a)

    pub product_by_t : b ≢ 0 → b % p ≡ 0 → i ≡ b / p → x ≡ get_or row i 0 → IsProductByDigits p m p x c
        → IsProductByDigits p m a b c
    product_by_t n e ei ex s =
        subst (λ y. IsProductByDigits p m a y c) whole
        (product-shift p fits.least m a (b / p) (get_or row (b / p) 0) c (before (b / p) smaller)
        (subst (λ y. IsProductByDigits p m p y c) (ex ∙ ap (λ j. get_or row j 0) ei) s))
      where
        whole : p * (b / p) ≡ b
        whole = let h = div-add-mod b p in omega arith

        smaller : b / p < b
        smaller = div-lt_self (pos_of_ne-zero n) fits.least

    pub product_by_sum : a < p ^ length m → b < p ^ length m → b ≢ 0 → b % p ≢ 0 → i ≡ b - 1 → x ≡ get_or row i 0
        → IsSumByDigits p m x a c → IsProductByDigits p m a b c
    product_by_sum la lb n ne ei ex s =
        product-add p fits.least m a (b - 1) 1 b (get_or row (b - 1) 0) a c (omega arith) one_lt
        (before (b - 1) (omega arith)) (product-one p fits.least m a la) (sum-one b lb ne)
        (subst (λ y. IsSumByDigits p m y a c) (ex ∙ ap (λ j. get_or row j 0) ei) s)
      where
        one_lt : 1 < p ^ length m
        one_lt = let h = le_pow_self p (length m) fits.some_number in let two = fits.least in omega arith
