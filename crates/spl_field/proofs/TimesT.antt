-- The digits of t times a number.
use Rattle.std.specs.Prelude.{◌≡◌, ℕ, suc, ◌+◌, ◌-◌, ◌*◌, ◌/◌, ◌%◌, ◌^◌, ◌<◌, ◌≤◌, List, length, get_or}
use Rattle.std.proofs.Common.{sym, ◌∙◌, ap, ap₂, arith}
use Rattle.std.proofs.Math.Nat.{add-mul, sub-add_cancel, div-lt_iff_lt-mul, mul-lt-mul_of_pos_left, mul-div_cancel_left}
use Rattle.std.proofs.Math.Nat.{mod-eq_of_lt, mod-add-mod, mul-add-mod_self_left, one-le-pow, mul-le-mul}
use Rattle.std.proofs.lemmas.Nat.{mod_below}
use Rattle.theory_rings.specs.Digits.{digit, of_digits}
use Rattle.theory_rings.specs.FieldByDigits.{IsProductByDigits}
use Rattle.theory_rings.proofs.Numbers.Digits.{digit-suc, digit_lt, digit-of_digits, of_digits_lt}
use Rattle.theory_rings.proofs.FiniteFields.ProductSteps.{product-t}
use Rattle.spl_field.specs.FieldByDigits.{FitsField}
use Rattle.spl_field.proofs.DigitLoops.{positive, number_lt, p_le}

-- digit k of t times a: digit k of p · a, less the last digit of a times number k of the modulus
abbrev pub digit_by_t : ℕ → List ℕ → ℕ → ℕ → ℕ
digit_by_t p m a k = (digit p (p * a) k + (p - get_or m k 0) * digit p a (length m - 1)) % p

module _ (p : ℕ) (m : List ℕ) (fits : FitsField p m) (a : ℕ) (la : a < p ^ length m) where
  d_suc : (d : ℕ) → 0 < d → d ≡ suc (d - 1)
  d_suc d h = omega arith

  -- the last digit stands past the others in p · a, and nothing above it
  pub last_digit : (p * a) / p ^ length m ≡ digit p a (length m - 1)
  last_digit = sym (mod-eq_of_lt small) ∙ top
    where
      top : digit p (p * a) (length m) ≡ digit p a (length m - 1)
      top =
          ap (digit p (p * a)) (d_suc (length m) fits.some_number) ∙ digit-suc p (p * a) (length m - 1)
          ∙ ap (λ x. digit p x (length m - 1)) (mul-div_cancel_left a (positive p m fits))

      small : (p * a) / p ^ length m < p
      small = (div-lt_iff_lt-mul (one-le-pow (length m) p (positive p m fits))).1
          (mul-lt-mul_of_pos_left la (positive p m fits))

  pub product_by_t_digits : IsProductByDigits p m p a (of_digits p (length m) (digit_by_t p m a))
  product_by_t_digits = product-t p fits.least m a (of_digits p (length m) (digit_by_t p m a)) fits.some_number la
      (of_digits_lt p (positive p m fits) (length m) (digit_by_t p m a) small)
      (λ k l. ap (λ x. (x + get_or m k 0 * top) % p)
      (digit-of_digits p (positive p m fits) (length m) (digit_by_t p m a) small k l)
      ∙ mod-add-mod (digit p (p * a) k + (p - get_or m k 0) * top) p (get_or m k 0 * top)
      ∙ ap (λ x. x % p) (whole k l) ∙ mul-add-mod_self_left p top (digit p (p * a) k)
      ∙ mod-eq_of_lt (digit_lt p (positive p m fits) (p * a) k))
    where
      top : ℕ
      top = digit p a (length m - 1)

      small : (k : ℕ) → k < length m → digit_by_t p m a k < p
      small k l = mod_below (digit p (p * a) k + (p - get_or m k 0) * digit p a (length m - 1)) p (positive p m fits)

      together : (x n t : ℕ) → n ≤ p → x + (p - n) * t + n * t ≡ p * t + x
      together x n t l =
          let e = add-mul (p - n) n t in
          let f : (p - n + n) * t ≡ p * t = ap (λ y. y * t) (sub-add_cancel l) in
          omega arith

      whole : (k : ℕ) → k < length m
          → digit p (p * a) k + (p - get_or m k 0) * top + get_or m k 0 * top ≡ p * top + digit p (p * a) k
      whole k l = let h = number_lt p m fits k l in together (digit p (p * a) k) (get_or m k 0) top (omega arith)

  -- a digit as the program has it
  pub digit_by_t_value : (q place number k : ℕ) → q ≡ p ^ length m → place ≡ p ^ k → number ≡ get_or m k 0
      → (p * a / place % p + (p - number) * (p * a / q)) % p ≡ digit_by_t p m a k
  digit_by_t_value q place number k eq ep en =
      ap₂ (λ x y. (p * a / x % p + y) % p) ep (ap₂ (λ x y. (p - x) * y) en (ap (λ n. p * a / n) eq ∙ last_digit))

  -- its parts are small
  pub moved_le : p * a ≤ 65280
  moved_le =
      let h = fits.most in
      let l : a ≤ 255 = omega arith in
      let g : p * a ≤ 256 * 255 = mul-le-mul (p_le p m fits) l in
      omega arith

  pub times_last_le : (q number : ℕ) → q ≡ p ^ length m → (p - number) * (p * a / q) ≤ 65280
  times_last_le q number e =
      let d : p * a / q ≡ digit p a (length m - 1) = ap (λ n. p * a / n) e ∙ last_digit in
      let l = digit_lt p (positive p m fits) a (length m - 1) in
      let w = p_le p m fits in
      let g : (p - number) * (p * a / q) ≤ 256 * 255 = mul-le-mul (below p number w) (last d l w) in
      omega arith
    where
      below : (x n : ℕ) → x ≤ 256 → x - n ≤ 256
      below x n h = omega arith

      last : {x y : ℕ} → x ≡ y → y < p → p ≤ 256 → x ≤ 255
      last e l h = omega arith

  pub digit_le : (n : ℕ) → n % p ≤ 255
  digit_le n = let l = mod_below n p (positive p m fits) in let w = p_le p m fits in omega arith
