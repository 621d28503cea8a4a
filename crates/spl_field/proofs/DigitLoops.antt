-- A loop that adds the digits of a number one by one, each times its place.
use Rattle.std.specs.Prelude.{◌≡◌, ℕ, suc, ◌+◌, ◌*◌, ◌%◌, ◌^◌, ◌<◌, ◌≤◌, List, length, get_or}
use Rattle.std.proofs.Common.{refl, sym, ◌∙◌, ap, ap₂, arith, add-one}
use Rattle.std.proofs.Math.Nat.{pow-zero, pow-suc, one-le-pow, pow-le-pow_right, mul-le-mul_right}
use Rattle.std.proofs.lemmas.List.Elements.{All-get_or}
use Rattle.std.proofs.lemmas.Nat.{mod_below}
use Rattle.theory_rings.specs.Digits.{of_digits}
use Rattle.theory_rings.proofs.Numbers.Digits.{of_digits_lt, le_pow_self}
use Rattle.spl_field.specs.FieldByDigits.{FitsField}

-- before digit k the place is p ^ k, and the total has the digits before it
pub record IsPartial (p k place total : ℕ) (f : ℕ → ℕ) : Type 0 where
  pub power : place ≡ p ^ k
  pub digits : total ≡ of_digits p k f

pub IsPartial-zero : (p : ℕ) (f : ℕ → ℕ) → IsPartial p 0 1 0 f
IsPartial-zero p f = record { power = sym (pow-zero p); digits = refl }

pub IsPartial-next : (p k place total x : ℕ) (f : ℕ → ℕ) → IsPartial p k place total f → x ≡ f k
    → IsPartial p (k + 1) (place * p) (total + x * place) f
IsPartial-next p k place total x f h e = record {
  power = ap (λ n. n * p) h.power ∙ sym (pow-suc p k) ∙ ap (λ n. p ^ n) (sym (add-one k));
  digits = ap₂ (λ m n. m + n) h.digits (ap₂ (λ m n. m * n) e h.power) ∙ ap (λ n. of_digits p n f) (sym (add-one k));
}

-- what the numbers in the loop stay below
pub record StaysSmall (p place total x : ℕ) : Type 0 where
  pub positive : 0 < place
  pub times : x * place ≤ 255
  pub more : total + x * place ≤ 255
  pub next : place * p ≤ 256

module _ (p : ℕ) (m : List ℕ) (fits : FitsField p m) where
  pub positive : 0 < p
  positive = let l = fits.least in omega arith

  pub pow_le : (k : ℕ) → k ≤ length m → p ^ k ≤ 256
  pow_le k l = let h = fits.most in let g = pow-le-pow_right positive l in omega arith

  pub p_le : p ≤ 256
  p_le = let h = fits.most in let l = fits.some_number in let g = le_pow_self p (length m) (omega arith) in omega arith

  pub two_le_size : (q : ℕ) → q ≡ p ^ length m → 2 ≤ q
  two_le_size q e = let h = fits.least in let l = fits.some_number in let g =
      le_pow_self p (length m) (omega arith) in omega arith

  pub number_lt : (k : ℕ) → k < length m → get_or m k 0 < p
  number_lt k l = All-get_or (λ n. n < p) m k 0 l fits.below

  pub stays_small : (k place total x : ℕ) (f : ℕ → ℕ) → k < length m → ((i : ℕ) → f i < p)
      → IsPartial p k place total f → x < p
      → StaysSmall p place total x
  stays_small k place total x f l small h lx =
      let one = one-le-pow k p positive in
      let front : of_digits p k f < p ^ k = of_digits_lt p positive k f (λ i _. small i) in
      let last : suc x * p ^ k ≤ p * p ^ k = mul-le-mul_right (p ^ k) lx in
      let whole : p ^ k * p ≤ 256 = bound (pow_le (suc k) l) in
      let e = h.power in
      let g = h.digits in
      let t : x * place ≡ x * p ^ k = ap (λ n. x * n) e in
      let u : place * p ≡ p ^ k * p = ap (λ n. n * p) e in
      record {
        positive = omega arith;
        times = omega arith;
        more = omega arith;
        next = omega arith;
      }
    where
      bound : p ^ suc k ≤ 256 → p ^ k * p ≤ 256
      bound h = let e = pow-suc p k in omega arith

  -- where the digits are remainders by p
  pub stays_small_mod : (k place total n : ℕ) (g : ℕ → ℕ) → k < length m → IsPartial p k place total (λ i. g i % p)
      → StaysSmall p place total (n % p)
  stays_small_mod k place total n g l h =
      stays_small k place total (n % p) (λ i. g i % p) l (λ i. mod_below (g i) p positive) h (mod_below n p positive)

  -- after the last digit the total is the number
  pub IsPartial-last : (k place total : ℕ) (f : ℕ → ℕ) → length m ≤ k → k ≤ length m → IsPartial p k place total f
      → of_digits p (length m) f ≡ total
  IsPartial-last k place total f l l' h = let e : length m ≡ k = omega arith in ap (λ n. of_digits p n f) e
      ∙ sym h.digits
