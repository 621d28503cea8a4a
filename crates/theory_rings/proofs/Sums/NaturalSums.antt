-- Sums of natural numbers: constants, bounds, products and remainders.
use Rattle.std.specs.Prelude.{◌≡◌, ℕ, zero, suc, ◌+◌, ◌*◌, ◌%◌, ◌<◌, ◌≤◌}
use Rattle.std.proofs.Common.{refl, sym, ◌∙◌, ap, arith, ⊎_elim}
use Rattle.std.proofs.Math.Nat.{zero-mul, mul-zero, mul-add, add-mul, mod-add-mod, add-mod-mod}
use Rattle.std.proofs.lemmas.Bool.{cases_lt}
use Rattle.theory_rings.specs.Sum.{sum}
use Rattle.theory_rings.specs.Naturals.{nat_monoid}
use Rattle.theory_rings.proofs.Sums.Sums.{map-sum}

pub sum_const : (n c : ℕ) → sum nat_monoid n (λ _. c) ≡ n * c
sum_const zero c = sym (zero-mul c)
sum_const (suc n) c = ap (λ x. x + c) (sum_const n c) ∙ omega arith

pub sum_le_sum : (n : ℕ) (f g : ℕ → ℕ) → ((i : ℕ) → i < n → f i ≤ g i) → sum nat_monoid n f ≤ sum nat_monoid n g
sum_le_sum zero f g h = omega arith
sum_le_sum (suc n) f g h =
    let front = sum_le_sum n f g (λ i l. h i (omega arith)) in
    let last = h n (omega arith) in
    omega arith

-- a sum of n terms is at most n times the largest
pub sum_le : (n c : ℕ) (f : ℕ → ℕ) → ((i : ℕ) → i < n → f i ≤ c) → sum nat_monoid n f ≤ n * c
sum_le n c f h = let e = sum_const n c in let l = sum_le_sum n f (λ _. c) h in omega arith

-- and at least each of its terms
pub le_sum : (n k : ℕ) (f : ℕ → ℕ) → k < n → f k ≤ sum nat_monoid n f
le_sum zero k f l = absurd (omega arith)
le_sum (suc n) k f l = ⊎_elim (λ h. earlier (le_sum n k f h)) last (cases_lt k n)
  where
    earlier : f k ≤ sum nat_monoid n f → f k ≤ sum nat_monoid n f + f n
    earlier h = omega arith

    last : n ≤ k → f k ≤ sum nat_monoid n f + f n
    last h = let e : f k ≡ f n = ap f (omega arith) in omega arith

pub mul-sum_nat : (n c : ℕ) (f : ℕ → ℕ) → c * sum nat_monoid n f ≡ sum nat_monoid n (λ i. c * f i)
mul-sum_nat n c f = map-sum nat_monoid nat_monoid (λ x. c * x) (mul-zero c) (mul-add c) n f

pub sum-mul_nat : (n c : ℕ) (f : ℕ → ℕ) → sum nat_monoid n f * c ≡ sum nat_monoid n (λ i. f i * c)
sum-mul_nat n c f = map-sum nat_monoid nat_monoid (λ x. x * c) (zero-mul c) (λ a b. add-mul a b c) n f

-- each term can be reduced modulo m
pub sum-mod : (n m : ℕ) (f : ℕ → ℕ) → sum nat_monoid n (λ i. f i % m) % m ≡ sum nat_monoid n f % m
sum-mod zero m f = refl
sum-mod (suc n) m f =
    add-mod-mod (sum nat_monoid n (λ i. f i % m)) (f n) m
    ∙ sym (mod-add-mod (sum nat_monoid n (λ i. f i % m)) m (f n))
    ∙ ap (λ x. (x + f n) % m) (sum-mod n m f)
    ∙ mod-add-mod (sum nat_monoid n f) m (f n)
