-- Elements of a lift ring one after the other as a row of numbers, w = e·d for each, and the rows of numbers of their
-- products by t, by x and by other elements.
use Rattle.std.specs.Prelude.{◌≡◌, ℕ, ◌+◌, ◌-◌, ◌*◌, ◌%◌, ◌<◌, List, [], length, get_or, cond, nat_eq, nat_lt, All}
use Rattle.theory_rings.specs.Sum.{sum}
use Rattle.theory_rings.specs.Naturals.{nat_monoid}

module _ (q : ℕ) where
  -- number k of the products by t: the number before it in its coefficient of d numbers, and the last one of the
  -- coefficient times a number of t^d
  abbrev pub shifted_number : ℕ → List ℕ → List ℕ → ℕ → ℕ
  shifted_number d back row k = (cond (nat_eq (k % d) 0) 0 (get_or row (k - 1) 0)
      + get_or row (k - k % d + (d - 1)) 0 * get_or back (k % d) 0) % q

  -- number k of the products by x: the number d places before it in its element, and those of the last coefficient
  -- times numbers of the products of x^e by the powers of t
  abbrev pub turned_number : ℕ → ℕ → List (List ℕ) → List ℕ → ℕ → ℕ
  turned_number w d turns row k = (cond (nat_lt (k % w) d) 0 (get_or row (k - d) 0)
      + sum nat_monoid d (λ v. get_or row (k - k % w + (w - d) + v) 0 * get_or (get_or turns v []) (k % w) 0)) % q

  -- number t of the combination of n rows by c
  abbrev pub combined_number : ℕ → List ℕ → List (List ℕ) → ℕ → ℕ
  combined_number n c rows t = sum nat_monoid n (λ r. get_or c r 0 * get_or (get_or rows r []) t 0) % q

  -- n numbers below q
  pub record AreNumbers (n : ℕ) (row : List ℕ) : Type 0 where
    pub count : length row ≡ n
    pub below : All (λ x. x < q) row

  -- rows of n numbers
  abbrev pub AreRows : ℕ → List (List ℕ) → Type 0
  AreRows n rows = (i : ℕ) → i < length rows → AreNumbers n (get_or rows i [])
