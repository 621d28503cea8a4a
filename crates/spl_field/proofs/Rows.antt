-- Tables of n rows of n entries, row by row.
use Rattle.std.specs.Prelude.{◌≡◌, ℕ, ◌+◌, ◌*◌, ◌/◌, ◌%◌, ◌<◌, ◌≤◌, List, [], ◌∷◌, ◌++◌, length, get_or}
use Rattle.std.proofs.Common.{sym, ◌∙◌, ap, subst, subst₂, arith, ⊎_elim}
use Rattle.std.proofs.lemmas.Bool.{cases_lt}
use Rattle.std.proofs.lemmas.List.{get_or_append_left, get_or-append-add, get_or_push}
use Rattle.std.proofs.lemmas.Grind.{get_or_default_zero}
use Rattle.std.proofs.Math.Nat.{div-add-mod, div-lt_iff_lt-mul}
use Rattle.std.proofs.lemmas.Nat.{mod_below, div-mul-add, mod-mul-add, mul-add-lt}

-- one more row
pub get_or-more_rows : (q n : ℕ) (R : ℕ → ℕ → ℕ → Type 0) (table row : List ℕ) → length table ≡ n * q
    → ((x y : ℕ) → x < n → y < q → R x y (get_or table (x * q + y) 0))
    → ((y : ℕ) → y < q → R n y (get_or row y 0))
    → (x y : ℕ) → x < n + 1 → y < q → R x y (get_or (table ++ row) (x * q + y) 0)
get_or-more_rows q n R table row full front last x y lx ly = ⊎_elim within at_end (cases_lt x n)
  where
    within : x < n → R x y (get_or (table ++ row) (x * q + y) 0)
    within l =
        let h = mul-add-lt x q y n l ly in
        subst (R x y) (sym (get_or_append_left table row 0 (x * q + y) (omega arith))) (front x y l ly)

    at_end : n ≤ x → R x y (get_or (table ++ row) (x * q + y) 0)
    at_end l =
        let e : n ≡ x = omega arith in
        let place : length table + y ≡ x * q + y = ap (λ k. k + y) (full ∙ ap (λ k. k * q) e) in
        subst₂ (λ k v. R k y v) e
        (sym (get_or-append-add table row y 0) ∙ ap (λ i. get_or (table ++ row) i 0) place)
        (last y ly)

-- where the entry at each place stands in R to its row and its column, the entry of row a and column b stands in R to a
-- and b
pub get_or-row : (n : ℕ) (R : ℕ → ℕ → ℕ → Type 0) (table : List ℕ)
    → ((i : ℕ) → i < n * n → R (i / n) (i % n) (get_or table i 0))
    → (a b : ℕ) → a < n → b < n → R a b (get_or table (a * n + b) 0)
get_or-row n R table h a b la lb =
    subst₂ (λ x y. R x y (get_or table (a * n + b) 0)) (div-mul-add a n b lb) (mod-mul-add a n b lb)
    (h (a * n + b) (mul-add-lt a n b n la lb))

-- where the entries of each row are below n, all are
pub rows_below : (n : ℕ) (table : List ℕ) → ((a b : ℕ) → a < n → b < n → get_or table (a * n + b) 0 < n)
    → (i : ℕ) → i < n * n → get_or table i 0 < n
rows_below n table h i l =
    let pos : 0 < n = positive n l in
    let e = div-add-mod i n in
    let place : i / n * n + i % n ≡ i = omega arith in
    subst (λ j. get_or table j 0 < n) place (h (i / n) (i % n) ((div-lt_iff_lt-mul pos).1 l) (mod_below i n pos))
  where
    positive : (m : ℕ) → i < m * m → 0 < m
    positive m h = ⊎_elim
        (λ (z : m < 1). let e : m ≡ 0 = omega arith in let g : i < 0 * m = subst (λ x. i < x * m) e h in omega arith)
        (λ (z : 1 ≤ m). omega arith) (cases_lt m 1)

-- one more entry
pub get_or-more : (n : ℕ) (R : ℕ → ℕ → Type 0) (table : List ℕ) (v : ℕ) → length table ≡ n
    → ((k : ℕ) → k < n → R k (get_or table k 0)) → R n v
    → (k : ℕ) → k < n + 1 → R k (get_or (table ++ v ∷ []) k 0)
get_or-more n R table v full front last k l = ⊎_elim
    (λ (h : k < n). subst (R k) (sym (get_or_append_left table (v ∷ []) 0 k (omega arith))) (front k h))
    (λ (h : n ≤ k). let e : n ≡ k = omega arith in subst₂ R e (sym (get_or_push table v 0 k (full ∙ e))) last)
    (cases_lt k n)

-- a number that was read
pub get_or-read : (table : List ℕ) (i j v : ℕ) → v ≡ get_or table i v → i ≡ j → j < length table → get_or table j 0 ≡ v
get_or-read table i j v e s l = sym (e ∙ ap (λ k. get_or table k v) s ∙ get_or_default_zero table j v l)
