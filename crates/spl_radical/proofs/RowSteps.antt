-- Steps of sums of products modulo a number, and the numbers of products by x.
use Rattle.std.specs.Prelude.{◌≡◌, ℕ, suc, ◌+◌, ◌-◌, ◌*◌, ◌/◌, ◌%◌, ◌^◌, ◌<◌, ◌≤◌, List, [], length, get_or, take, drop}
use Rattle.std.specs.Prelude.{cond, nat_lt}
use Rattle.std.proofs.Common.{sym, ◌∙◌, ap, ap₂, subst, arith}
use Rattle.std.proofs.Math.Nat as nat
use Rattle.std.proofs.lemmas.Bool.{lt-ltb, le-ltb}
use Rattle.std.proofs.lemmas.List.{get_or-drop, get_or-take, length-drop, length-take-le}
use Rattle.theory_rings.specs.Sum.{sum, table}
use Rattle.theory_rings.specs.Naturals.{nat_monoid}
use Rattle.theory_rings.proofs.Sums.Sums.{sum_congr}
use Rattle.theory_rings.proofs.Sums.Lists.{length-table, All-table}
use Rattle.theory_spaces.proofs.Matrices.PairIndex.{pair-lt, row-lt}
use Rattle.theory_tables.proofs.Rows.Sums.{row_at}
use Rattle.theory_chains.specs.NumberRows.{turned_number, AreNumbers, AreRows}

-- one more product
pub next_sum : (q : ℕ) (f : ℕ → ℕ) (r s s' x : ℕ) → s % q ≡ sum nat_monoid r f % q → s' % q ≡ (s + x) % q → x ≡ f r
    → s' % q ≡ sum nat_monoid (r + 1) f % q
next_sum q f r s s' x e e' h =
    let n : suc r ≡ r + 1 = omega arith in
    e' ∙ sym (nat.mod-add-mod s q x) ∙ ap (λ y. (y + x) % q) e ∙ nat.mod-add-mod (sum nat_monoid r f) q x
    ∙ ap (λ x. (sum nat_monoid r f + x) % q) h ∙ ap (λ n. sum nat_monoid n f % q) n

-- behind a first number
pub next_sum_from : (q first : ℕ) (f : ℕ → ℕ) (r s s' x : ℕ) → s % q ≡ (first + sum nat_monoid r f) % q
    → s' % q ≡ (s + x) % q → x ≡ f r → s' % q ≡ (first + sum nat_monoid (r + 1) f) % q
next_sum_from q first f r s s' x e e' h =
    let n : suc r ≡ r + 1 = omega arith in
    let a : first + sum nat_monoid r f + f r ≡ first + (sum nat_monoid r f + f r) = omega arith in
    e' ∙ sym (nat.mod-add-mod s q x) ∙ ap (λ y. (y + x) % q) e ∙ nat.mod-add-mod (first + sum nat_monoid r f) q x
    ∙ ap (λ x. (first + sum nat_monoid r f + x) % q) h ∙ ap (λ x. x % q) a
    ∙ ap (λ n. (first + sum nat_monoid n f) % q) n

-- a number of a row that was read
pub number_at : (rows : List (List ℕ)) (v u : ℕ) (x y : List ℕ) → v < length rows → x ≡ get_or rows v x → y ≡ x
    → get_or y u 0 ≡ get_or (get_or rows v []) u 0
number_at rows v u x y h e f = ap (λ z. get_or z u 0) (row_at rows v x y h e f)

-- the number before, where there is one
pub before_none : (k w d : ℕ) (x : ℕ) → k % w < d → 0 ≡ cond (nat_lt (k % w) d) 0 x
before_none k w d x h = sym (ap (λ b. cond b 0 x) (lt-ltb (k % w) d h))

pub before_some : (k w d : ℕ) (x : ℕ) → d ≤ k % w → x ≡ cond (nat_lt (k % w) d) 0 x
before_some k w d x h = sym (ap (λ b. cond b 0 x) (le-ltb (k % w) d h))

-- the sum over a part of a row
part_sum : (row : List ℕ) (f : ℕ → ℕ) (start d m : ℕ) → d ≤ m
    → sum nat_monoid d (λ v. get_or (take m (drop start row)) v 0 * f v)
    ≡ sum nat_monoid d (λ v. get_or row (start + v) 0 * f v)
part_sum row f start d m h = sum_congr nat_monoid d (λ v. get_or (take m (drop start row)) v 0 * f v)
    (λ v. get_or row (start + v) 0 * f v) (λ v l. ap (λ x. x * f v)
    (get_or-take m (drop start row) v 0 (omega arith) ∙ get_or-drop start row v 0))

pub turned_is : (q w d : ℕ) (turns : List (List ℕ)) (row : List ℕ) (k before n m start r : ℕ)
    → before ≡ cond (nat_lt (k % w) d) 0 (get_or row (k - d) 0) → n ≡ d → d ≤ m → start ≡ k - k % w + (w - d)
    → r ≡ (before + sum nat_monoid n
    (λ v. get_or (take m (drop start row)) v 0 * get_or (get_or turns v []) (k % w) 0)) % q
    → r ≡ turned_number q w d turns row k
turned_is q w d turns row k before n m start r eb en le es e = e
    ∙ ap (λ n. (before + sum nat_monoid n
    (λ v. get_or (take m (drop start row)) v 0 * get_or (get_or turns v []) (k % w) 0)) % q) en
    ∙ ap (λ x. (before + x) % q) (part_sum row (λ v. get_or (get_or turns v []) (k % w) 0) start d m le)
    ∙ ap₂ (λ b s. (b + sum nat_monoid d
    (λ v. get_or row (s + v) 0 * get_or (get_or turns v []) (k % w) 0)) % q) eb es

pub part_length : (row : List ℕ) (start d : ℕ) → start + d ≤ length row
    → length (take (start + d - start) (drop start row)) ≡ d
part_length row start d h =
    let e = length-drop start row in
    let m : start + d - start ≡ d = omega arith in
    length-take-le (start + d - start) (drop start row) (omega arith) ∙ m

-- the part of d numbers in which a number of h parts stands is whole
pub whole_part : (h d n k : ℕ) → n ≡ h * d → 1 ≤ d → k < n → k - k % d + (d - 1) < n
whole_part h d n k e g l =
    let a : k / d * d + k % d ≡ k = nat.div-add-mod' k d in
    let p : k / d * d + (d - 1) < h * d = pair-lt h d (k / d) (d - 1) (row-lt h d k (omega arith)) (omega arith) in
    omega arith

-- opposites modulo q are below q
pub opposites_below : (q n : ℕ) (f : ℕ → ℕ) (r : List ℕ) → 1 ≤ q → r ≡ table n (λ t. (q - f t % q) % q)
    → AreNumbers q n r
opposites_below q n f r h e = subst (AreNumbers q n) (sym e) (record {
  count = length-table n (λ t. (q - f t % q) % q);
  below = All-table (λ x. x < q) n (λ t. (q - f t % q) % q) (λ t _. nat.mod-lt (q - f t % q) (omega arith));
})

-- ---- the diagonal of rows of elements

pub number_in : (q w : ℕ) (rows : List (List ℕ)) (i t : ℕ) (x y : List ℕ) → AreRows q (length rows * w) rows
    → i < length rows → t < w → x ≡ get_or rows i x → y ≡ x → i * w + t < length y
number_in q w rows i t x y h il tl e f =
    let g = (h i il).count in
    let n : length y ≡ length (get_or rows i []) = ap length (row_at rows i x y il e f) in
    let p = pair-lt (length rows) w i t il tl in
    omega arith

pub number_below : (q w : ℕ) (rows : List (List ℕ)) (i t : ℕ) (x y : List ℕ) → AreRows q (length rows * w) rows
    → i < length rows → t < w → x ≡ get_or rows i x → y ≡ x → get_or y (i * w + t) 0 < q
number_below q w rows i t x y h il tl e f = subst (λ z. get_or z (i * w + t) 0 < q) (sym (row_at rows i x y il e f))
    ((h i il).below (i * w + t) 0
    (let g = (h i il).count in let p = pair-lt (length rows) w i t il tl in omega arith))

pub sum_below : (q n s : ℕ) → 1 ≤ q → s ≡ n % q → s < q
sum_below q n s h e = let m : n % q < q = nat.mod-lt n (omega arith) in omega arith

pub next_diagonal : (q : ℕ) (f : ℕ → ℕ) (i s x : ℕ) → s ≡ sum nat_monoid i f % q → x ≡ f i
    → (s + x) % q ≡ sum nat_monoid (i + 1) f % q
next_diagonal q f i s x e h =
    let n : suc i ≡ i + 1 = omega arith in
    ap (λ s. (s + x) % q) e ∙ nat.mod-add-mod (sum nat_monoid i f) q x
    ∙ ap (λ x. (sum nat_monoid i f + x) % q) h ∙ ap (λ n. sum nat_monoid n f % q) n

-- ---- sums that stay small

pub product_small : (q x y : ℕ) → q ≤ 2 ^ 20 → x < q → y < q → x * y ≤ 2 ^ 40
product_small q x y h lx ly =
    let ex : x ≤ 2 ^ 20 = omega arith in
    let ey : y ≤ 2 ^ 20 = omega arith in
    let m : x * y ≤ 2 ^ 20 * 2 ^ 20 = nat.mul-le-mul ex ey in
    omega arith

pub next_small : (q r s x y : ℕ) → q ≤ 2 ^ 20 → x < q → y < q → s ≤ r * 2 ^ 40
    → s + x * y ≤ (r + 1) * 2 ^ 40
next_small q r s x y h lx ly b = let m = product_small q x y h lx ly in omega arith
