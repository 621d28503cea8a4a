-- The table of cyclotomic polynomials is right, by computation, and what follows for their values.
use Rattle.std.specs.Prelude.{◌≡◌, ℕ, zero, suc, ◌+◌, ◌-◌, ◌*◌, ◌%◌, ◌^◌, ◌<◌, ◌≤◌, List, [], ◌∷◌, Bool, true, false}
use Rattle.std.specs.Prelude.{◌&&◌, eqb, cond}
use Rattle.std.specs.Int.{◌∣◌}
use Rattle.std.proofs.Common.{refl, sym, ◌∙◌, ap, ap₂, subst₂, arith, ⊎_elim, mul-add, add-mul, mul_assoc, mul_comm}
use Rattle.std.proofs.Common.{mul_left_comm, mul-one, one-mul, zero-mul, mul-zero, pow-suc, le-mul_of_pos_right}
use Rattle.std.proofs.Math.Nat.{pow-zero, mod-eq_of_lt, mod_self, dvd-mul_right}
use Rattle.std.proofs.lemmas.Bool.{cases_lt, eq-eqb, ne_eqb, eqb-true}
use Rattle.std.proofs.lemmas.Nat.Gcd.{dvd_of_mod-eq-zero, mod-eq-zero_of_dvd, dvd_trans}
use Rattle.theory_rings.specs.Sum.{sum}
use Rattle.theory_rings.specs.Ring.{AddCommMonoidOn}
use Rattle.theory_rings.proofs.Rings.Semirings.{products, naturals}
use Rattle.theory_rings.proofs.Sums.Sums.{sum_congr, sum-add, sum-split, sum_eq_zero}
use Rattle.theory_division.specs.Cyclotomic.{plus, scale, times, value, power_of_next, without_constant, power_less_one}
use Rattle.theory_division.specs.Cyclotomic.{cyclotomic, divisor_product, CyclotomicTable, CyclotomicValue}
use Rattle.theory_division.proofs.Counts.{and_true}
use Rattle.theory_division.proofs.PowersLessOne.{less, less-is, power-less}

value-plus : (a b : List ℕ) (z : ℕ) → value (plus a b) z ≡ value a z + value b z
value-plus [] b z = omega arith
value-plus (x ∷ a) [] z = omega arith
value-plus (x ∷ a) (y ∷ b) z =
    let e = ap (λ t. z * t) (value-plus a b z) in
    let f = mul-add z (value a z) (value b z) in omega arith

value-scale : (c : ℕ) (a : List ℕ) (z : ℕ) → value (scale c a) z ≡ c * value a z
value-scale c [] z = sym (mul-zero c)
value-scale c (x ∷ a) z =
    ap (λ t. c * x + z * t) (value-scale c a z) ∙ ap (λ t. c * x + t) (mul_left_comm z c (value a z))
    ∙ sym (mul-add c x (z * value a z))

value-times : (a b : List ℕ) (z : ℕ) → value (times a b) z ≡ value a z * value b z
value-times [] b z = sym (zero-mul (value b z))
value-times (x ∷ a) b z =
    value-plus (scale x b) (0 ∷ times a b) z
    ∙ ap₂ (λ s t. s + (0 + z * t)) (value-scale x b z) (value-times a b z)
    ∙ (let e = mul_assoc z (value a z) (value b z) in let f = add-mul x (z * value a z) (value b z) in omega arith)

value-power_of_next : (m z : ℕ) → value (power_of_next m) z ≡ suc z ^ m
value-power_of_next zero z = let e = pow-zero (suc z) in omega arith
value-power_of_next (suc m) z =
    value-times (1 ∷ 1 ∷ []) (power_of_next m) z ∙ ap₂ (λ s t. s * t) first (value-power_of_next m z)
    ∙ mul_comm (suc z) (suc z ^ m) ∙ sym (pow-suc (suc z) m)
  where
    first : value (1 ∷ 1 ∷ []) z ≡ suc z
    first = omega arith

power_head : (m : ℕ) → (r : List ℕ) × (power_of_next m ≡ 1 ∷ r)
power_head zero = ([], refl)
power_head (suc m) =
    let h = power_head m in
    (plus (scale 1 h.0) (times (1 ∷ []) (1 ∷ h.0)), ap (times (1 ∷ 1 ∷ [])) h.1)

value-power_less_one : (m z : ℕ) → value (power_less_one m) z ≡ less m z
value-power_less_one m z =
    let h = power_head m in
    let a = sym (value-power_of_next m z) ∙ ap (λ t. value t z) h.1 in
    let b = ap (λ t. value (without_constant t) z) h.1 in
    let p = power-less m z in
    omega arith

same_list : List ℕ → List ℕ → Bool
same_list [] [] = true
same_list [] (y ∷ b) = false
same_list (x ∷ a) [] = false
same_list (x ∷ a) (y ∷ b) = eqb x y && same_list a b

same_list-eq : (a b : List ℕ) → same_list a b ≡ true → a ≡ b
unfolding same_list
same_list-eq [] [] e = refl
same_list-eq [] (y ∷ b) e = cc
same_list-eq (x ∷ a) [] e = cc
same_list-eq (x ∷ a) (y ∷ b) e =
    let p = and_true (eqb x y) (same_list a b) e in
    ap₂ (λ s t. s ∷ t) (eqb-true x y p.0) (same_list-eq a b p.1)

all_below : ℕ → (ℕ → Bool) → Bool
all_below zero p = true
all_below (suc n) p = p n && all_below n p

all_at : (n : ℕ) (p : ℕ → Bool) → all_below n p ≡ true → (i : ℕ) → i < n → p i ≡ true
unfolding all_below
all_at zero p e i l = absurd (omega arith)
all_at (suc n) p e i l = ⊎_elim
    (λ (h : i < n). all_at n p (and_true (p n) (all_below n p) e).1 i h)
    (λ (h : n ≤ i). let w : i ≡ n = omega arith in ap p w ∙ (and_true (p n) (all_below n p) e).0) (cases_lt i n)

-- the coefficients of the powers 0 and 1 are not 0
is_large : List ℕ → Bool
is_large (suc x ∷ suc y ∷ r) = true
is_large _ = false

is_right : ℕ → Bool
is_right m = same_list (divisor_product m m) (power_less_one m)

-- the two computations
all_right : all_below 36 (λ i. is_right (suc i)) ≡ true
unfolding all_below is_right same_list
all_right = refl

all_large : all_below 35 (λ i. is_large (cyclotomic (suc (suc i)))) ≡ true
unfolding all_below is_large
all_large = refl

pub cyclotomic_table : CyclotomicTable
unfolding is_right
cyclotomic_table zero l h = absurd (omega arith)
cyclotomic_table (suc i) l h =
    same_list-eq (divisor_product (suc i) (suc i)) (power_less_one (suc i))
    (all_at 36 (λ i. is_right (suc i)) all_right i (omega arith))

is_large-value : (a : List ℕ) (z : ℕ) → is_large a ≡ true → z < value a z
unfolding is_large
is_large-value [] z e = cc
is_large-value (zero ∷ a) z e = cc
is_large-value (suc x ∷ []) z e = cc
is_large-value (suc x ∷ zero ∷ a) z e = cc
is_large-value (suc x ∷ suc y ∷ a) z e = let h : z ≤ z * (suc y + z * value a z) =
    le-mul_of_pos_right z (omega arith) in omega arith

pub cyclotomic-large : (m z : ℕ) → 2 ≤ m → m ≤ 36 → z < value (cyclotomic m) z
cyclotomic-large zero z a b = absurd (omega arith)
cyclotomic-large (suc zero) z a b = absurd (omega arith)
cyclotomic-large (suc (suc i)) z a b =
    is_large-value (cyclotomic (suc (suc i))) z
    (all_at 35 (λ i. is_large (cyclotomic (suc (suc i)))) all_large i (omega arith))

-- the products of the values
module _ (z : ℕ) where
  abbrev P : AddCommMonoidOn ℕ
  P = products naturals

  abbrev at : ℕ → ℕ
  at i = value (cyclotomic (suc i)) z

  -- the value at the divisor i + 1 of m, and 1 at others
  abbrev factor : ℕ → ℕ → ℕ
  factor m i = cond (eqb (m % suc i) 0) (at i) 1

  value-divisor_product : (m k : ℕ) → value (divisor_product m k) z ≡ sum P k (factor m)
  value-divisor_product m zero = omega arith
  value-divisor_product m (suc k) = step (value-divisor_product m k) (eqb (m % suc k) 0)
    where
      step : value (divisor_product m k) z ≡ sum P k (factor m) → (b : Bool)
          → value (elim b [ true ↦ times (cyclotomic (suc k)) (divisor_product m k) | false ↦ divisor_product m k ]) z
          ≡ sum P k (factor m) * cond b (at k) 1
      step h true = value-times (cyclotomic (suc k)) (divisor_product m k) z ∙ ap (λ t. at k * t) h
          ∙ mul_comm (at k) (sum P k (factor m))
      step h false = h ∙ sym (mul-one (sum P k (factor m)))

  -- q^m − 1 is the product of the values at the divisors of m
  less-factors : (m : ℕ) → 1 ≤ m → m ≤ 36 → less m z ≡ sum P m (factor m)
  less-factors m a b = sym (value-power_less_one m z) ∙ ap (λ t. value t z) (sym (cyclotomic_table m a b))
      ∙ value-divisor_product m m

  -- the value at a divisor of m that does not divide d
  abbrev other : ℕ → ℕ → ℕ → ℕ
  other m d i = cond (eqb (d % suc i) 0) 1 (factor m i)

  factor-other : (m d i : ℕ) → d ∣ m → factor m i ≡ factor d i * other m d i
  factor-other m d i h = go (eqb (d % suc i) 0) refl
    where
      go : (b : Bool) → eqb (d % suc i) 0 ≡ b → factor m i ≡ cond b (at i) 1 * cond b 1 (factor m i)
      go true e =
          let v : suc i ∣ m = dvd_trans (suc i) (dvd_of_mod-eq-zero (suc i) (eqb-true (d % suc i) 0 e)) h in
          ap (λ b. cond b (at i) 1) (eq-eqb (m % suc i) 0 (mod-eq-zero_of_dvd (suc i) v)) ∙ sym (mul-one (at i))
      go false e = sym (one-mul (factor m i))

  factor-past : (d i : ℕ) → 0 < d → d ≤ i → factor d i ≡ 1
  factor-past d i p l =
      ap (λ b. cond b (at i) 1)
      (ne_eqb (d % suc i) 0 (λ e. let w : d % suc i ≡ d = mod-eq_of_lt (omega arith) in omega arith))

  -- past d there are no divisors of d
  factors-front : (d n : ℕ) → 0 < d → d ≤ n → sum P n (factor d) ≡ sum P d (factor d)
  factors-front d n p l =
      let k = n - d in
      let e : n ≡ d + k = omega arith in
      ap (λ t. sum P t (factor d)) e ∙ sum-split P d k (factor d)
      ∙ ap (λ t. sum P d (factor d) * t)
      (sum_eq_zero P k (λ i. factor d (d + i)) (λ i _. factor-past d (d + i) p (omega arith)))
      ∙ mul-one (sum P d (factor d))

  -- q^m − 1 with m proper divisors' share taken apart
  pub less-parts : (m d : ℕ) → 0 < d → d < m → m ≤ 36 → d ∣ m → (k : ℕ)
      × (less m z ≡ less d z * value (cyclotomic m) z * k)
  less-parts zero d p l b h = absurd (omega arith)
  less-parts (suc n) d p l b h = (
    sum P n (other (suc n) d),
    less-factors (suc n) (omega arith) b
        ∙ ap₂ (λ s t. s * t)
        (sum_congr P n (factor (suc n)) (λ i. factor d i * other (suc n) d i) (λ i _. factor-other (suc n) d i h)
        ∙ sum-add P n (factor d) (other (suc n) d)
        ∙ ap (λ t. t * sum P n (other (suc n) d))
        (factors-front d n p (omega arith) ∙ sym (less-factors d (omega arith) (omega arith))))
        (ap (λ b. cond b (at n) 1) (eq-eqb (suc n % suc n) 0 (mod_self (suc n))))
        ∙ mul_assoc (less d z) (sum P n (other (suc n) d)) (at n)
        ∙ ap (λ t. less d z * t) (mul_comm (sum P n (other (suc n) d)) (at n))
        ∙ sym (mul_assoc (less d z) (at n) (sum P n (other (suc n) d))),
  )

pub cyclotomic_values : (m z : ℕ) → 2 ≤ m → m ≤ 36 → CyclotomicValue m z
cyclotomic_values m z a b = record {
  large = cyclotomic-large m z a b;
  divides = λ d p l h.
      let k = less-parts z m d p l b h in
      subst₂ (λ s t. s * value (cyclotomic m) z ∣ t) (less-is d z) (sym k.1 ∙ less-is m z)
      (dvd-mul_right (less d z * value (cyclotomic m) z) k.0);
}
