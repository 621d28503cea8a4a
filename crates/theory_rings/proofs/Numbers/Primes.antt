-- Prime numbers: Euclid's lemma and its converse, the test by inverses, and powers of a prime.
use Rattle.std.specs.Prelude.{◌≡◌, ℕ, zero, suc, ◌-◌, ◌*◌, ◌/◌, ◌%◌, ◌^◌, ◌<◌, ◌≤◌, ◌⊎◌}
use Rattle.std.specs.Int.{◌∣◌}
use Rattle.std.proofs.Common.{refl, sym, ◌∙◌, ap, subst, subst₂, arith, inl, inr, ⊎_elim, mul_comm, add-mul, mul-one}
use Rattle.std.proofs.Common.{one-mul}
use Rattle.std.proofs.lemmas.Bool.{cases_lt}
use Rattle.std.proofs.lemmas.Nat.Gcd.{dvd_refl, dvd_antisymm, le_of_dvd, dvd_of_mod-eq-zero}
use Rattle.std.proofs.Math.Nat.{mul-sub, dvd-add, dvd-add_iff_right, dvd-mul_left, dvd-mul_right, pos_of_dvd_of_pos}
use Rattle.std.proofs.Math.Nat.{eq-one_of_dvd-one, mul-div_cancel', mul-mod_right, mod-mod_of_dvd, pow-zero, pow-suc}
use Rattle.std.proofs.Math.Nat.{pow-succ', mul-dvd-mul_left}
use Rattle.theory_rings.specs.Prime.{IsPrime}
use Rattle.theory_rings.proofs.Numbers.Divisibility.{dvd_or_not, dvd-sub_of_mod-eq, mod-eq_of_dvd-sub}
use Rattle.theory_rings.proofs.Numbers.ClosedSets.{IsClosed, common_divisor, IsClosed-mul, IsClosed-scaled}

-- a prime divides no smaller number but 0
pub IsPrime-not_dvd : (p : ℕ) → IsPrime p → (k : ℕ) → 0 < k → k < p → p ∣ k → ⊥
IsPrime-not_dvd p prime k h l d = let e = le_of_dvd h d in omega arith

-- with p a closed set holds 1, if it holds a number that p does not divide
pub IsPrime-one_mem : (p : ℕ) → IsPrime p → (S : ℕ → Type 0) → IsClosed S → S p → (a : ℕ) → S a → (p ∣ a → ⊥) → S 1
IsPrime-one_mem p prime S closed sp a sa n =
    let c = common_divisor S closed p a sp sa in
    ⊎_elim
    (λ (e : c.divisor ≡ 1). subst S e c.member)
    (λ (e : c.divisor ≡ p). absurd (n (subst (λ d. d ∣ a) e c.right)))
    (prime.divisors c.divisor c.left)

-- Euclid's lemma: a prime that divides a product divides a factor
pub IsPrime-dvd-mul : (p : ℕ) → IsPrime p → (a b : ℕ) → p ∣ a * b → (p ∣ a) ⊎ (p ∣ b)
IsPrime-dvd-mul p prime a b d = ⊎_elim
    (λ (h : p ∣ a). inl h)
    (λ (n : p ∣ a → ⊥). inr
    (subst (λ x. p ∣ x) (one-mul b) (IsPrime-one_mem p prime (λ x. p ∣ x * b) closed (dvd-mul_right p b) a d n)))
    (dvd_or_not p a)
  where
    closed : IsClosed (λ x. p ∣ x * b)
    closed = record {
      sums = λ x y sx sy. subst (λ z. p ∣ z) (sym (add-mul x y b)) (dvd-add p sx sy);
      differences = λ x y sx sy. (dvd-add_iff_right p sx).1 (subst (λ z. p ∣ z) (add-mul x y b) sy);
    }

-- its converse: from 2 on, what divides a factor of each product that it divides is prime
pub IsPrime_of_dvd-mul : (p : ℕ) → 2 ≤ p → ((a b : ℕ) → p ∣ a * b → (p ∣ a) ⊎ (p ∣ b)) → IsPrime p
IsPrime_of_dvd-mul p two_le euclid = record { two_le = two_le; divisors = divisors }
  where
    cancelled : (d : ℕ) → d * p ≡ p → d ≡ 1
    cancelled zero e = omega arith
    cancelled (suc zero) e = refl
    cancelled (suc (suc d)) e = omega arith

    divisors : (d : ℕ) → d ∣ p → (d ≡ 1) ⊎ (d ≡ p)
    divisors d h =
        let e : d * (p / d) ≡ p = mul-div_cancel' d h in
        ⊎_elim
        (λ (a : p ∣ d). inr (dvd_antisymm h a))
        (λ (a : p ∣ p / d).
        let b : p / d ∣ p = subst (λ n. p / d ∣ n) e (dvd-mul_left (p / d) d) in
        let c : p / d ≡ p = dvd_antisymm b a in
        inl (cancelled d (ap (λ n. d * n) (sym c) ∙ e)))
        (euclid d (p / d) (subst (λ n. p ∣ n) (sym e) (dvd_refl p)))

-- a number modulo which all but 0 have inverses is prime
pub IsPrime_of_inverses : (p : ℕ) → 2 ≤ p → ((a : ℕ) → 0 < a → a < p → (b : ℕ) × ((a * b) % p ≡ 1)) → IsPrime p
IsPrime_of_inverses p two_le inverse = record { two_le = two_le; divisors = divisors }
  where
    divisors : (d : ℕ) → d ∣ p → (d ≡ 1) ⊎ (d ≡ p)
    divisors d h =
        let pos : 0 < d = pos_of_dvd_of_pos h (omega arith) in
        let le : d ≤ p = le_of_dvd (omega arith) h in
        ⊎_elim
        (λ (l : d < p).
        let i = inverse d pos l in
        let e : 1 % d ≡ 0 = ap (λ n. n % d) (sym i.1) ∙ mod-mod_of_dvd d (d * i.0) h ∙ mul-mod_right d i.0 in
        inl (eq-one_of_dvd-one (dvd_of_mod-eq-zero d e)))
        (λ (l : p ≤ d). inr (omega arith))
        (cases_lt d p)

-- modulo a prime a factor that it does not divide can be taken off both sides
pub IsPrime-mul_mod_cancel : (p : ℕ) → IsPrime p → (a x y : ℕ) → (p ∣ a → ⊥) → (a * x) % p ≡ (a * y) % p → x % p ≡ y % p
IsPrime-mul_mod_cancel p prime a x y n e = mod-eq_of_dvd-sub p x y (side x y e) (side y x (sym e))
  where
    side : (u v : ℕ) → (a * u) % p ≡ (a * v) % p → p ∣ u - v
    side u v h = ⊎_elim
        (λ (d : p ∣ a). absurd (n d))
        (λ (d : p ∣ u - v). d)
        (IsPrime-dvd-mul p prime a (u - v)
        (subst (λ z. p ∣ z) (sym (mul-sub a u v)) (dvd-sub_of_mod-eq p (a * u) (a * v) h)))

apart-pow_mem : (p : ℕ) → IsPrime p → (i j : ℕ) (S : ℕ → Type 0) → IsClosed S → S (p ^ suc i) → S j → (p ∣ j → ⊥)
    → S (p ^ i)
apart-pow_mem p prime i j S closed sp sj n =
    let T : ℕ → Type 0 = λ x. S (p ^ i * x) in
    let tp : T p = subst S (pow-suc p i) sp in
    let tj : T j = subst S (mul_comm j (p ^ i)) (IsClosed-mul S closed j (p ^ i) sj) in
    subst S (mul-one (p ^ i)) (IsPrime-one_mem p prime T (IsClosed-scaled S closed (p ^ i)) tp j tj n)

-- with p ^ (i + 1) a closed set holds p ^ i, if it holds a number that p ^ (i + 1) does not divide
pub IsPrime-pow_mem : (p : ℕ) → IsPrime p → (i j : ℕ) (S : ℕ → Type 0) → IsClosed S → S (p ^ suc i) → S j
    → (p ^ suc i ∣ j → ⊥) → S (p ^ i)
IsPrime-pow_mem p prime zero j S closed sp sj n = ⊎_elim
    (λ (d : p ∣ j). let e : p ^ 1 ≡ p = pow-suc p 0 ∙ ap (λ x. x * p) (pow-zero p)
    ∙ one-mul p in absurd (n (subst (λ x. x ∣ j) (sym e) d)))
    (apart-pow_mem p prime zero j S closed sp sj)
    (dvd_or_not p j)
IsPrime-pow_mem p prime (suc i) j S closed sp sj n = ⊎_elim
    (λ (d : p ∣ j).
    let T : ℕ → Type 0 = λ x. S (p * x) in
    let k = j / p in
    let e : p * k ≡ j = mul-div_cancel' p d in
    let tp : T (p ^ suc i) = subst S (pow-succ' p (suc i)) sp in
    let tk : T k = subst S (sym e) sj in
    let m : p ^ suc i ∣ k
    → ⊥ = λ (h : p ^ suc i ∣ k).
    n (subst₂ (λ x y. x ∣ y) (sym (pow-succ' p (suc i))) e (mul-dvd-mul_left (p ^ suc i) p h)) in
    subst S (sym (pow-succ' p i)) (IsPrime-pow_mem p prime i k T (IsClosed-scaled S closed p) tp tk m))
    (apart-pow_mem p prime (suc i) j S closed sp sj)
    (dvd_or_not p j)
