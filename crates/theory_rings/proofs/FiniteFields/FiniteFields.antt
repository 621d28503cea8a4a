-- In a field of q elements the q-th power of each element is itself: multiplication by an element but 0 permutes the
-- others, so that their product stays the same.
use Rattle.std.specs.Prelude.{◌≡◌, ◌≢◌, ℕ, zero, suc, ◌/◌, ◌<◌, Bool, true, false, cond}
use Rattle.std.proofs.Common.{refl, sym, ◌∙◌, ap, ap₂, subst, arith, ⊎_elim}
use Rattle.std.proofs.Math.Nat.{div-mul_cancel}
use Rattle.theory_rings.specs.Ring.{AddCommMonoidOn, FieldOn}
use Rattle.theory_rings.specs.Sum.{sum}
use Rattle.theory_rings.specs.Power.{power}
use Rattle.theory_rings.specs.Enumerated.{Enumerated, PowerOfSize, RootByPower}
use Rattle.theory_rings.proofs.Rings.RingLaws.{mul-zero}
use Rattle.theory_rings.proofs.Rings.Semirings.{semiring, products}
use Rattle.theory_rings.proofs.Rings.Fields.{field_mul-ne-zero, mul_left_cancel}
use Rattle.theory_rings.proofs.Rings.ZeroTests.{is_zero-false, eq_zero_or}
use Rattle.theory_rings.proofs.Sums.Bump.{bump, bump-apart, bump-lt}
use Rattle.theory_rings.proofs.Sums.Sums.{sum_congr, sum-add, sum_take_out}
use Rattle.theory_rings.proofs.Sums.Reindex.{sum_reindex}
use Rattle.theory_rings.proofs.Powers.Powers.{power-zero, power-power, power_last}

module _ {K : Type 0} (F : FieldOn K) where
  infixl 70 ◌⊗◌
  open F use {ring, one, ◌⊗◌, inv}

  -- products are sums in the monoid of the products
  abbrev M : AddCommMonoidOn K
  M = products (semiring F.cring)

  product_ne_zero : (n : ℕ) (f : ℕ → K) → ((i : ℕ) → i < n → f i ≢ F.zero) → sum M n f ≢ F.zero
  product_ne_zero zero f h = F.one-nonzero
  product_ne_zero (suc n) f h =
      field_mul-ne-zero F (sum M n f) (f n) (product_ne_zero n f (λ i l. h i (omega arith))) (h n (omega arith))

  product_const : (n : ℕ) (a : K) → sum M n (λ _. a) ≡ power ring a n
  product_const zero a = refl
  product_const (suc n) a = ap (λ x. x ⊗ a) (product_const n a) ∙ sym (power_last ring a n)

  is_zero-mul : (a x : K) → a ≢ F.zero → F.is_zero (a ⊗ x) ≡ F.is_zero x
  is_zero-mul a x h = ⊎_elim
      (λ (e : x ≡ F.zero). ap F.is_zero (ap (λ u. a ⊗ u) e ∙ mul-zero ring a ∙ sym e))
      (λ (n : x ≢ F.zero). is_zero-false F.zero_test (a ⊗ x) (field_mul-ne-zero F a x h n)
      ∙ sym (is_zero-false F.zero_test x n))
      (eq_zero_or F.zero_test x)

  -- a, but 1 at x = 0
  abbrev or_one : K → K → K
  or_one x a = cond (F.is_zero x) one a

  or_one-mul : (a x : K) → a ≢ F.zero → or_one (a ⊗ x) (a ⊗ x) ≡ or_one x a ⊗ or_one x x
  or_one-mul a x h = ap (λ b. cond b one (a ⊗ x)) (is_zero-mul a x h) ∙ go (F.is_zero x)
    where
      go : (b : Bool) → cond b one (a ⊗ x) ≡ cond b one a ⊗ cond b one x
      go true = sym (F.one-mul one)
      go false = refl

  or_one-zero : (x a : K) → x ≡ F.zero → or_one x a ≡ one
  or_one-zero x a e = ap (λ b. cond b one a) (ap F.is_zero e ∙ F.is_zero-zero)

  or_one-nonzero : (x a : K) → x ≢ F.zero → or_one x a ≡ a
  or_one-nonzero x a n = ap (λ b. cond b one a) (is_zero-false F.zero_test x n)

  or_one_ne_zero : (x : K) → or_one x x ≢ F.zero
  or_one_ne_zero x = ⊎_elim
      (λ (e : x ≡ F.zero). λ z. F.one-nonzero (sym (or_one-zero x x e) ∙ z))
      (λ (n : x ≢ F.zero). λ z. n (sym (or_one-nonzero x x n) ∙ z))
      (eq_zero_or F.zero_test x)

  module _ (E : Enumerated K) where
    -- the product of all elements but 0
    abbrev all : K
    all = sum M E.size (λ i. or_one (E.member i) (E.member i))

    -- multiplication by a permutes them
    moved : (a : K) → a ≢ F.zero → sum M E.size (λ i. or_one (a ⊗ E.member i) (a ⊗ E.member i)) ≡ all
    moved a h =
        sum_congr M E.size (λ i. or_one (a ⊗ E.member i) (a ⊗ E.member i))
        (λ i. or_one (E.member (place i)) (E.member (place i)))
        (λ i l. ap (λ x. or_one x x) (sym (E.member-number (a ⊗ E.member i))))
        ∙ sum_reindex M E.size place (λ i. or_one (E.member i) (E.member i)) (λ i l. E.number-lt (a ⊗ E.member i)) apart
      where
        place : ℕ → ℕ
        place i = E.number (a ⊗ E.member i)

        apart : (i j : ℕ) → i < E.size → j < E.size → place i ≡ place j → i ≡ j
        apart i j li lj e =
            sym (E.number-member i li)
            ∙ ap E.number (mul_left_cancel F a (E.member i) (E.member j) h
            (sym (E.member-number (a ⊗ E.member i)) ∙ ap E.member e ∙ E.member-number (a ⊗ E.member j)))
            ∙ E.number-member j lj

    -- so the product of a, once for each of them, is 1
    factors : (a : K) → a ≢ F.zero → sum M E.size (λ i. or_one (E.member i) a) ≡ one
    factors a h = mul_left_cancel F all (sum M E.size (λ i. or_one (E.member i) a)) one
        (product_ne_zero E.size (λ i. or_one (E.member i) (E.member i)) (λ i l. or_one_ne_zero (E.member i)))
        (F.mul_comm all (sum M E.size (λ i. or_one (E.member i) a))
        ∙ sym (sum-add M E.size (λ i. or_one (E.member i) a) (λ i. or_one (E.member i) (E.member i)))
        ∙ sum_congr M E.size (λ i. or_one (E.member i) a ⊗ or_one (E.member i) (E.member i))
        (λ i. or_one (a ⊗ E.member i) (a ⊗ E.member i))
        (λ i l. sym (or_one-mul a (E.member i) h))
        ∙ moved a h ∙ sym (F.mul-one all))

    count_factors : (n : ℕ) (a : K) → E.size ≡ suc n → sum M (suc n) (λ i. or_one (E.member i) a) ≡ power ring a n
    count_factors n a e =
        sum_take_out M n origin (λ i. or_one (E.member i) a) (subst (λ k. origin < k) e (E.number-lt F.zero))
        ∙ ap₂ (λ x y. x ⊗ y) (or_one-zero (E.member origin) a (E.member-number F.zero))
        (sum_congr M n (λ i. or_one (E.member (bump origin i)) a) (λ _. a)
        (λ i l. or_one-nonzero (E.member (bump origin i)) a (other i l))
        ∙ product_const n a)
        ∙ F.one-mul (power ring a n)
      where
        origin : ℕ
        origin = E.number F.zero

        other : (i : ℕ) → i < n → E.member (bump origin i) ≢ F.zero
        other i l z = bump-apart origin i
            (sym (E.number-member (bump origin i) (subst (λ k. bump origin i < k) (sym e) (bump-lt origin i n l)))
            ∙ ap E.number z)

    size_suc : (n : ℕ) → E.size ≡ n → (k : ℕ) × (n ≡ suc k)
    size_suc zero e = absurd (let l = E.number-lt F.zero in omega arith)
    size_suc (suc k) e = (k, refl)

    -- the power to the number of elements
    pub power_size : PowerOfSize F E
    power_size a = let s = size_suc E.size refl in ⊎_elim
        (λ (z : a ≡ F.zero). ap (λ x. power ring x E.size) z ∙ power-zero ring E.size (let e = s.1 in omega arith)
        ∙ sym z)
        (λ (n : a ≢ F.zero).
        ap (power ring a) s.1 ∙ power_last ring a s.0
        ∙ ap (λ x. x ⊗ a) (sym (count_factors s.0 a s.1) ∙ ap (λ k. sum M k (λ i. or_one (E.member i) a)) (sym s.1)
        ∙ factors a n)
        ∙ F.one-mul a)
        (eq_zero_or F.zero_test a)

    pub root_by_power : RootByPower F E
    root_by_power p a d = power-power ring a (E.size / p) p ∙ ap (power ring a) (div-mul_cancel p d) ∙ power_size a
