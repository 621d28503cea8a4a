-- Counts of the members of a finite set that pass a test, and searches in it.
use Rattle.std.specs.Prelude.{◌≡◌, ℕ, zero, suc, ◌+◌, ◌<◌, ◌≤◌, Bool, true, false, ◌&&◌, not, eqb, ◌⊎◌}
use Rattle.std.proofs.Common.{refl, sym, ◌∙◌, ap, subst, arith, inl, inr, ⊎_elim, mul-one}
use Rattle.std.proofs.Math.Bool.{true≢false}
use Rattle.std.proofs.lemmas.Bool.{cases_lt, eq-eqb, ne_eqb, eqb-true}
use Rattle.theory_rings.specs.Sum.{sum}
use Rattle.theory_rings.specs.Naturals.{nat_monoid}
use Rattle.theory_rings.specs.Enumerated.{Enumerated}
use Rattle.theory_rings.proofs.Sums.Sums.{sum_congr, sum-add, sum_comm, sum_eq_single, sum_eq_zero}
use Rattle.theory_rings.proofs.Sums.NaturalSums.{sum_const}
use Rattle.theory_rings.proofs.Sums.Reindex.{sum_reindex}
use Rattle.theory_division.specs.Counting.{one_if, count, same}

pub true_or_false : (b : Bool) → (b ≡ true) ⊎ (b ≡ false)
true_or_false true = inl refl
true_or_false false = inr refl

pub bool_iff : (b c : Bool) → (b ≡ true → c ≡ true) → (c ≡ true → b ≡ true) → b ≡ c
bool_iff true c f g = sym (f refl)
bool_iff false true f g = g refl
bool_iff false false f g = refl

pub and_true : (a b : Bool) → (a && b) ≡ true → (a ≡ true) × (b ≡ true)
and_true true b e = (refl, e)
and_true false b e = cc

pub one_if-pos : (b : Bool) → 0 < one_if b → b ≡ true
one_if-pos true h = refl
one_if-pos false h = absurd (omega arith)

one_if_le : (b : Bool) → one_if b ≤ 1
one_if_le true = omega arith
one_if_le false = omega arith

one_if-not : (b : Bool) → one_if b + one_if (not b) ≡ 1
one_if-not true = refl
one_if-not false = refl

pub sum_ones : (n : ℕ) (f : ℕ → ℕ) → ((i : ℕ) → i < n → f i ≡ 1) → sum nat_monoid n f ≡ n
sum_ones n f h = sum_congr nat_monoid n f (λ _. 1) h ∙ sum_const n 1 ∙ mul-one n

sum_one_if_le : (n : ℕ) (p : ℕ → Bool) → sum nat_monoid n (λ i. one_if (p i)) ≤ n
sum_one_if_le zero p = omega arith
sum_one_if_le (suc n) p = let a = sum_one_if_le n p in let b = one_if_le (p n) in omega arith

-- where as many pass as there are, each passes
all_of_sum : (n : ℕ) (p : ℕ → Bool) → sum nat_monoid n (λ i. one_if (p i)) ≡ n → (i : ℕ) → i < n → p i ≡ true
all_of_sum zero p e i l = absurd (omega arith)
all_of_sum (suc n) p e i l =
    let a = sum_one_if_le n p in
    let b = one_if_le (p n) in
    let t : p n ≡ true = one_if-pos (p n) (omega arith) in
    ⊎_elim (λ (h : i < n). all_of_sum n p (omega arith) i h)
    (λ (h : n ≤ i). let w : i ≡ n = omega arith in ap p w ∙ t) (cases_lt i n)

-- a number below n that passes, or none
find : (n : ℕ) (P : ℕ → Type 0) → ((i : ℕ) → i < n → P i ⊎ (P i → ⊥)) → ((i : ℕ) × (i < n) × P i)
    ⊎ ((i : ℕ) → i < n → P i → ⊥)
find zero P d = inr (λ i l. absurd (omega arith))
find (suc n) P d = ⊎_elim
    (λ (r : (i : ℕ) × (i < n) × P i). inl (r.0, (let w = r.1 in omega arith), r.2))
    (λ (r : (i : ℕ) → i < n → P i → ⊥). ⊎_elim
    (λ (h : P n). inl (n, omega arith, h))
    (λ (h : P n → ⊥). inr
    (λ i l p. ⊎_elim (λ (a : i < n). r i a p) (λ (a : n ≤ i). let w : i ≡ n = omega arith in h (subst P w p))
    (cases_lt i n)))
    (d n (omega arith)))
    (find n P (λ i l. d i (omega arith)))

-- the members that pass a test are f 0, .., f (n − 1), each once
pub record Lists {X : Type 0} (P : X → Bool) (n : ℕ) (f : ℕ → X) : Type 0 where
  pub apart : (t u : ℕ) → t < n → u < n → f t ≡ f u → t ≡ u
  pub passes : (t : ℕ) → t < n → P (f t) ≡ true
  pub whole : (x : X) → P x ≡ true → (t : ℕ) × (t < n) × (f t ≡ x)

module _ {X : Type 0} (E : Enumerated X) where
  pub same-eq : (x y : X) → same E x y ≡ true → x ≡ y
  same-eq x y e = sym (E.member-number x) ∙ ap E.member (eqb-true (E.number x) (E.number y) e) ∙ E.member-number y

  pub eq-same : (x y : X) → x ≡ y → same E x y ≡ true
  eq-same x y e = eq-eqb (E.number x) (E.number y) (ap E.number e)

  pub equal_or_not : (x y : X) → (x ≡ y) ⊎ (x ≡ y → ⊥)
  equal_or_not x y = ⊎_elim
      (λ (e : same E x y ≡ true). inl (same-eq x y e))
      (λ (e : same E x y ≡ false). inr (λ q. true≢false (sym (eq-same x y q) ∙ e)))
      (true_or_false (same E x y))

  -- a member that passes, or none
  pub search_all : (P : X → Type 0) → ((x : X) → P x ⊎ (P x → ⊥)) → ((x : X) × P x) ⊎ ((x : X) → P x → ⊥)
  search_all P d = ⊎_elim
      (λ (r : (i : ℕ) × (i < E.size) × P (E.member i)). inl (E.member r.0, r.2))
      (λ (r : (i : ℕ) → i < E.size → P (E.member i) → ⊥). inr
      (λ x p. r (E.number x) (E.number-lt x) (subst P (sym (E.member-number x)) p)))
      (find E.size (λ i. P (E.member i)) (λ i l. d (E.member i)))

  pub count_congr : (P Q : X → Bool) → ((x : X) → P x ≡ Q x) → count E P ≡ count E Q
  count_congr P Q h = sum_congr nat_monoid E.size (λ i. one_if (P (E.member i))) (λ i. one_if (Q (E.member i)))
      (λ i l. ap one_if (h (E.member i)))

  pub count_all : (P : X → Bool) → ((x : X) → P x ≡ true) → count E P ≡ E.size
  count_all P h = sum_ones E.size (λ i. one_if (P (E.member i))) (λ i l. ap one_if (h (E.member i)))

  pub all_of_count : (P : X → Bool) → count E P ≡ E.size → (x : X) → P x ≡ true
  all_of_count P e x = ap P (sym (E.member-number x))
      ∙ all_of_sum E.size (λ i. P (E.member i)) e (E.number x) (E.number-lt x)

  -- those that pass and those that do not are all
  pub count-not : (P : X → Bool) → count E P + count E (λ x. not (P x)) ≡ E.size
  count-not P = sym (sum-add nat_monoid E.size (λ i. one_if (P (E.member i))) (λ i. one_if (not (P (E.member i)))))
      ∙ sum_ones E.size (λ i. one_if (P (E.member i)) + one_if (not (P (E.member i))))
      (λ i l. one_if-not (P (E.member i)))

  -- over all members in another order
  pub count_moved : (p q : X → X) → ((x : X) → q (p x) ≡ x) → (P : X → Bool) → count E (λ x. P (p x)) ≡ count E P
  count_moved p q back P =
      sum_congr nat_monoid E.size (λ i. one_if (P (p (E.member i))))
      (λ i. one_if (P (E.member (E.number (p (E.member i))))))
      (λ i l. ap (λ x. one_if (P x)) (sym (E.member-number (p (E.member i)))))
      ∙ sum_reindex nat_monoid E.size (λ i. E.number (p (E.member i))) (λ i. one_if (P (E.member i)))
      (λ i l. E.number-lt (p (E.member i)))
      (λ i j a b e. sym (E.number-member i a)
      ∙ ap E.number (sym (back (E.member i))
      ∙ ap q (sym (E.member-number (p (E.member i))) ∙ ap E.member e ∙ E.member-number (p (E.member j)))
      ∙ back (E.member j))
      ∙ E.number-member j b)

  -- one member is z
  pub count_same : (z : X) → count E (λ y. same E z y) ≡ 1
  count_same z =
      sum_eq_single nat_monoid E.size (E.number z) (λ i. one_if (same E z (E.member i))) (E.number-lt z)
      (λ i l d. ap one_if (ne_eqb (E.number z) (E.number (E.member i)) (λ e. d (sym (e ∙ E.number-member i l)))))
      ∙ ap one_if (eq-same z (E.member (E.number z)) (sym (E.member-number z)))

  -- as many pass as a list of those that pass has
  pub count_of_list : (P : X → Bool) (n : ℕ) (f : ℕ → X) → Lists P n f → count E P ≡ n
  count_of_list P n f L =
      sum_congr nat_monoid E.size (λ i. one_if (P (E.member i)))
      (λ i. sum nat_monoid n (λ t. one_if (eqb (E.number (f t)) i)))
      (λ i l. ⊎_elim (hit i l) (miss i l) (true_or_false (P (E.member i))))
      ∙ sum_comm nat_monoid E.size n (λ i t. one_if (eqb (E.number (f t)) i))
      ∙ sum_ones n (λ t. sum nat_monoid E.size (λ i. one_if (eqb (E.number (f t)) i)))
      (λ t l. sum_eq_single nat_monoid E.size (E.number (f t)) (λ i. one_if (eqb (E.number (f t)) i))
      (E.number-lt (f t))
      (λ i g d. ap one_if (ne_eqb (E.number (f t)) i (λ e. d (sym e))))
      ∙ ap one_if (eq-eqb (E.number (f t)) (E.number (f t)) refl))
    where
      at_number : (i t : ℕ) → i < E.size → E.number (f t) ≡ i → f t ≡ E.member i
      at_number i t l e = sym (E.member-number (f t)) ∙ ap E.member e

      hit : (i : ℕ) → i < E.size → P (E.member i) ≡ true
          → one_if (P (E.member i)) ≡ sum nat_monoid n (λ t. one_if (eqb (E.number (f t)) i))
      hit i l e =
          let w = L.whole (E.member i) e in
          ap one_if e
          ∙ sym (sum_eq_single nat_monoid n w.0 (λ t. one_if (eqb (E.number (f t)) i)) w.1
          (λ t g d. ap one_if (ne_eqb (E.number (f t)) i (λ q. d (L.apart t w.0 g w.1 (at_number i t l q ∙ sym w.2)))))
          ∙ ap one_if (eq-eqb (E.number (f w.0)) i (ap E.number w.2 ∙ E.number-member i l)))

      miss : (i : ℕ) → i < E.size → P (E.member i) ≡ false
          → one_if (P (E.member i)) ≡ sum nat_monoid n (λ t. one_if (eqb (E.number (f t)) i))
      miss i l e =
          ap one_if e
          ∙ sym (sum_eq_zero nat_monoid n (λ t. one_if (eqb (E.number (f t)) i))
          (λ t g. ap one_if (ne_eqb (E.number (f t)) i
          (λ q. true≢false (sym (L.passes t g) ∙ ap P (at_number i t l q) ∙ e)))))
