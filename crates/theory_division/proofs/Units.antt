-- The elements but 0 of a finite ring in which each has a left inverse are a group; counts in the ring and in the
-- group.
use Rattle.std.specs.Prelude.{◌≡◌, ℕ, suc, pred, ◌+◌, ◌<◌, ◌≤◌, Bool, true, false, not, ◌⊎◌}
use Rattle.std.proofs.Common.{refl, sym, ◌∙◌, ap, ap₂, arith, inl, inr, ⊎_elim}
use Rattle.std.proofs.Math.Bool.{Bool-set}
use Rattle.std.proofs.lemmas.Bool.{cases_lt, lt-ltb, le-ltb}
use mathlib.Core.HLevel.{Σ_prop_path}
use Rattle.theory_rings.specs.Ring.{RingOn}
use Rattle.theory_rings.specs.Sum.{sum}
use Rattle.theory_rings.specs.Naturals.{nat_monoid}
use Rattle.theory_rings.specs.Enumerated.{Enumerated}
use Rattle.theory_rings.proofs.Rings.RingLaws.{mul-zero, zero-mul}
use Rattle.theory_rings.proofs.Sums.Bump.{bump, bump-below, bump-above, bump-lt, bump-apart, unbump, bump-unbump}
use Rattle.theory_rings.proofs.Sums.Bump.{unbump-lt}
use Rattle.theory_rings.proofs.Sums.Sums.{sum_congr, sum_take_out}
use Rattle.theory_division.specs.Counting.{one_if, count, same}
use Rattle.theory_division.specs.Group.{GroupOn, commute, centralizer_order}
use Rattle.theory_division.specs.DivisionRing.{HasLeftInverses}
use Rattle.theory_division.proofs.Counts.{true_or_false, bool_iff, same-eq, eq-same, count_congr}

unbump-bump : (k i : ℕ) → unbump k (bump k i) ≡ i
unbump-bump k i = ⊎_elim
    (λ (l : i < k). ap (unbump k) (bump-below k i l) ∙ rw (lt-ltb i k l) refl)
    (λ (l : k ≤ i). ap (unbump k) (bump-above k i l) ∙ rw (le-ltb (suc i) k (omega arith)) (omega arith))
    (cases_lt i k)

module _ {D : Type 0} (R : RingOn D) (E : Enumerated D) (proper : R.one ≡ R.zero → ⊥)
    (inverse : HasLeftInverses R) where
  infixl 70 ◌⊗◌
  open R use {◌⊗◌}

  abbrev nonzero : D → Bool
  nonzero x = not (same E x R.zero)

  not_true : (b : Bool) → not b ≡ true → b ≡ true → ⊥
  not_true true h g = cc
  not_true false h g = cc

  not_false : (b : Bool) → (b ≡ true → ⊥) → not b ≡ true
  not_false true h = absurd (h refl)
  not_false false h = refl

  nonzero-ne : (x : D) → nonzero x ≡ true → x ≡ R.zero → ⊥
  nonzero-ne x h e = not_true (same E x R.zero) h (eq-same E x R.zero e)

  ne-nonzero : (x : D) → (x ≡ R.zero → ⊥) → nonzero x ≡ true
  ne-nonzero x h = not_false (same E x R.zero) (λ e. h (same-eq E x R.zero e))

  -- an element but 0
  abbrev pub Unit_of : Type 0
  Unit_of = (x : D) × (nonzero x ≡ true)

  unit_path : (u v : Unit_of) → u.0 ≡ v.0 → u ≡ v
  unit_path u v e = Σ_prop_path (λ x. Bool-set (nonzero x) true) e

  mul_ne : (x y : D) → (x ≡ R.zero → ⊥) → (y ≡ R.zero → ⊥) → x ⊗ y ≡ R.zero → ⊥
  mul_ne x y a b e =
      let i = inverse x a in
      b (sym (R.one-mul y) ∙ ap (λ z. z ⊗ y) (sym i.1) ∙ R.mul_assoc i.0 x y ∙ ap (λ z. i.0 ⊗ z) e ∙ mul-zero R i.0)

  inv_ne : (x y : D) → y ⊗ x ≡ R.one → y ≡ R.zero → ⊥
  inv_ne x y e z = proper (sym e ∙ ap (λ t. t ⊗ x) z ∙ zero-mul R x)

  one_unit : Unit_of
  one_unit = (R.one, ne-nonzero R.one proper)

  -- a nonzero element as a unit, and one in place of zero
  to_unit : (x : D) → (nonzero x ≡ true) ⊎ (nonzero x ≡ false) → Unit_of
  to_unit x s = ⊎_elim (λ (h : nonzero x ≡ true). let u : Unit_of = (x, h) in u) (λ (h : nonzero x ≡ false). one_unit) s

  to_unit-first : (x : D) (s : (nonzero x ≡ true) ⊎ (nonzero x ≡ false)) → nonzero x ≡ true → (to_unit x s).0 ≡ x
  unfolding to_unit
  to_unit-first x (inl a) h = refl
  to_unit-first x (inr b) h = cc

  abbrev unit_at : D → Unit_of
  unit_at x = to_unit x (true_or_false (nonzero x))

  unit_at-first : (x : D) → nonzero x ≡ true → (unit_at x).0 ≡ x
  unit_at-first x h = to_unit-first x (true_or_false (nonzero x)) h

  abbrev k : ℕ
  k = E.number R.zero

  size_suc : E.size ≡ suc (pred E.size)
  size_suc = let l = E.number-lt R.zero in omega arith

  bump_in : (i : ℕ) → i < pred E.size → bump k i < E.size
  bump_in i l = let a = bump-lt k i (pred E.size) l in let b = size_suc in omega arith

  bump_nonzero : (i : ℕ) → i < pred E.size → nonzero (E.member (bump k i)) ≡ true
  bump_nonzero i l = ne-nonzero (E.member (bump k i))
      (λ e. bump-apart k i (sym (E.number-member (bump k i) (bump_in i l)) ∙ ap E.number e))

  number_apart : (u : Unit_of) → E.number u.0 ≡ k → ⊥
  number_apart u e = nonzero-ne u.0 u.1 (sym (E.member-number u.0) ∙ ap E.member e ∙ E.member-number R.zero)

  pub units : GroupOn Unit_of
  unfolding one_unit ne-nonzero
  units = record {
    one = one_unit;
    ◌·◌ = λ u v. (u.0 ⊗ v.0, ne-nonzero (u.0 ⊗ v.0) (mul_ne u.0 v.0 (nonzero-ne u.0 u.1) (nonzero-ne v.0 v.1)));
    inv = λ u. let i = inverse u.0 (nonzero-ne u.0 u.1) in (i.0, ne-nonzero i.0 (inv_ne u.0 i.0 i.1));
    mul_assoc = λ a b c. unit_path _ _ (R.mul_assoc a.0 b.0 c.0);
    one-mul = λ a. unit_path _ _ (R.one-mul a.0);
    inv-mul = λ a. unit_path _ _ (inverse a.0 (nonzero-ne a.0 a.1)).1;
  }

  pub unit_members : Enumerated Unit_of
  unit_members = record {
    size = pred E.size;
    member = λ i. unit_at (E.member (bump k i));
    number = λ u. unbump k (E.number u.0);
    number-lt = λ u. unbump-lt (pred E.size) k (E.number u.0)
        (let l = E.number-lt R.zero in let s = size_suc in omega arith)
        (let l = E.number-lt u.0 in let s = size_suc in omega arith) (number_apart u);
    member-number = λ u. unit_path _ _ (
        let e : E.member (bump k (unbump k (E.number u.0))) ≡ u.0 =
        ap E.member (bump-unbump k (E.number u.0) (number_apart u)) ∙ E.member-number u.0 in
        unit_at-first (E.member (bump k (unbump k (E.number u.0)))) (ap nonzero e ∙ u.1) ∙ e);
    number-member = λ i l.
        ap (λ x. unbump k (E.number x)) (unit_at-first (E.member (bump k i)) (bump_nonzero i l))
        ∙ ap (unbump k) (E.number-member (bump k i) (bump_in i l)) ∙ unbump-bump k i;
  }

  pub units-size : suc unit_members.size ≡ E.size
  unfolding unit_members
  units-size = sym size_suc

  -- a count of all elements is one for zero and a count of units
  pub count_units : (P : D → Bool) → count E P ≡ one_if (P R.zero) + count unit_members (λ u. P u.0)
  unfolding unit_members
  count_units P =
      ap (λ n. sum nat_monoid n (λ i. one_if (P (E.member i)))) size_suc
      ∙ sum_take_out nat_monoid (pred E.size) k (λ i. one_if (P (E.member i)))
      (let l = E.number-lt R.zero in let s = size_suc in omega arith)
      ∙ ap₂ (λ a b. a + b) (ap (λ x. one_if (P x)) (E.member-number R.zero))
      (sum_congr nat_monoid (pred E.size) (λ i. one_if (P (E.member (bump k i))))
      (λ i. one_if (P (unit_at (E.member (bump k i))).0))
      (λ i l. ap (λ x. one_if (P x)) (sym (unit_at-first (E.member (bump k i)) (bump_nonzero i l)))))

  abbrev pub commutes : D → D → Bool
  commutes y x = same E (y ⊗ x) (x ⊗ y)

  units-mul : (u v : Unit_of) → (units.◌·◌ u v).0 ≡ u.0 ⊗ v.0
  unfolding units
  units-mul u v = refl

  -- the units that commute with u, counted with zero, are the elements that do
  pub count_centralizer : (u : Unit_of) → count E (λ y. commutes y u.0) ≡ suc (centralizer_order units unit_members u)
  count_centralizer u =
      count_units (λ y. commutes y u.0)
      ∙ ap₂ (λ a b. one_if a + b) (eq-same E (R.zero ⊗ u.0) (u.0 ⊗ R.zero) (zero-mul R u.0 ∙ sym (mul-zero R u.0)))
      (count_congr unit_members (λ g. commutes g.0 u.0) (λ g. commute units unit_members g u)
      (λ g. bool_iff (commutes g.0 u.0) (commute units unit_members g u)
      (λ e. eq-same unit_members (units.◌·◌ g u) (units.◌·◌ u g)
      (unit_path (units.◌·◌ g u) (units.◌·◌ u g)
      (units-mul g u ∙ same-eq E (g.0 ⊗ u.0) (u.0 ⊗ g.0) e ∙ sym (units-mul u g))))
      (λ e. eq-same E (g.0 ⊗ u.0) (u.0 ⊗ g.0)
      (sym (units-mul g u) ∙ ap (λ t. t.0) (same-eq unit_members (units.◌·◌ g u) (units.◌·◌ u g) e) ∙ units-mul u g))))
      ∙ omega arith
