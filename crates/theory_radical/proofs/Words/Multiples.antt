-- Multiples of a number, and congruence modulo a number, in a commutative monoid, a group and a ring.
use Rattle.std.specs.Prelude.{◌≡◌, ℕ, zero, suc, ◌+◌, ◌-◌, ◌*◌, ◌^◌, ◌<◌, ◌≤◌}
use Rattle.std.proofs.Common.{sym, ◌∙◌, ap, ap₂, subst, arith}
use Rattle.std.proofs.lemmas.Nat.{pow-add}
use Rattle.theory_rings.specs.Ring.{AddCommMonoidOn, AddCommGroupOn, RingOn}
use Rattle.theory_rings.specs.Sum.{sum}
use Rattle.theory_rings.specs.Power.{times}
use Rattle.theory_rings.proofs.Rings.RingLaws.{add-zero, add-neg, add_add_add_comm}
use Rattle.theory_rings.proofs.Powers.Times.{times-zero, times-add, times-neg, mul-times, times-mul_assoc}
use Rattle.theory_rings.proofs.Powers.Times.{mul-times_comm}
use Rattle.theory_radical.specs.Congruence.{MultipleOf, CongruentMod}

module _ {V : Type 0} (M : AddCommMonoidOn V) where
  infixl 65 ◌⊕◌
  open M use {◌⊕◌}

  module _ (n : ℕ) where
    pub multiple-zero : MultipleOf M n M.zero
    multiple-zero = record { part = M.zero; is = sym (times-zero M n) }

    pub multiple-add : (x y : V) → MultipleOf M n x → MultipleOf M n y → MultipleOf M n (x ⊕ y)
    multiple-add x y h g =
        record { part = h.part ⊕ g.part; is = ap₂ (λ a b. a ⊕ b) h.is g.is ∙ sym (times-add M n h.part g.part) }

    pub multiple-times : (k : ℕ) (x : V) → MultipleOf M n x → MultipleOf M (k * n) (times M k x)
    multiple-times k x h = record { part = h.part; is = ap (times M k) h.is ∙ sym (mul-times M k n h.part) }

    pub multiple_of_mul : (k : ℕ) (x : V) → MultipleOf M (n * k) x → MultipleOf M n x
    multiple_of_mul k x h = record { part = times M k h.part; is = h.is ∙ mul-times M n k h.part }

    pub multiple-sum : (m : ℕ) (f : ℕ → V) → ((i : ℕ) → i < m → MultipleOf M n (f i)) → MultipleOf M n (sum M m f)
    multiple-sum zero f h = multiple-zero
    multiple-sum (suc m) f h =
        multiple-add (sum M m f) (f m) (multiple-sum m f (λ i l. h i (omega arith))) (h m (omega arith))

    pub congruent_refl : (x : V) → CongruentMod M n x x
    congruent_refl x = record { part = M.zero; is = sym (ap (λ z. x ⊕ z) (times-zero M n) ∙ add-zero M x) }

    pub congruent_of_eq : (x y : V) → x ≡ y → CongruentMod M n x y
    congruent_of_eq x y e = subst (CongruentMod M n x) e (congruent_refl x)

    pub congruent_trans : (x y z : V) → CongruentMod M n x y → CongruentMod M n y z → CongruentMod M n x z
    congruent_trans x y z h g = record {
      part = g.part ⊕ h.part;
      is = h.is ∙ ap (λ a. a ⊕ times M n h.part) g.is ∙ M.add_assoc z (times M n g.part) (times M n h.part)
          ∙ ap (λ a. z ⊕ a) (sym (times-add M n g.part h.part));
    }

    pub congruent-add : (x y u v : V) → CongruentMod M n x y → CongruentMod M n u v → CongruentMod M n (x ⊕ u) (y ⊕ v)
    congruent-add x y u v h g = record {
      part = h.part ⊕ g.part;
      is = ap₂ (λ a b. a ⊕ b) h.is g.is ∙ add_add_add_comm M y (times M n h.part) v (times M n g.part)
          ∙ ap (λ a. (y ⊕ v) ⊕ a) (sym (times-add M n h.part g.part));
    }

    pub congruent-sum : (m : ℕ) (f g : ℕ → V) → ((i : ℕ) → i < m → CongruentMod M n (f i) (g i))
        → CongruentMod M n (sum M m f) (sum M m g)
    congruent-sum zero f g h = congruent_refl M.zero
    congruent-sum (suc m) f g h =
        congruent-add (sum M m f) (sum M m g) (f m) (g m) (congruent-sum m f g (λ i l. h i (omega arith)))
        (h m (omega arith))

    -- what is congruent to a multiple is one
    pub multiple_of_congruent : (x y : V) → CongruentMod M n x y → MultipleOf M n y → MultipleOf M n x
    multiple_of_congruent x y h m = record {
      part = m.part ⊕ h.part;
      is = h.is ∙ ap (λ a. a ⊕ times M n h.part) m.is ∙ sym (times-add M n m.part h.part);
    }

    pub congruent_zero : (x : V) → MultipleOf M n x → CongruentMod M n x M.zero
    congruent_zero x h = record { part = h.part; is = h.is ∙ sym (M.zero-add (times M n h.part)) }

  -- multiples of a power
  pub multiple-pow_times : (p i j : ℕ) (x : V) → MultipleOf M (p ^ j) x → MultipleOf M (p ^ (i + j)) (times M (p ^ i) x)
  multiple-pow_times p i j x h =
      subst (λ k. MultipleOf M k (times M (p ^ i) x)) (sym (pow-add p i j)) (multiple-times (p ^ j) (p ^ i) x h)

  pub multiple_of_pow_le : (p i j : ℕ) (x : V) → i ≤ j → MultipleOf M (p ^ j) x → MultipleOf M (p ^ i) x
  multiple_of_pow_le p i j x l h =
      let e : i + (j - i) ≡ j = omega arith in
      multiple_of_mul (p ^ i) (p ^ (j - i)) x
      (subst (λ k. MultipleOf M k x) (sym (ap (λ k. p ^ k) e) ∙ pow-add p i (j - i)) h)

pub congruent_sym : {V : Type 0} (G : AddCommGroupOn V) (n : ℕ) (x y : V) → CongruentMod G.monoid n x y
    → CongruentMod G.monoid n y x
congruent_sym G n x y h =
    let t = times G.monoid n h.part in
    record {
      part = G.neg h.part;
      is = sym (ap₂ G.◌⊕◌ h.is (times-neg G n h.part) ∙ G.add_assoc y t (G.neg t) ∙ ap (G.◌⊕◌ y) (add-neg G t)
          ∙ add-zero G.monoid y);
    }

module _ {K : Type 0} (R : RingOn K) (n : ℕ) where
  infixl 65 ◌⊕◌
  infixl 70 ◌⊗◌
  open R use {monoid, ◌⊕◌, ◌⊗◌}

  pub mul-multiple : (a x : K) → MultipleOf monoid n x → MultipleOf monoid n (a ⊗ x)
  mul-multiple a x h = record { part = a ⊗ h.part; is = ap (λ z. a ⊗ z) h.is ∙ mul-times_comm R n a h.part }

  pub congruent-mul : (x y u v : K) → CongruentMod monoid n x y → CongruentMod monoid n u v
      → CongruentMod monoid n (x ⊗ u) (y ⊗ v)
  congruent-mul x y u v h g = congruent_trans monoid n (x ⊗ u) (y ⊗ u) (y ⊗ v)
      (record {
        part = h.part ⊗ u;
        is = ap (λ z. z ⊗ u) h.is ∙ R.add-mul y (times monoid n h.part) u
            ∙ ap (λ z. (y ⊗ u) ⊕ z) (times-mul_assoc R n h.part u);
      })
      (record {
        part = y ⊗ g.part;
        is = ap (λ z. y ⊗ z) g.is ∙ R.mul-add y v (times monoid n g.part)
            ∙ ap (λ z. (y ⊗ v) ⊕ z) (mul-times_comm R n y g.part);
      })
