-- Commutative semirings, where there may be no negatives: the numbers are one, and so is each commutative ring.
use Rattle.std.specs.Prelude.{◌≡◌, ℕ, zero, suc, ◌*◌, ◌^◌}
use Rattle.std.proofs.Common.{refl, sym, ◌∙◌, ap, ap₂}
use Rattle.std.proofs.Math.Nat as nat
use Rattle.theory_rings.specs.Ring.{AddCommMonoidOn, CommRingOn}
use Rattle.theory_rings.specs.Naturals.{nat_monoid}
use Rattle.theory_rings.specs.Power.{power_by_ops, times}
use Rattle.theory_rings.specs.Sum.{sum}
use Rattle.theory_rings.proofs.Rings.RingLaws.{add_left_comm, mul-zero}
use Rattle.theory_rings.proofs.Sums.Sums.{map-sum}

pub record CommSemiringOn (K : Type 0) : Type 0 where
  infixl 65 ◌⊕◌
  infixl 70 ◌⊗◌
  pub monoid : AddCommMonoidOn K
  pub open monoid use {zero, ◌⊕◌, add_assoc, add_comm, zero-add}
  pub one : K
  pub ◌⊗◌ : K → K → K
  pub mul_assoc : (a b c : K) → (a ⊗ b) ⊗ c ≡ a ⊗ (b ⊗ c)
  pub mul_comm : (a b : K) → a ⊗ b ≡ b ⊗ a
  pub one-mul : (a : K) → one ⊗ a ≡ a
  pub mul-zero : (a : K) → a ⊗ zero ≡ zero
  pub mul-add : (a b c : K) → a ⊗ (b ⊕ c) ≡ (a ⊗ b) ⊕ (a ⊗ c)

abbrev pub semiring : {K : Type 0} → CommRingOn K → CommSemiringOn K
semiring C = record {
  monoid = C.monoid;
  one = C.one;
  ◌⊗◌ = C.◌⊗◌;
  mul_assoc = C.mul_assoc;
  mul_comm = C.mul_comm;
  one-mul = C.one-mul;
  mul-zero = mul-zero C.ring;
  mul-add = C.mul-add;
}

abbrev pub naturals : CommSemiringOn ℕ
naturals = record {
  monoid = nat_monoid;
  one = 1;
  ◌⊗◌ = ◌*◌;
  mul_assoc = nat.mul_assoc;
  mul_comm = nat.mul_comm;
  one-mul = nat.one-mul;
  mul-zero = nat.mul-zero;
  mul-add = nat.mul-add;
}

pub power-naturals : (x n : ℕ) → power_by_ops 1 ◌*◌ x n ≡ x ^ n
power-naturals x zero = sym (nat.pow-zero x)
power-naturals x (suc n) = ap (λ y. x * y) (power-naturals x n) ∙ sym (nat.pow-succ' x n)

module _ {K : Type 0} (S : CommSemiringOn K) where
  infixl 65 ◌⊕◌
  infixl 70 ◌⊗◌
  open S use {monoid, ◌⊕◌, ◌⊗◌}

  abbrev pub power_in : K → ℕ → K
  power_in x n = power_by_ops S.one S.◌⊗◌ x n

  -- the products as a commutative monoid
  abbrev pub products : AddCommMonoidOn K
  products = record { zero = S.one; ◌⊕◌ = S.◌⊗◌; add_assoc = S.mul_assoc; add_comm = S.mul_comm; zero-add = S.one-mul }

  pub mul_left_comm : (a b c : K) → a ⊗ (b ⊗ c) ≡ b ⊗ (a ⊗ c)
  mul_left_comm = add_left_comm products

  pub add-mul : (a b c : K) → (a ⊕ b) ⊗ c ≡ (a ⊗ c) ⊕ (b ⊗ c)
  add-mul a b c = S.mul_comm (a ⊕ b) c ∙ S.mul-add c a b ∙ ap₂ (λ x y. x ⊕ y) (S.mul_comm c a) (S.mul_comm c b)

  pub mul-sum : (n : ℕ) (a : K) (f : ℕ → K) → a ⊗ sum monoid n f ≡ sum monoid n (λ i. a ⊗ f i)
  mul-sum n a f = map-sum monoid monoid (λ x. a ⊗ x) (S.mul-zero a) (S.mul-add a) n f

  pub mul-times_comm : (n : ℕ) (a x : K) → a ⊗ times monoid n x ≡ times monoid n (a ⊗ x)
  mul-times_comm n a x = mul-sum n a (λ _. x)

  pub power_in-one : (n : ℕ) → power_in S.one n ≡ S.one
  power_in-one zero = refl
  power_in-one (suc n) = S.one-mul (power_in S.one n) ∙ power_in-one n
