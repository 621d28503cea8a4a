-- The powers with exponents p^i, p prime and p·1 = 0, of two elements that commute: their sum is the power of the sum.
-- The two lie in a commutative subring, of the elements that commute with all that commutes with both.
use Rattle.std.specs.Prelude.{◌≡◌, ℕ, ◌^◌}
use Rattle.std.proofs.Common.{refl, sym, ◌∙◌, ap, ap₂}
use mathlib.Core.HLevel.{Σ_prop_path}
use Rattle.theory_rings.specs.Ring.{RingOn, CommRingOn}
use Rattle.theory_rings.specs.Prime.{IsPrime}
use Rattle.theory_rings.specs.Power.{power, times}
use Rattle.theory_rings.proofs.Rings.RingLaws.{mul-zero, zero-mul, mul-neg, neg-mul}
use Rattle.theory_rings.proofs.Rings.Embedding.{RingEmbedding, embedded_ring}
use Rattle.theory_rings.proofs.Sums.Sums.{map-sum}
use Rattle.theory_rings.proofs.Powers.Powers.{map-power}
use Rattle.theory_rings.proofs.Powers.FrobeniusMap.{frobenius_iterate-add}

module _ {V : Type 0} (R : RingOn V) (set : IsSet V) (a b : V) (comm : R.◌⊗◌ a b ≡ R.◌⊗◌ b a) where
  infixl 65 ◌⊕◌
  infixl 70 ◌⊗◌
  open R use {◌⊕◌, ◌⊗◌, neg}

  -- y commutes with a and b
  abbrev Commutes : V → Type 0
  Commutes y = (y ⊗ a ≡ a ⊗ y) × (y ⊗ b ≡ b ⊗ y)

  -- x commutes with each such y
  abbrev Inside : V → Type 0
  Inside x = (y : V) → Commutes y → x ⊗ y ≡ y ⊗ x

  abbrev Member : Type 0
  Member = (x : V) × Inside x

  inside_prop : (x : V) → IsProp (Inside x)
  inside_prop x = λ f g. λ i. λ y h. set (x ⊗ y) (y ⊗ x) (f y h) (g y h) i

  Member-path : (x y : Member) → x.0 ≡ y.0 → x ≡ y
  Member-path x y e = Σ_prop_path inside_prop {u = x} {v = y} e

  abbrev embedding : RingEmbedding Member R
  embedding = record {
    zero = (R.zero, λ y h. zero-mul R y ∙ sym (mul-zero R y));
    one = (R.one, λ y h. R.one-mul y ∙ sym (R.mul-one y));
    add = λ x z. (
      x.0 ⊕ z.0,
      λ y h. R.add-mul x.0 z.0 y ∙ ap₂ (λ u v. u ⊕ v) (x.1 y h) (z.1 y h)
          ∙ sym (R.mul-add y x.0 z.0),
    );
    neg = λ x. (neg x.0, λ y h. neg-mul R x.0 y ∙ ap neg (x.1 y h) ∙ sym (mul-neg R y x.0));
    mul = λ x z. (
      x.0 ⊗ z.0,
      λ y h. R.mul_assoc x.0 z.0 y ∙ ap (λ w. x.0 ⊗ w) (z.1 y h) ∙ sym (R.mul_assoc x.0 y z.0)
          ∙ ap (λ w. w ⊗ z.0) (x.1 y h) ∙ R.mul_assoc y x.0 z.0,
    );
    map = λ x. x.0;
    injective = Member-path;
    map-zero = refl;
    map-one = refl;
    map-add = λ x z. refl;
    map-neg = λ x. refl;
    map-mul = λ x z. refl;
  }

  -- a member commutes with both, so with each member
  abbrev members : CommRingOn Member
  members = record {
    ring = embedded_ring R embedding;
    mul_comm = λ x z. Member-path (embedding.mul x z) (embedding.mul z x)
        (x.1 z.0 (z.1 a (refl, comm), z.1 b (sym comm, refl)));
  }

  module _ (p : ℕ) (prime : IsPrime p) (char : times R.monoid p R.one ≡ R.zero) where
    members_char : times members.monoid p members.one ≡ members.zero
    members_char = Member-path (times members.monoid p members.one) members.zero
        (map-sum members.monoid R.monoid (λ x. x.0) refl (λ x z. refl) p (λ _. members.one) ∙ char)

    pub add-power_of_commute : (i : ℕ) → power R (a ⊕ b) (p ^ i) ≡ power R a (p ^ i) ⊕ power R b (p ^ i)
    add-power_of_commute i =
        let x : Member = (a, λ y h. sym h.0) in
        let z : Member = (b, λ y h. sym h.1) in
        let down : (w : Member) → (power members.ring w (p ^ i)).0 ≡ power R w.0 (p ^ i) = λ w.
        map-power members.ring R (λ v. v.0) refl (λ u v. refl) w (p ^ i) in
        sym (down (embedding.add x z)) ∙ ap (λ w. w.0) (frobenius_iterate-add members p prime members_char i x z)
        ∙ ap₂ (λ u v. u ⊕ v) (down x) (down z)
