-- The residue of a number modulo n, which keeps sums and products; and the numbers below n as a field where each but 0
-- has an inverse.
use Rattle.std.specs.Prelude.{◌≡◌, ℕ, ◌+◌, ◌-◌, ◌*◌, ◌%◌, ◌<◌, ◌≤◌, List, slice_index}
use Rattle.std.proofs.Common.{refl, sym, ◌∙◌, arith}
use Rattle.std.proofs.Math.Nat.{mod-eq_of_lt, mod-add-mod, add-mod-mod}
use Rattle.std.proofs.lemmas.Bool.{ltb-true, lt-ltb, eqb-true, eq-eqb}
use Rattle.std.proofs.lemmas.Nat.{mul-mod}
use Rattle.theory_rings.specs.Ring.{ZeroTest}
use Rattle.theory_rings.specs.Ops.{FieldLaws}
use Rattle.theory_rings.specs.Sum.{sum}
use Rattle.theory_rings.specs.Naturals.{nat_monoid}
use Rattle.theory_rings.proofs.Sums.Sums.{map-sum}
use Rattle.theory_rings.specs.IntegersMod.{Fin, Fin-path, value-lt, residue, residue_is_zero, integers_mod}
use Rattle.theory_rings.specs.IntegersMod.{IntegersModLaw, FieldModLaw, IsInverseTable, mod_ops, mod-elem, zero-elem}
use Rattle.theory_rings.specs.IntegersMod.{one-elem, add_assoc_mod, add_comm_mod, zero-add_mod, neg-add_mod}
use Rattle.theory_rings.specs.IntegersMod.{mul_assoc_mod, mul_comm_mod, one-mul_mod, mul-add_mod}

module _ (n : ℕ) (two_le : 2 ≤ n) where
  infixl 65 ◌⊕◌
  infixl 70 ◌⊗◌
  open integers_mod n two_le use {monoid, zero, one, ◌⊕◌, ◌⊗◌}

  pub residue_eq : (a b : ℕ) → a % n ≡ b % n → residue n two_le a ≡ residue n two_le b
  residue_eq a b e = Fin-path n (residue n two_le a) (residue n two_le b) e

  pub residue-value : (a : Fin n) → residue n two_le a.0 ≡ a
  residue-value a = Fin-path n (residue n two_le a.0) a (mod-eq_of_lt (value-lt n a))

  pub residue-zero : residue n two_le 0 ≡ zero
  residue-zero = residue-value zero

  pub residue-one : residue n two_le 1 ≡ one
  residue-one = residue-value one

  pub residue-add : (a b : ℕ) → residue n two_le (a + b) ≡ residue n two_le a ⊕ residue n two_le b
  residue-add a b = Fin-path n (residue n two_le (a + b)) (residue n two_le a ⊕ residue n two_le b)
      (sym (mod-add-mod a n (b % n) ∙ add-mod-mod a b n))

  pub residue-mul : (a b : ℕ) → residue n two_le (a * b) ≡ residue n two_le a ⊗ residue n two_le b
  residue-mul a b = Fin-path n (residue n two_le (a * b)) (residue n two_le a ⊗ residue n two_le b) (mul-mod a b n)

  pub residue-sum : (k : ℕ) (f : ℕ → ℕ)
      → residue n two_le (sum nat_monoid k f) ≡ sum monoid k (λ i. residue n two_le (f i))
  residue-sum = map-sum nat_monoid monoid (residue n two_le) residue-zero residue-add

  pub residue_zero_test : ZeroTest zero (residue_is_zero n two_le)
  residue_zero_test = record {
    is_zero-sound = λ a e. Fin-path n a zero (eqb-true a.0 0 e);
    is_zero-zero = eq-eqb 0 0 refl;
  }

  -- where a table has inverses modulo n, the numbers below n are a field
  pub mod_laws : (inverses : List ℕ) → IsInverseTable n inverses → FieldLaws (mod_ops n inverses)
  mod_laws inverses T = record {
    zero-elem = zero-elem n two_le;
    one-elem = one-elem n two_le;
    add-elem = λ a b _ _. mod-elem n two_le (a + b);
    neg-elem = λ a _. mod-elem n two_le (n - a);
    mul-elem = λ a b _ _. mod-elem n two_le (a * b);
    inv-elem = λ a h. lt-ltb (slice_index inverses a) n (T.below a (ltb-true a n h));
    add_assoc = λ a b c _ _ _. add_assoc_mod n a b c;
    add_comm = λ a b _ _. add_comm_mod n a b;
    zero-add = λ a h. zero-add_mod n a (ltb-true a n h);
    neg-add = λ a h. neg-add_mod n a (ltb-true a n h);
    mul_assoc = λ a b c _ _ _. mul_assoc_mod n a b c;
    mul_comm = λ a b _ _. mul_comm_mod n a b;
    one-mul = λ a h. one-mul_mod n a (ltb-true a n h);
    mul-add = λ a b c _ _ _. mul-add_mod n a b c;
    is_zero-sound = λ a _ e. eqb-true a 0 e;
    is_zero-zero = eq-eqb 0 0 refl;
    one-nonzero = λ e. omega arith;
    inv-mul = λ a h k. mul_comm_mod n (slice_index inverses a) a ∙ T.inverse a (positive a k) (ltb-true a n h);
  }
    where
      positive : (a : ℕ) → (a ≡ 0 → ⊥) → 0 < a
      positive a k = omega arith

pub integers_mod_law : IntegersModLaw
integers_mod_law n two_le =
    (integers_mod n two_le, record { zero = refl; one = refl; add = λ a b. refl; mul = λ a b. refl })

pub field_mod_law : FieldModLaw
field_mod_law n inverses two_le T = mod_laws n two_le inverses T
