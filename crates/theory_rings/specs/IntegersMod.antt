-- The integers modulo n: the numbers below n with the sum and the product modulo n are a commutative ring.
use Rattle.std.specs.Prelude.{◌≡◌, ℕ, ◌+◌, ◌-◌, ◌*◌, ◌%◌, ◌<◌, ◌≤◌, Bool, IsTrue, true, nat_lt, nat_eq, List}
use Rattle.std.specs.Prelude.{slice_index}
use Rattle.std.proofs.Common.{sym, ◌∙◌, ap, ap₂}
use Rattle.std.proofs.Math.Bool.{Bool-set}
use Rattle.std.proofs.Math.Nat as nat
use Rattle.std.proofs.lemmas.Bool.{ltb-true, lt-ltb}
use Rattle.std.proofs.lemmas.Nat.{mod_below, mul-mod_first, mul-mod_second}
use mathlib.Core.HLevel.{Σ_prop_path}
use Rattle.theory_rings.specs.Ring.{CommRingOn}
use Rattle.theory_rings.specs.Ops.{Ops, FieldLaws}

-- a number below n
abbrev pub Fin : ℕ → Type 0
Fin n = (a : ℕ) × IsTrue (nat_lt a n)

-- the operations as a program has them, where the inverses are in a table
abbrev pub mod_ops : ℕ → List ℕ → Ops ℕ
mod_ops n inverses = record {
  is_elem = λ a. nat_lt a n;
  is_zero = λ a. nat_eq a 0;
  zero = 0;
  one = 1;
  add = λ a b. (a + b) % n;
  neg = λ a. (n - a) % n;
  mul = λ a b. (a * b) % n;
  inv = λ a. slice_index inverses a;
}

-- the laws of the sum and the product modulo n
module _ (n : ℕ) where
  pub Fin-path : (a b : Fin n) → a.0 ≡ b.0 → a ≡ b
  Fin-path a b e = Σ_prop_path (λ x. Bool-set (nat_lt x n) true) {u = a} {v = b} e

  pub value-lt : (a : Fin n) → a.0 < n
  value-lt a = ltb-true a.0 n a.1

  pub add_assoc_mod : (a b c : ℕ) → ((a + b) % n + c) % n ≡ (a + (b + c) % n) % n
  add_assoc_mod a b c = nat.mod-add-mod (a + b) n c ∙ ap (λ x. x % n) (nat.add_assoc a b c)
      ∙ sym (nat.add-mod-mod a (b + c) n)

  pub add_comm_mod : (a b : ℕ) → (a + b) % n ≡ (b + a) % n
  add_comm_mod a b = ap (λ x. x % n) (nat.add_comm a b)

  pub zero-add_mod : (a : ℕ) → a < n → (0 + a) % n ≡ a
  zero-add_mod a h = ap (λ x. x % n) (nat.zero-add a) ∙ nat.mod-eq_of_lt h

  pub neg-add_mod : (a : ℕ) → a < n → ((n - a) % n + a) % n ≡ 0
  neg-add_mod a h = nat.mod-add-mod (n - a) n a ∙ ap (λ x. x % n) (nat.sub-add_cancel (nat.le_of_lt h)) ∙ nat.mod_self n

  pub add-neg_mod : (a : ℕ) → a < n → (a + (n - a) % n) % n ≡ 0
  add-neg_mod a h = add_comm_mod a ((n - a) % n) ∙ neg-add_mod a h

  pub mul_assoc_mod : (a b c : ℕ) → ((a * b) % n * c) % n ≡ (a * ((b * c) % n)) % n
  mul_assoc_mod a b c = mul-mod_first (a * b) c n ∙ ap (λ x. x % n) (nat.mul_assoc a b c)
      ∙ sym (mul-mod_second a (b * c) n)

  pub mul_comm_mod : (a b : ℕ) → (a * b) % n ≡ (b * a) % n
  mul_comm_mod a b = ap (λ x. x % n) (nat.mul_comm a b)

  pub one-mul_mod : (a : ℕ) → a < n → (1 * a) % n ≡ a
  one-mul_mod a h = ap (λ x. x % n) (nat.one-mul a) ∙ nat.mod-eq_of_lt h

  pub mul-one_mod : (a : ℕ) → a < n → (a * 1) % n ≡ a
  mul-one_mod a h = ap (λ x. x % n) (nat.mul-one a) ∙ nat.mod-eq_of_lt h

  pub mul-add_mod : (a b c : ℕ) → (a * ((b + c) % n)) % n ≡ ((a * b) % n + (a * c) % n) % n
  mul-add_mod a b c =
      mul-mod_second a (b + c) n ∙ ap (λ x. x % n) (nat.mul-add a b c)
      ∙ sym (nat.mod-add-mod (a * b) n ((a * c) % n) ∙ nat.add-mod-mod (a * b) (a * c) n)

  pub add-mul_mod : (a b c : ℕ) → ((a + b) % n * c) % n ≡ ((a * c) % n + (b * c) % n) % n
  add-mul_mod a b c = mul_comm_mod ((a + b) % n) c ∙ mul-add_mod c a b
      ∙ ap₂ (λ x y. (x + y) % n) (mul_comm_mod c a) (mul_comm_mod c b)

module _ (n : ℕ) (two_le : 2 ≤ n) where
  pub mod-elem : (a : ℕ) → IsTrue (nat_lt (a % n) n)
  mod-elem a = lt-ltb (a % n) n (mod_below a n (nat.lt_of_lt_of_le (nat.zero-lt-suc 1) two_le))

  pub zero-elem : IsTrue (nat_lt 0 n)
  zero-elem = lt-ltb 0 n (nat.lt_of_lt_of_le (nat.zero-lt-suc 1) two_le)

  pub one-elem : IsTrue (nat_lt 1 n)
  one-elem = lt-ltb 1 n (nat.lt_of_lt_of_le (nat.lt-suc_self 1) two_le)

  -- the residue of a number
  abbrev pub residue : ℕ → Fin n
  residue a = (a % n, mod-elem a)

  abbrev pub residue_is_zero : Fin n → Bool
  residue_is_zero a = nat_eq a.0 0

  -- the ring
  abbrev pub integers_mod : CommRingOn (Fin n)
  integers_mod =
      let K : Type 0 = Fin n in
      let same : (a b : K) → a.0 ≡ b.0 → a ≡ b = Fin-path n in
      let plus : K → K → K = λ a b. residue (a.0 + b.0) in
      let times : K → K → K = λ a b. residue (a.0 * b.0) in
      let minus : K → K = λ a. residue (n - a.0) in
      let nought : K = (0, zero-elem) in
      let unit : K = (1, one-elem) in
      record {
        ring = record {
          additive = record {
            monoid = record {
              zero = nought;
              ◌⊕◌ = plus;
              add_assoc = λ a b c. same (plus (plus a b) c) (plus a (plus b c)) (add_assoc_mod n a.0 b.0 c.0);
              add_comm = λ a b. same (plus a b) (plus b a) (add_comm_mod n a.0 b.0);
              zero-add = λ a. same (plus nought a) a (zero-add_mod n a.0 (value-lt n a));
            };
            neg = minus;
            neg-add = λ a. same (plus (minus a) a) nought (neg-add_mod n a.0 (value-lt n a));
          };
          one = unit;
          ◌⊗◌ = times;
          mul_assoc = λ a b c. same (times (times a b) c) (times a (times b c)) (mul_assoc_mod n a.0 b.0 c.0);
          one-mul = λ a. same (times unit a) a (one-mul_mod n a.0 (value-lt n a));
          mul-one = λ a. same (times a unit) a (mul-one_mod n a.0 (value-lt n a));
          mul-add = λ a b c. same (times a (plus b c)) (plus (times a b) (times a c)) (mul-add_mod n a.0 b.0 c.0);
          add-mul = λ a b c. same (times (plus a b) c) (plus (times a c) (times b c)) (add-mul_mod n a.0 b.0 c.0);
        };
        mul_comm = λ a b. same (times a b) (times b a) (mul_comm_mod n a.0 b.0);
      }

-- the operations of R are the sum and the product modulo n
pub record IsIntegersMod (n : ℕ) (R : CommRingOn (Fin n)) : Type 0 where
  pub zero : R.zero.0 ≡ 0
  pub one : R.one.0 ≡ 1
  pub add : (a b : Fin n) → (R.◌⊕◌ a b).0 ≡ (a.0 + b.0) % n
  pub mul : (a b : Fin n) → (R.◌⊗◌ a b).0 ≡ (a.0 * b.0) % n

-- the integers modulo n are a commutative ring
abbrev pub IntegersModLaw : Type 0
IntegersModLaw = (n : ℕ) → 2 ≤ n → (R : CommRingOn (Fin n)) × IsIntegersMod n R

-- entry a of the table is an inverse of a modulo n
pub record IsInverseTable (n : ℕ) (inverses : List ℕ) : Type 0 where
  pub below : (a : ℕ) → a < n → slice_index inverses a < n
  pub inverse : (a : ℕ) → 0 < a → a < n → (a * slice_index inverses a) % n ≡ 1

-- with such a table the integers modulo n are a field
abbrev pub FieldModLaw : Type 0
FieldModLaw = (n : ℕ) (inverses : List ℕ) → 2 ≤ n → IsInverseTable n inverses → FieldLaws (mod_ops n inverses)
