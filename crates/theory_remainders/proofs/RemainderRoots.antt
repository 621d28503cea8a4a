-- The remainders by an irreducible polynomial over a field of q elements are a finite field: roots are powers.
use Rattle.std.specs.Prelude.{◌≡◌, ℕ, suc, ◌*◌, ◌^◌, List}
use Rattle.std.proofs.Common.{sym, ◌∙◌, ap, ap₂}
use Rattle.std.proofs.Math.Nat.{pow-zero, pow-suc, mul_assoc}
use Rattle.theory_rings.specs.Ring.{FieldOn}
use Rattle.theory_rings.specs.Ops.{Ops, FieldLaws}
use Rattle.theory_rings.specs.Elements.{Elem, elements}
use Rattle.theory_rings.specs.Power.{power, power_of}
use Rattle.theory_rings.specs.Enumerated.{Enumerated}
use Rattle.theory_rings.specs.Polynomial.{Poly, degree}
use Rattle.theory_rings.specs.Remainder.{Remainder}
use Rattle.theory_rings.proofs.FiniteFields.FiniteFields.{power_size}
use Rattle.theory_radical.proofs.Lifts.TowerFields.{remainder_numbers, size-remainder_numbers}
use Rattle.theory_remainders.specs.Irreducible.{IsIrreducible}
use Rattle.theory_remainders.specs.RemainderLaws.{IsRemainder, IsRemainderOf}
use Rattle.theory_remainders.specs.RemainderOps.{modulus_of, remainder_ops}
use Rattle.theory_remainders.proofs.IrreducibleLists.{degree-modulus}
use Rattle.theory_remainders.proofs.RemainderField.{monic, Q, of_list, of_list_injective, remainder_laws}
use Rattle.theory_remainders.proofs.RemainderValues.{of-power, is_power, power_of_power, power_is, elem_of}
use Rattle.theory_remainders.proofs.Divisions.{power_coefficients}

module _ {E : Type 0} (o : Ops E) (L : FieldLaws o) (m : List E) (i : IsIrreducible o m) (N : Enumerated (Elem o)) where
  abbrev F : FieldOn (Elem o)
  F = elements o L

  abbrev M : Poly F.cring
  M = modulus_of o L m

  abbrev K : FieldOn (Remainder F.cring M)
  K = Q o L m i

  abbrev ops : Ops (List E)
  ops = remainder_ops o L m (monic o L m i)

  abbrev numbers : Enumerated (Remainder F.cring M)
  numbers = remainder_numbers F.cring F.zero_test M (monic o L m i) N

  size-numbers : numbers.size ≡ N.size ^ degree m
  size-numbers = size-remainder_numbers F.cring F.zero_test M (monic o L m i) N
      ∙ ap (λ d. N.size ^ d) (degree-modulus o L m i)

  pub power_to_size : (a : List E) → IsRemainder o m a → power_of ops a (N.size ^ degree m) ≡ a
  power_to_size a ha = of_list_injective o L m i (power_of ops a (N.size ^ degree m)) a
      (is_power o L m i a (N.size ^ degree m) ha) ha
      (of-power o L m i a (N.size ^ degree m)
      ∙ ap (power K.ring (of_list o L m i a)) (sym size-numbers) ∙ power_size K numbers (of_list o L m i a))

  -- a power is a root
  pub root_by_power : (a : List E) (n p : ℕ) → IsRemainder o m a → n * p ≡ N.size ^ degree m
      → power_of ops (power_of ops a n) p ≡ a
  root_by_power a n p ha e = power_of_power o L m i a n p ha ∙ ap (power_of ops a) e ∙ power_to_size a ha

  -- a root by powers, q-th powers first: none are taken
  pub no_powers : (a w : List E) → IsRemainder o m a → w ≡ a → w ≡ power_of ops a (N.size ^ 0)
  no_powers a w ha e =
      e ∙ sym (ap (power_of ops a) (pow-zero N.size) ∙ first)
    where
      L' : FieldLaws ops
      L' = remainder_laws o L m i

      first : power_of ops a 1 ≡ a
      first = L'.mul_comm a ops.one (elem_of o L m i a ha) L'.one-elem ∙ L'.one-mul a (elem_of o L m i a ha)

  -- one more
  pub next_power : (a w v : List E) (n e : ℕ) → IsRemainder o m a → w ≡ power_of ops a (N.size ^ n)
      → e ≡ N.size → IsRemainder o m w → IsRemainder o m v
      → IsRemainderOf o (power_coefficients o L w e) m v
      → v ≡ power_of ops a (N.size ^ suc n)
  next_power a w v n e ha p s hw hv r =
      power_is o L m i w v e hw hv r ∙ ap₂ (power_of ops) p s ∙ power_of_power o L m i a (N.size ^ n) N.size ha
      ∙ ap (power_of ops a) (sym (pow-suc N.size n))

  -- the last, with exponent e and e · p = q
  pub root_of_powers : (a w v : List E) (n e p : ℕ) → IsRemainder o m a → w ≡ power_of ops a (N.size ^ n)
      → e * p ≡ N.size → suc n ≡ degree m → IsRemainder o m w → IsRemainder o m v
      → IsRemainderOf o (power_coefficients o L w e) m v
      → power_of ops v p ≡ a
  root_of_powers a w v n e p ha h s d hw hv r =
      ap (λ x. power_of ops x p) (power_is o L m i w v e hw hv r ∙ ap (λ x. power_of ops x e) h
      ∙ power_of_power o L m i a (N.size ^ n) e ha)
      ∙ root_by_power a (N.size ^ n * e) p ha
      (mul_assoc (N.size ^ n) e p ∙ ap (λ x. N.size ^ n * x) s ∙ sym (pow-suc N.size n)
      ∙ ap (λ x. N.size ^ x) d)
