-- Where its moduli are irreducible, F_p[t]/(f)[x]/(g) is a finite field, in which each element has a p-th root.
use Rattle.std.specs.Prelude.{◌≡◌, ◌≢◌, ℕ, zero, suc, ◌/◌, ◌%◌, ◌^◌, ◌<◌, ◌≤◌, Bool, ◌⊎◌}
use Rattle.std.specs.Int.{◌∣◌}
use Rattle.std.proofs.Common.{refl, sym, ◌∙◌, ap, subst, arith, inl, inr, ⊎_elim}
use Rattle.std.proofs.lemmas.Bool.{cases_lt}
use Rattle.std.proofs.Math.Nat.{mod-eq_of_lt, mul_comm, dvd-mul_right, pow-succ'}
use Rattle.std.proofs.lemmas.Nat.{mul-mod_first}
use Rattle.std.proofs.lemmas.Nat.Gcd.{dvd_trans}
use Rattle.theory_rings.specs.Ring.{CommRingOn, FieldOn, ZeroTest}
use Rattle.theory_rings.specs.Power.{power}
use Rattle.theory_rings.specs.Prime.{IsPrime}
use Rattle.theory_rings.specs.Enumerated.{Enumerated}
use Rattle.theory_rings.specs.IntegersMod.{Fin, Fin-path, value-lt, residue, residue_is_zero, integers_mod}
use Rattle.theory_rings.specs.Polynomial.{Poly, coefficient, degree, IsMonic, IsPolynomialRing}
use Rattle.theory_rings.specs.Division.{IsIrreducible}
use Rattle.theory_rings.specs.Remainder.{Remainder, IsRemainderRing}
use Rattle.theory_rings.proofs.Numbers.IntegersMod.{residue-value, residue_zero_test}
use Rattle.theory_rings.proofs.Numbers.Fermat.{inverses_of_prime}
use Rattle.theory_rings.proofs.Polynomials.PolynomialRing.{polynomials, is_polynomial_ring}
use Rattle.theory_rings.proofs.Polynomials.Uniqueness.{polynomial_ring_unique}
use Rattle.theory_rings.proofs.Polynomials.Irreducible.{remainder_field}
use Rattle.theory_rings.proofs.FiniteFields.EnumeratedTuples.{tuple, tuple_injective, number_of_tuple}
use Rattle.theory_rings.proofs.FiniteFields.EnumeratedTuples.{number_of_tuple_lt, tuple-number_of_tuple}
use Rattle.theory_rings.proofs.FiniteFields.FiniteFields.{root_by_power}
use Rattle.theory_radical.specs.LiftRing.{HasRoots}
use Rattle.theory_radical.specs.Tower.{TowerElement, TowerMod, IsIrreducibleTower}
use Rattle.theory_rings.proofs.Polynomials.Remainders.{is_zero_remainder}
use Rattle.theory_rings.proofs.Polynomials.RemainderRings.{Remainder-ext, remainder-past, remainders_eq}
use Rattle.theory_rings.proofs.Polynomials.RemainderRings.{remainders_zero_test, small_remainder}
use Rattle.theory_rings.proofs.Polynomials.RemainderRings.{small_remainder-coefficient}
use Rattle.theory_radical.proofs.Lifts.RemainderLifts.{one-ne-zero_of_monic, degree-pos_of_nontrivial}

-- a number below p as a field element, where p is prime
module _ (p : ℕ) (prime : IsPrime p) where
  abbrev S : CommRingOn (Fin p)
  S = integers_mod p prime.two_le

  inverse_by : (a : Fin p) → (0 < a.0) ⊎ (a.0 ≤ 0) → Fin p
  inverse_by a (inl h) = residue p prime.two_le (inverses_of_prime p prime a.0 h (value-lt p a)).0
  inverse_by a (inr h) = S.zero

  inverse_by-mul : (a : Fin p) (d : (0 < a.0) ⊎ (a.0 ≤ 0)) → a ≢ S.zero → S.◌⊗◌ (inverse_by a d) a ≡ S.one
  unfolding inverse_by
  inverse_by-mul a (inl h) n =
      let i = inverses_of_prime p prime a.0 h (value-lt p a) in
      Fin-path p (S.◌⊗◌ (residue p prime.two_le i.0) a) S.one
      (mul-mod_first i.0 a.0 p ∙ ap (λ k. k % p) (mul_comm i.0 a.0) ∙ i.2)
  inverse_by-mul a (inr h) n = absurd (n (Fin-path p a S.zero (let e : a.0 ≡ 0 = omega arith in e)))

  -- the field of p elements
  abbrev prime_field : FieldOn (Fin p)
  prime_field = record {
    cring = S;
    inv = λ a. inverse_by a (cases_lt 0 a.0);
    is_zero = residue_is_zero p prime.two_le;
    zero_test = residue_zero_test p prime.two_le;
    one-nonzero = λ e. let h : 1 ≡ 0 = ap (λ (a : Fin p). a.0) e in absurd (omega arith);
    inv-mul = λ a n. inverse_by-mul a (cases_lt 0 a.0) n;
  }

-- the numbers below p, numbered by themselves
module _ (p : ℕ) (two_le : 2 ≤ p) where
  numbers : Enumerated (Fin p)
  numbers = record {
    size = p;
    member = residue p two_le;
    number = λ a. a.0;
    number-lt = value-lt p;
    member-number = residue-value p two_le;
    number-member = λ i l. mod-eq_of_lt l;
  }

  size-numbers : numbers.size ≡ p
  unfolding numbers
  size-numbers = refl

-- what a field has beside its ring
record FieldPart {K : Type 0} (C : CommRingOn K) : Type 0 where
  pub inv : K → K
  pub is_zero : K → Bool
  pub zero_test : ZeroTest C.zero is_zero
  pub one-nonzero : (C.one ≡ C.zero) → ⊥
  pub inv-mul : (a : K) → (a ≡ C.zero → ⊥) → C.◌⊗◌ (inv a) a ≡ C.one

abbrev field_with : {K : Type 0} (C : CommRingOn K) → FieldPart C → FieldOn K
field_with C f = record {
  cring = C;
  inv = f.inv;
  is_zero = f.is_zero;
  zero_test = f.zero_test;
  one-nonzero =
      f.one-nonzero;
  inv-mul = f.inv-mul;
}

field_part : {K : Type 0} (E : FieldOn K) (C : CommRingOn K) → E.cring ≡ C → FieldPart C
field_part E C e = subst FieldPart e
    (record {
      inv = E.inv;
      is_zero = E.is_zero;
      zero_test = E.zero_test;
      one-nonzero = E.one-nonzero;
      inv-mul =
          E.inv-mul;
    })

-- each ring of remainders by a monic irreducible polynomial over a field is one
remainder_part : {K : Type 0} (F : FieldOn K) (m : Poly F.cring) (monic : IsMonic F.cring m)
    (P : CommRingOn (Poly F.cring)) (I : IsPolynomialRing F.cring P)
    → IsIrreducible F.cring P m → (E : CommRingOn (Remainder F.cring m)) → IsRemainderRing F.cring m P E → FieldPart E
remainder_part F m monic P I irreducible E J =
    let same : P ≡ polynomials F.cring F.zero_test =
    polynomial_ring_unique F.cring F.zero_test P (polynomials F.cring F.zero_test) I
    (is_polynomial_ring F.cring F.zero_test) in
    let i : IsIrreducible F.cring (polynomials F.cring F.zero_test) m =
    subst (λ Q. IsIrreducible F.cring Q m) same irreducible in
    field_part (remainder_field F m monic i) E (remainders_eq F.cring F.zero_test m monic P I E J)

-- the remainders over a finite ring are numbered
module _ {K : Type 0} (R : CommRingOn K) {is_zero : K → Bool} (Z : ZeroTest R.zero is_zero) (m : Poly R)
    (monic : IsMonic R m) (E : Enumerated K) where
  abbrev d : ℕ
  d = degree m.0

  size-pos : 0 < E.size
  size-pos = let l = E.number-lt R.zero in omega arith

  abbrev numbered : ℕ → Remainder R m
  numbered t = small_remainder R Z m monic (tuple E t)

  abbrev number_of : Remainder R m → ℕ
  number_of a = number_of_tuple E d (coefficient R a.0)

  number_of-numbered : (t i : ℕ) → i < d → tuple E (number_of (numbered t)) i ≡ tuple E t i
  number_of-numbered t i l = tuple-number_of_tuple E size-pos d (coefficient R (numbered t).0) i l
      ∙ small_remainder-coefficient R Z m monic (tuple E t) i l

  numbered-number_of : (a : Remainder R m) → numbered (number_of a) ≡ a
  numbered-number_of a = Remainder-ext R Z m monic (numbered (number_of a)) a (λ k. ⊎_elim
      (λ (l : k < d). small_remainder-coefficient R Z m monic (tuple E (number_of a)) k l
      ∙ tuple-number_of_tuple E size-pos d (coefficient R a.0) k l)
      (λ (l : d ≤ k). remainder-past R m monic (numbered (number_of a)) k l ∙ sym (remainder-past R m monic a k l))
      (cases_lt k d))

  pub remainder_numbers : Enumerated (Remainder R m)
  remainder_numbers = record {
    size = E.size ^ d;
    member = numbered;
    number = number_of;
    number-lt = λ a. number_of_tuple_lt E size-pos d (coefficient R a.0);
    member-number = numbered-number_of;
    number-member = λ t l.
        tuple_injective E size-pos d (number_of (numbered t)) t
        (number_of_tuple_lt E size-pos d (coefficient R (numbered t).0)) l (number_of-numbered t);
  }

  pub size-remainder_numbers : remainder_numbers.size ≡ E.size ^ d
  unfolding remainder_numbers
  size-remainder_numbers = refl

pub dvd-pow : (a k : ℕ) → 1 ≤ k → a ∣ a ^ k
dvd-pow a zero h = absurd (omega arith)
dvd-pow a (suc k) h = subst (λ j. a ∣ j) (sym (pow-succ' a k)) (dvd-mul_right a (a ^ k))

module _ (p : ℕ) (prime : IsPrime p) (k : TowerMod p prime.two_le) (irreducible : IsIrreducibleTower k) where
  abbrev F0 : FieldOn (Fin p)
  F0 = prime_field p prime

  first_part : FieldPart k.first
  first_part = remainder_part F0 k.first_modulus k.first_monic k.first_polynomials k.first_polynomials_is
      irreducible.first k.first k.first_is

  abbrev F1 : FieldOn (Remainder F0.cring k.first_modulus)
  F1 = field_with k.first first_part

  second_part : FieldPart k.second
  second_part = remainder_part F1 k.second_modulus k.second_monic k.second_polynomials k.second_polynomials_is
      irreducible.second k.second k.second_is

  -- a field whose ring is that of the tower
  pub tower_is_field : (F : FieldOn (TowerElement k)) × (F.cring ≡ k.second)
  tower_is_field = (field_with k.second second_part, refl)

-- a field with the ring of a tower is finite
module _ (p : ℕ) (two_le : 2 ≤ p) (k : TowerMod p two_le) (F : FieldOn (TowerElement k))
    (same : F.cring ≡ k.second) where
  abbrev R : CommRingOn (Fin p)
  R = integers_mod p two_le

  abbrev Z : ZeroTest R.zero (residue_is_zero p two_le)
  Z = residue_zero_test p two_le

  abbrev Z1 : ZeroTest k.first.zero (is_zero_remainder R Z k.first_modulus k.first_monic)
  Z1 = remainders_zero_test R Z k.first_modulus k.first_monic k.first_polynomials k.first_polynomials_is k.first
      k.first_is

  abbrev E1 : Enumerated (Remainder R k.first_modulus)
  E1 = remainder_numbers R Z k.first_modulus k.first_monic (numbers p two_le)

  pub tower_numbers : Enumerated (TowerElement k)
  tower_numbers = remainder_numbers k.first Z1 k.second_modulus k.second_monic E1

  -- it has (p^d)^e elements, d and e the degrees of the moduli
  pub size-tower : tower_numbers.size ≡ (p ^ degree k.first_modulus.0) ^ degree k.second_modulus.0
  unfolding tower_numbers
  size-tower = size-remainder_numbers k.first Z1 k.second_modulus k.second_monic E1
      ∙ ap (λ j. j ^ degree k.second_modulus.0)
      (size-remainder_numbers R Z k.first_modulus k.first_monic (numbers p two_le)
      ∙ ap (λ j. j ^ degree k.first_modulus.0) (size-numbers p two_le))

  first_degree-pos : 1 ≤ degree k.first_modulus.0
  first_degree-pos = degree-pos_of_nontrivial R Z k.first_modulus k.first_monic k.first
      (one-ne-zero_of_monic k.first k.second_modulus k.second_monic)

  second_degree-pos : 1 ≤ degree k.second_modulus.0
  second_degree-pos = degree-pos_of_nontrivial k.first Z1 k.second_modulus k.second_monic F.cring F.one-nonzero

  dvd_size : p ∣ tower_numbers.size
  dvd_size =
      let q = p ^ degree k.first_modulus.0 in
      let a : p ∣ q = dvd-pow p (degree k.first_modulus.0) first_degree-pos in
      let b : q ∣ q ^ degree k.second_modulus.0 = dvd-pow q (degree k.second_modulus.0) second_degree-pos in
      subst (λ j. p ∣ j) (sym size-tower) (dvd_trans p a b)

  -- so each element has a p-th root
  pub tower_roots : HasRoots F.ring p
  tower_roots = record {
    root = λ a. power F.ring a (tower_numbers.size / p);
    power-root = λ a. root_by_power F tower_numbers p a dvd_size;
  }
