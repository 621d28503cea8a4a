-- The lift ring of a residue field on lists, as a program has it: its operations by numbers, the list of the digits of
-- an element, and elements by their digits.
use Rattle.std.specs.Prelude.{◌≡◌, ℕ, zero, suc, ◌+◌, ◌-◌, ◌*◌, ◌/◌, ◌%◌, ◌^◌, ◌<◌, ◌≤◌, List, [], length, get_or}
use Rattle.std.proofs.Common.{sym, ◌∙◌, ap, ap₂, subst, arith, ⊎_elim}
use Rattle.std.proofs.Math.Nat as nat
use Rattle.std.proofs.Math.Nat.{mod-eq_of_lt, pow-suc}
use Rattle.std.proofs.lemmas.Bool.{cases_lt, lt-ltb}
use Rattle.std.proofs.lemmas.List.{get_or_past}
use Rattle.std.proofs.lemmas.Nat.{div-mul-add, mod-mul-add}
use Rattle.theory_rings.specs.Ring.{CommRingOn, FieldOn}
use Rattle.theory_rings.specs.Ops.{Ops, FieldLaws}
use Rattle.theory_rings.specs.Elements.{Elem, Elem-path, elements}
use Rattle.theory_rings.specs.Digits.{digit}
use Rattle.theory_rings.specs.Sum.{table, at}
use Rattle.theory_rings.specs.IntegersMod.{Fin, mod_ops}
use Rattle.theory_rings.specs.FieldByDigits.{IsFieldByDigits, modulus_coefficient}
use Rattle.theory_rings.specs.Polynomial.{Poly, coefficient, degree}
use Rattle.theory_rings.proofs.Numbers.Digits.{digit_injective, digit_lt, lt_pow_self}
use Rattle.theory_rings.proofs.FiniteFields.RingByDigits.{elem_lt}
use Rattle.theory_rings.proofs.Rings.Elements.{at-elem}
use Rattle.theory_rings.proofs.Polynomials.Bezout.{field_polynomials}
use Rattle.theory_rings.proofs.Polynomials.Degrees.{length-degree}
use Rattle.theory_rings.proofs.Polynomials.PolynomialRing.{IsTrimmed-injective, is_polynomial_ring}
use Rattle.theory_rings.proofs.Polynomials.Remainders.{is_remainder_ring}
use Rattle.theory_spaces.proofs.Tuples.Tuples.{IsTuple-is_tuple, IsTuple-table, at-table}
use Rattle.theory_spaces.proofs.Matrices.PairIndex.{pair-lt}
use Rattle.theory_radical.specs.LiftRing.{LiftRingOn}
use Rattle.theory_remainders.specs.Irreducible.{IsIrreducible}
use Rattle.theory_remainders.specs.RemainderLaws.{IsRemainder}
use Rattle.theory_remainders.specs.RemainderOps.{modulus_of, remainder_ops}
use Rattle.theory_remainders.proofs.RemainderField.{monic, Q, remainder_laws}
use Rattle.theory_remainders.proofs.RemainderValues.{of_elem}
use Rattle.theory_remainders.proofs.IrreducibleLists.{length-modulus, two_le_length}
use Rattle.theory_lifts.specs.DigitLift.{LiftList}
use Rattle.theory_lifts.proofs.DigitLifts.{has_digit_moduli}
use Rattle.theory_lifts.proofs.ListLifts.{lift_tower, list_lift-ring, height, width}
use Rattle.theory_lifts.proofs.ListProducts.{ListRing}
use Rattle.theory_lifts.proofs.ListRings.{list_ring_of}
use Rattle.theory_lifts.proofs.ElementLifts.{elem_lift, elem_lift-ring, elem_lift-digit}

pub two_le_power : (p l : ℕ) → 2 ≤ p → 2 ≤ p ^ suc l
two_le_power p zero h = let e = pow-suc p 0 in let z = nat.pow-zero p in
    let g : p ^ 1 ≡ 1 * p = e ∙ ap (λ x. x * p) z in omega arith
two_le_power p (suc l) h =
    let g = two_le_power p l h in
    let e = pow-suc p (suc l) in
    let k : 2 * 2 ≤ p ^ suc l * p = nat.mul-le-mul g h in
    omega arith

module _ (o : Ops ℕ) (L : FieldLaws o) (m : List ℕ) (i : IsIrreducible o m) (p : ℕ) (two_le : 2 ≤ p) (n : List ℕ)
    (d : 1 ≤ length n) (D : IsFieldByDigits p n o) where
  abbrev F : FieldOn (Elem o)
  F = elements o L

  abbrev M : Poly F.cring
  M = modulus_of o L m

  abbrev ops : Ops (List ℕ)
  ops = remainder_ops o L m (monic o L m i)

  -- the degree, and the number of digits
  abbrev pub E : ℕ
  E = degree M.0

  abbrev pub C : ℕ
  C = length n

  pub suc_degree : suc E ≡ length m
  suc_degree = let a = length-degree F.cring M ((monic o L m i).nonzero) in sym a ∙ length-modulus o L m i

  pub degree-eq : E ≡ suc (E - 1)
  degree-eq = let a = suc_degree in let b = two_le_length o L m i in omega arith

  pub digits-eq : C ≡ suc (C - 1)
  digits-eq = let a = d in omega arith

  remainder : (a : Elem ops) → IsRemainder o m a.0
  remainder a = of_elem o L m i a.0 a.1

  -- elements with the same digits
  pub elem-ext : (a b : Elem ops)
      → ((u v : ℕ) → u < E → v < C → digit p (at o a.0 u) v ≡ digit p (at o b.0 u) v) → a ≡ b
  elem-ext a b h = Elem-path ops a b (IsTrimmed-injective o.zero a.0 b.0 (remainder a).polynomial.trimmed
      (remainder b).polynomial.trimmed (λ u. ⊎_elim
      (λ (l : u < E). digit_injective p C (at o a.0 u) (at o b.0 u) (below a u) (below b u) (λ v lv. h u v l lv))
      (λ (l : E ≤ u). past a u l ∙ sym (past b u l)) (cases_lt u E)))
    where
      below : (a : Elem ops) (u : ℕ) → at o a.0 u < p ^ C
      below a u = elem_lt p two_le n d o D (at o a.0 u) (at-elem o L a.0 (remainder a).polynomial.over u)

      past : (a : Elem ops) (u : ℕ) → E ≤ u → at o a.0 u ≡ o.zero
      past a u l = get_or_past a.0 u o.zero (let s = (remainder a).smaller in let t = suc_degree in omega arith)

  module _ (k : ℕ) (two_le_pow : 2 ≤ p ^ k) where
    abbrev pub Lists : Type 0
    Lists = LiftList p n o L M k

    abbrev lift : LiftRingOn (elements ops (remainder_laws o L m i)) p k Lists
    lift = elem_lift o L m i p two_le n d D k two_le_pow

    -- the numbers that are the digits of the coefficients of a list
    pub digit_list : (List ℕ) → Lists
    digit_list a = (
      table (E * C) (λ t. digit p (at o a (t / C)) (t % C)),
      IsTuple-is_tuple (mod_ops (p ^ k) []) (E * C) (table (E * C) (λ t. digit p (at o a (t / C)) (t % C)))
          (IsTuple-table (mod_ops (p ^ k) []) (E * C) (λ t. digit p (at o a (t / C)) (t % C))
          (λ t _. lt-ltb (digit p (at o a (t / C)) (t % C)) (p ^ k) (small (at o a (t / C)) (t % C)))),
    )
      where
        small : (x v : ℕ) → digit p x v < p ^ k
        small x v = go k two_le_pow
          where
            go : (k : ℕ) → 2 ≤ p ^ k → digit p x v < p ^ k
            go zero h = absurd (let e = nat.pow-zero p in omega arith)
            go (suc k) h =
                let e = pow-suc p k in
                let g : 1 * p ≤ p ^ k * p = nat.mul-le-mul_right p (let h = lt_pow_self p k two_le in omega arith) in
                let a = digit_lt p (let t = two_le in omega arith) x v in
                omega arith

    pub digit_list-at : (a : List ℕ) (t : ℕ) → t < E * C
        → get_or (digit_list a).0 t 0 ≡ digit p (at o a (t / C)) (t % C)
    unfolding digit_list
    digit_list-at a t l = at-table (mod_ops (p ^ k) []) (E * C) (λ t. digit p (at o a (t / C)) (t % C)) t l

    -- it is a lift of an element
    pub digit_list-down : (a : Elem ops) → lift.down (digit_list a.0) ≡ a
    digit_list-down a = elem-ext (lift.down (digit_list a.0)) a (λ u v lu lv.
        elem_lift-digit o L m i p two_le n d D k two_le_pow (digit_list a.0) u v lu lv
        ∙ ap (λ x. x % p) (digit_list-at a.0 (u * C + v) (pair-lt E C u v lu lv)
        ∙ ap₂ (λ x y. digit p (at o a.0 x) y) (div-mul-add u C v lv) (mod-mul-add u C v lv))
        ∙ mod-eq_of_lt (digit_lt p (let t = two_le in omega arith) (at o a.0 u) v))

    -- an element whose digits are numbers modulo p is what they are lifts of
    pub down-digits : (y : Lists) (a : Elem ops)
        → ((u v : ℕ) → u < E → v < C → digit p (at o a.0 u) v ≡ get_or y.0 (u * C + v) 0 % p)
        → lift.down y ≡ a
    down-digits y a h = elem-ext (lift.down y) a (λ u v lu lv.
        elem_lift-digit o L m i p two_le n d D k two_le_pow y u v lu lv ∙ sym (h u v lu lv))

    -- the ring, by numbers
    abbrev pub HasNumbers : CommRingOn Lists → Type 0
    HasNumbers S = (H : ListRing (p ^ k) E C (E - 1) (C - 1) S)
        × ((v : ℕ) → H.back v ≡ (p ^ k - modulus_coefficient n v % p ^ k) % p ^ k)
        × ((u v : ℕ) → H.turn u v ≡ (p ^ k - digit p (coefficient F.cring M u).0 v % p ^ k) % p ^ k)

    pub lift_numbers : HasNumbers lift.ring
    lift_numbers =
        let T = lift_tower p two_le n d o D L M (monic o L m i) (field_polynomials F)
        (is_polynomial_ring F.cring F.zero_test) (Q o L m i)
        (is_remainder_ring F.cring F.zero_test M (monic o L m i)) k two_le_pow in
        let hT = height p two_le n d o D L M (monic o L m i) (field_polynomials F)
        (is_polynomial_ring F.cring F.zero_test) (Q o L m i)
        (is_remainder_ring F.cring F.zero_test M (monic o L m i)) k two_le_pow in
        let wT = width p two_le n d o D L M (monic o L m i) (field_polynomials F)
        (is_polynomial_ring F.cring F.zero_test) (Q o L m i)
        (is_remainder_ring F.cring F.zero_test M (monic o L m i)) k two_le_pow in
        let R = list_ring_of (p ^ k) two_le_pow T (E - 1) (C - 1) E C degree-eq digits-eq hT wT in
        let moduli = has_digit_moduli p two_le n d o D L k two_le_pow M (monic o L m i) in
        subst HasNumbers
        (sym (elem_lift-ring o L m i p two_le n d D k two_le_pow
        ∙ list_lift-ring p two_le n d o D L M (monic o L m i) (field_polynomials F)
        (is_polynomial_ring F.cring F.zero_test) (Q o L m i)
        (is_remainder_ring F.cring F.zero_test M (monic o L m i)) k two_le_pow)) (
          R.0,
          λ v. R.1 v ∙ ap (λ (x : Fin (p ^ k)). (p ^ k - x.0) % p ^ k) (moduli.first v),
          λ u v. R.2 u v ∙ ap (λ (x : Fin (p ^ k)). (p ^ k - x.0) % p ^ k) (moduli.second u v),
        )
