-- The residue field as a program has it, by operations on the lists of coefficients: it has p-th roots, and the lift
-- ring of lists of numbers.
use Rattle.std.specs.Prelude.{◌≡◌, ℕ, ◌*◌, ◌+◌, ◌%◌, ◌^◌, ◌<◌, ◌≤◌, List, length, get_or}
use Rattle.std.proofs.Common.{refl, sym, ◌∙◌, ap, ap₂}
use Rattle.theory_rings.specs.Ring.{FieldOn}
use Rattle.theory_rings.specs.Ops.{Ops, FieldLaws}
use Rattle.theory_rings.specs.Elements.{Elem, Elem-path, elements}
use Rattle.theory_rings.specs.Digits.{digit}
use Rattle.theory_rings.specs.Sum.{at}
use Rattle.theory_rings.specs.Homomorphism.{IsRingHom}
use Rattle.theory_rings.specs.FieldByDigits.{IsFieldByDigits}
use Rattle.theory_rings.specs.Polynomial.{Poly, degree}
use Rattle.theory_rings.specs.Remainder.{Remainder}
use Rattle.theory_rings.proofs.Powers.Powers.{map-power}
use Rattle.theory_rings.proofs.Polynomials.Bezout.{field_polynomials}
use Rattle.theory_rings.proofs.Polynomials.ElementLists.{at-values}
use Rattle.theory_rings.proofs.Polynomials.PolynomialRing.{is_polynomial_ring}
use Rattle.theory_rings.proofs.Polynomials.Remainders.{is_remainder_ring}
use Rattle.theory_radical.specs.LiftRing.{LiftRingOn, HasRoots}
use Rattle.theory_radical.specs.LiftLaws.{IsBijective}
use Rattle.theory_radical.proofs.Lifts.LiftRings.{isomorphic_lift_rings}
use Rattle.theory_remainders.specs.Irreducible.{IsIrreducible}
use Rattle.theory_remainders.specs.RemainderOps.{modulus_of, remainder_ops}
use Rattle.theory_remainders.proofs.RemainderField.{monic, Q, of_list, to_list, remainder_laws, is_remainder-to_list}
use Rattle.theory_remainders.proofs.RemainderField.{to_list-of_list, of_list-to_list, of_list-one}
use Rattle.theory_remainders.proofs.RemainderValues.{elem_of, of_elem}
use Rattle.theory_lifts.specs.DigitLift.{LiftList}
use Rattle.theory_lifts.proofs.ListLifts.{list_lift, is_lift_of_lists}
use Rattle.theory_lifts.proofs.ResidueRoots.{residue_roots}

module _ (o : Ops ℕ) (L : FieldLaws o) (m : List ℕ) (i : IsIrreducible o m) where
  abbrev F : FieldOn (Elem o)
  F = elements o L

  abbrev M : Poly F.cring
  M = modulus_of o L m

  abbrev K : FieldOn (Remainder F.cring M)
  K = Q o L m i

  abbrev ops : Ops (List ℕ)
  ops = remainder_ops o L m (monic o L m i)

  -- the field of the elements
  abbrev pub residue_elements : FieldOn (Elem ops)
  residue_elements = elements ops (remainder_laws o L m i)

  abbrev E : FieldOn (Elem ops)
  E = residue_elements

  -- the element with the coefficients of the remainder, and the other way round
  abbrev pub to_elem : Remainder F.cring M → Elem ops
  to_elem x = (to_list o L m i x, elem_of o L m i (to_list o L m i x) (is_remainder-to_list o L m i x))

  abbrev pub to_remainder : Elem ops → Remainder F.cring M
  to_remainder a = of_list o L m i a.0

  pub remainder-elem : (x : Remainder F.cring M) → to_remainder (to_elem x) ≡ x
  remainder-elem x = of_list-to_list o L m i x

  pub elem-remainder : (a : Elem ops) → to_elem (to_remainder a) ≡ a
  elem-remainder a = Elem-path ops (to_elem (to_remainder a)) a (to_list-of_list o L m i a.0 (of_elem o L m i a.0 a.1))

  pub elem_bijective : IsBijective to_elem
  elem_bijective = record {
    injective = λ x y e. sym (remainder-elem x) ∙ ap to_remainder e ∙ remainder-elem y;
    surjective = λ a. (to_remainder a, elem-remainder a);
  }

  -- they are homomorphisms
  pub remainder_hom : IsRingHom E.ring K.ring to_remainder
  unfolding remainder_ops
  remainder_hom = record {
    map-one = of_list-one o L m i;
    map-add = λ a b. of_list-to_list o L m i (K.◌⊕◌ (to_remainder a) (to_remainder b));
    map-mul = λ a b. of_list-to_list o L m i (K.◌⊗◌ (to_remainder a) (to_remainder b));
  }

  pub elem_hom : IsRingHom K.ring E.ring to_elem
  elem_hom = record {
    map-one = sym (elem-remainder (to_elem K.one)) ∙ ap to_elem (remainder-elem K.one ∙ sym remainder_hom.map-one)
        ∙ elem-remainder E.one;
    map-add = λ x y. ap to_elem (sym (remainder_hom.map-add (to_elem x) (to_elem y)
        ∙ ap₂ K.◌⊕◌ (remainder-elem x) (remainder-elem y)))
        ∙ elem-remainder (E.◌⊕◌ (to_elem x) (to_elem y));
    map-mul = λ x y. ap to_elem (sym (remainder_hom.map-mul (to_elem x) (to_elem y)
        ∙ ap₂ K.◌⊗◌ (remainder-elem x) (remainder-elem y)))
        ∙ elem-remainder (E.◌⊗◌ (to_elem x) (to_elem y));
  }

  -- roots of elements, from those of remainders
  pub elem_roots : (p : ℕ) → HasRoots K.ring p → HasRoots E.ring p
  elem_roots p H = record {
    root = λ a. to_elem (H.root (to_remainder a));
    power-root = λ a. sym (map-power K.ring E.ring to_elem elem_hom.map-one elem_hom.map-mul
        (H.root (to_remainder a)) p)
        ∙ ap to_elem (H.power-root (to_remainder a)) ∙ elem-remainder a;
  }

  module _ (p : ℕ) (two_le : 2 ≤ p) (n : List ℕ) (d : 1 ≤ length n) (D : IsFieldByDigits p n o) where
    pub residue_elem_roots : HasRoots E.ring p
    residue_elem_roots = elem_roots p (residue_roots p two_le n d o D L M (monic o L m i) K)

    module _ (k : ℕ) (two_le_pow : 2 ≤ p ^ k) where
      abbrev base : LiftRingOn K p k (LiftList p n o L M k)
      base = list_lift p two_le n d o D L M (monic o L m i) (field_polynomials F)
          (is_polynomial_ring F.cring F.zero_test) K
          (is_remainder_ring F.cring F.zero_test M (monic o L m i)) k two_le_pow

      -- the lift ring of lists, over the field of the elements
      pub elem_lift : LiftRingOn E p k (LiftList p n o L M k)
      elem_lift = record {
        ring = base.ring;
        set = base.set;
        down = λ w. to_elem (base.down w);
        is_lift = isomorphic_lift_rings K.cring base.ring E.cring base.ring p k base.down base.is_lift
            (to_elem) (elem_hom) (elem_bijective)
            (λ w. w) (record { map-one = refl; map-add = λ a b. refl; map-mul = λ a b. refl })
            (record { injective = λ a b e. e; surjective = λ y. (y, refl) });
      }

      pub elem_lift-ring : elem_lift.ring ≡ base.ring
      unfolding elem_lift
      elem_lift-ring = refl

      -- digit v of coefficient u of the residue of a list is its number u·d + v modulo p
      pub elem_lift-digit : (w : LiftList p n o L M k) (u v : ℕ) → u < degree M.0 → v < length n
          → digit p (at o (elem_lift.down w).0 u) v ≡ get_or w.0 (u * length n + v) 0 % p
      unfolding elem_lift
      elem_lift-digit w u v lu lv =
          let s = is_lift_of_lists p two_le n d o D L M (monic o L m i) (field_polynomials F)
          (is_polynomial_ring F.cring F.zero_test) K
          (is_remainder_ring F.cring F.zero_test M (monic o L m i)) k two_le_pow in
          ap (λ x. digit p x v) (at-values o L (base.down w).0.0 u) ∙ s.digit-down w u v lu lv
