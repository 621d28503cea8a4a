-- The remainders by an irreducible polynomial of degree d over a field of q elements, as lists: they are numbered, q^d
-- of them, and polynomials and constants are sent to them; where n·1 is 0 in the field, it is in theirs.
use Rattle.std.specs.Prelude.{◌≡◌, ℕ, ◌^◌, List}
use Rattle.std.proofs.Common.{sym, ◌∙◌, ap, ap₂}
use Rattle.theory_rings.specs.Ring.{FieldOn}
use Rattle.theory_rings.specs.Ops.{Ops, FieldLaws}
use Rattle.theory_rings.specs.Elements.{Elem, Elem-path, elements}
use Rattle.theory_rings.specs.Power.{times, times_of}
use Rattle.theory_rings.specs.Enumerated.{Enumerated}
use Rattle.theory_rings.specs.Homomorphism.{IsRingHom}
use Rattle.theory_rings.specs.Polynomial.{Poly, degree}
use Rattle.theory_rings.specs.Remainder.{Remainder}
use Rattle.theory_rings.proofs.Rings.Elements.{times_of-elements}
use Rattle.theory_rings.proofs.Rings.Homomorphisms.{map-zero, comp_hom}
use Rattle.theory_rings.proofs.Sums.Sums.{map-sum, sum_congr}
use Rattle.theory_rings.proofs.Polynomials.Bezout.{field_polynomials}
use Rattle.theory_rings.proofs.Polynomials.Constants.{constant_hom}
use Rattle.theory_rings.proofs.Polynomials.PolynomialRing.{constant}
use Rattle.theory_rings.proofs.Polynomials.Remainders.{remainder_hom}
use Rattle.theory_radical.proofs.Lifts.TowerFields.{remainder_numbers, size-remainder_numbers}
use Rattle.theory_remainders.specs.Irreducible.{IsIrreducible}
use Rattle.theory_remainders.specs.RemainderOps.{modulus_of, remainder_of, remainder_ops}
use Rattle.theory_remainders.proofs.IrreducibleLists.{degree-modulus}
use Rattle.theory_remainders.proofs.RemainderField.{monic, Q, of_list, to_list, is_remainder-to_list, of_list-to_list}
use Rattle.theory_remainders.proofs.RemainderField.{to_list-of_list, of_list-one, remainder_laws}
use Rattle.theory_remainders.proofs.RemainderValues.{elem_of, of_elem}

module _ {E : Type 0} (o : Ops E) (L : FieldLaws o) (m : List E) (i : IsIrreducible o m) where
  abbrev pub F : FieldOn (Elem o)
  F = elements o L

  abbrev pub R : Type 0
  R = Remainder F.cring (modulus_of o L m)

  abbrev pub K : FieldOn R
  K = Q o L m i

  abbrev ops : Ops (List E)
  ops = remainder_ops o L m (monic o L m i)

  abbrev laws : FieldLaws ops
  laws = remainder_laws o L m i

  abbrev pub D : FieldOn (Elem ops)
  D = elements ops laws

  -- a remainder as an element
  abbrev pub to_elem : R → Elem ops
  to_elem x = (to_list o L m i x, elem_of o L m i (to_list o L m i x) (is_remainder-to_list o L m i x))

  -- the elements are numbered as the remainders
  abbrev pub numbers : Enumerated (Elem o) → Enumerated (Elem ops)
  numbers N =
      let n = remainder_numbers F.cring F.zero_test (modulus_of o L m) (monic o L m i) N in
      record {
        size = n.size;
        member = λ j. to_elem (n.member j);
        number = λ a. n.number (of_list o L m i a.0);
        number-lt = λ a. n.number-lt (of_list o L m i a.0);
        member-number = λ a. Elem-path ops (to_elem (n.member (n.number (of_list o L m i a.0)))) a
            (ap (to_list o L m i) (n.member-number (of_list o L m i a.0))
            ∙ to_list-of_list o L m i a.0 (of_elem o L m i a.0 a.1));
        number-member = λ j l. ap n.number (of_list-to_list o L m i (n.member j)) ∙ n.number-member j l;
      }

  pub size-numbers : (N : Enumerated (Elem o)) → (let n = numbers N in n.size) ≡ N.size ^ degree m
  size-numbers N = size-remainder_numbers F.cring F.zero_test (modulus_of o L m) (monic o L m i) N
      ∙ ap (λ d. N.size ^ d) (degree-modulus o L m i)

  pub to_elem_hom : IsRingHom K.ring D.ring to_elem
  unfolding remainder_ops
  to_elem_hom = record {
    map-one = Elem-path ops (to_elem K.one) D.one
        (ap (to_list o L m i) (sym (of_list-one o L m i))
        ∙ to_list-of_list o L m i ops.one (of_elem o L m i ops.one laws.one-elem));
    map-add = λ x y. Elem-path ops (to_elem (K.◌⊕◌ x y)) (D.◌⊕◌ (to_elem x) (to_elem y))
        (ap₂ (λ a b. to_list o L m i (K.◌⊕◌ a b)) (sym (of_list-to_list o L m i x)) (sym (of_list-to_list o L m i y)));
    map-mul = λ x y. Elem-path ops (to_elem (K.◌⊗◌ x y)) (D.◌⊗◌ (to_elem x) (to_elem y))
        (ap₂ (λ a b. to_list o L m i (K.◌⊗◌ a b)) (sym (of_list-to_list o L m i x)) (sym (of_list-to_list o L m i y)));
  }

  -- a polynomial as an element
  abbrev pub of_poly : Poly F.cring → Elem ops
  of_poly a = to_elem (remainder_of o L m (monic o L m i) a)

  pub of_poly_hom : IsRingHom (let P = field_polynomials F in P.ring) D.ring of_poly
  of_poly_hom =
      let P = field_polynomials F in
      comp_hom P.ring K.ring D.ring (remainder_of o L m (monic o L m i)) to_elem
      (remainder_hom F.cring F.zero_test (modulus_of o L m) (monic o L m i)) to_elem_hom

  -- a constant as an element
  abbrev pub of_constant : Elem o → Elem ops
  of_constant c = of_poly (constant F.cring F.zero_test c)

  pub of_constant_hom : IsRingHom F.ring D.ring of_constant
  of_constant_hom =
      let P = field_polynomials F in
      comp_hom F.ring P.ring D.ring (constant F.cring F.zero_test) of_poly (constant_hom F.cring F.zero_test)
      of_poly_hom

  -- multiples of 1 that are 0 are 0
  pub times_one : (n : ℕ) → times_of o n o.one ≡ o.zero → times D.monoid n D.one ≡ D.zero
  times_one n e =
      let H = of_constant_hom in
      let zero = map-zero F.ring D.ring of_constant H in
      sum_congr D.monoid n (λ _. D.one) (λ _. of_constant F.one) (λ _ _. sym H.map-one)
      ∙ sym (map-sum F.monoid D.monoid of_constant zero H.map-add n (λ _. F.one))
      ∙ ap of_constant (Elem-path o (times F.monoid n F.one) F.zero (sym (times_of-elements o L n F.one) ∙ e))
      ∙ zero
