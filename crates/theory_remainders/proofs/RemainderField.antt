-- The remainders by an irreducible polynomial, as lists of coefficients, are a field: they are carried to the
-- remainders by its monic multiple and back.
use Rattle.std.specs.Prelude.{◌≡◌, true, false, List, [], ◌∷◌, length, nat_lt}
use Rattle.std.proofs.Common.{refl, sym, ◌∙◌, ap, arith}
use Rattle.std.proofs.lemmas.Bool.{and_from, and_parts, ltb-true, lt-ltb, both_ways}
use Rattle.std.proofs.lemmas.List.{length-map}
use Rattle.std.proofs.lemmas.List.Elements.{All-nil, All-cons}
use Rattle.theory_rings.specs.Ring.{FieldOn, CommRingOn}
use Rattle.theory_rings.specs.Ops.{Ops, IsElem, FieldLaws}
use Rattle.theory_rings.specs.Elements.{Elem, elements}
use Rattle.theory_rings.specs.Polynomial.{Poly, IsMonic}
use Rattle.theory_rings.specs.Remainder.{Remainder}
use Rattle.theory_rings.proofs.Rings.Embedding.{FieldEmbedding, embedded_field}
use Rattle.theory_rings.proofs.Polynomials.PolynomialRing.{is_empty}
use Rattle.theory_rings.proofs.Polynomials.Bezout.{field_polynomials}
use Rattle.theory_rings.proofs.Polynomials.ElementLists.{values}
use Rattle.theory_rings.proofs.Polynomials.Remainders.{remainder_of_small, remainder-small, remainders-zero}
use Rattle.theory_rings.proofs.Polynomials.Remainders.{remainders-one}
use Rattle.theory_rings.proofs.Polynomials.Irreducible.{remainder_field}
use Rattle.theory_fractions.specs.FractionOps.{polynomial_of, is_polynomial}
use Rattle.theory_fractions.proofs.FractionField.{polynomial_of-values, polynomial_of-nil, polynomial_of-one}
use Rattle.theory_fractions.proofs.ListPolynomials.{IsPolynomialList-values, is_polynomial-from}
use Rattle.theory_fractions.proofs.ListPolynomials.{is_polynomial-gives, values_back, length-polynomial_of}
use Rattle.theory_remainders.specs.Irreducible.{IsIrreducible}
use Rattle.theory_remainders.specs.RemainderLaws.{IsRemainder}
use Rattle.theory_remainders.specs.RemainderOps.{modulus_of, is_remainder, remainder_of, coefficients_of}
use Rattle.theory_remainders.specs.RemainderOps.{remainder_ops}
use Rattle.theory_remainders.proofs.IrreducibleLists.{modulus_monic, modulus_irreducible, length-modulus}
use Rattle.theory_remainders.proofs.IrreducibleLists.{two_le_length}

module _ {E : Type 0} (o : Ops E) (L : FieldLaws o) (m : List E) where
  abbrev F : FieldOn (Elem o)
  F = elements o L

  abbrev P : CommRingOn (Poly F.cring)
  P = field_polynomials F

  abbrev poly : List E → Poly F.cring
  poly = polynomial_of o L

  abbrev M : Poly F.cring
  M = modulus_of o L m

  -- the test is right
  pub test_of_remainder : (a : List E) → IsRemainder o m a → is_remainder o L m a ≡ true
  test_of_remainder a h =
      and_from (is_polynomial o L a) (nat_lt (length a) (length m))
      (is_polynomial-from o L a h.polynomial) (lt-ltb (length a) (length m) h.smaller)

  pub remainder_of_test : (a : List E) → is_remainder o L m a ≡ true → IsRemainder o m a
  remainder_of_test a h =
      let parts = and_parts (is_polynomial o L a) (nat_lt (length a) (length m)) h in
      let p = is_polynomial-gives o L a parts.0 in
      record {
        polynomial = record { over = p.over; trimmed = p.trimmed };
        smaller = ltb-true (length a) (length m) parts.1;
      }

  module _ (i : IsIrreducible o m) where
    abbrev pub monic : IsMonic F.cring M
    monic = modulus_monic o L m i

    -- the field of the remainders
    abbrev pub Q : FieldOn (Remainder F.cring M)
    Q = remainder_field F M monic (modulus_irreducible o L m i)

    abbrev pub of_list : List E → Remainder F.cring M
    of_list a = remainder_of o L m monic (poly a)

    abbrev pub to_list : Remainder F.cring M → List E
    to_list = coefficients_of o L m monic

    pub is_remainder-to_list : (x : Remainder F.cring M) → IsRemainder o m (to_list x)
    is_remainder-to_list x =
        let p = IsPolynomialList-values o L x.0 in
        record {
          polynomial = record { over = p.over; trimmed = p.trimmed };
          smaller = omega (arith, length-map x.0.0 (λ a. a.0), x.1, length-modulus o L m i);
        }

    -- a remainder is its own
    pub of_list_eq : (a : List E) (h : IsRemainder o m a) → (of_list a).0 ≡ poly a
    of_list_eq a h =
        ap (λ x. x.0) (remainder_of_small F.cring F.zero_test M monic (poly a)
        (omega (arith, h.smaller, length-polynomial_of o L a h.polynomial, length-modulus o L m i)))

    pub to_list-of_list : (a : List E) → IsRemainder o m a → to_list (of_list a) ≡ a
    to_list-of_list a h =
        ap (λ (p : Poly F.cring). values o L p.0) (of_list_eq a h) ∙ values_back o L a h.polynomial

    pub of_list-to_list : (x : Remainder F.cring M) → of_list (to_list x) ≡ x
    of_list-to_list x =
        ap (remainder_of o L m monic) (polynomial_of-values o L x.0) ∙ remainder-small F.cring F.zero_test M monic x

    pub of_list_injective : (a b : List E) → IsRemainder o m a → IsRemainder o m b → of_list a ≡ of_list b → a ≡ b
    of_list_injective a b ha hb e = sym (to_list-of_list a ha) ∙ ap to_list e ∙ to_list-of_list b hb

    -- a remainder with this image
    pub to_list_unique : (a : List E) (x : Remainder F.cring M) → IsRemainder o m a → of_list a ≡ x → a ≡ to_list x
    to_list_unique a x h e = sym (to_list-of_list a h) ∙ ap to_list e

    pub of_list-nil : of_list [] ≡ Q.zero
    of_list-nil =
        ap (remainder_of o L m monic) (polynomial_of-nil o L) ∙ sym (remainders-zero F.cring F.zero_test M monic)

    pub of_list-one : of_list (o.one ∷ []) ≡ Q.one
    of_list-one =
        ap (remainder_of o L m monic) (polynomial_of-one o L) ∙ sym (remainders-one F.cring F.zero_test M monic)

    pub is_remainder-nil : IsRemainder o m []
    is_remainder-nil =
        let p = is_polynomial-gives o L [] refl in
        record {
          polynomial = record { over = p.over; trimmed = p.trimmed };
          smaller = let l = two_le_length o L m i in omega arith;
        }

    pub is_remainder-one : IsRemainder o m (o.one ∷ [])
    is_remainder-one = record {
      polynomial = record {
        over = All-cons (IsElem o) o.one [] L.one-elem (All-nil (IsElem o));
        trimmed = L.one-nonzero;
      };
      smaller = let l = two_le_length o L m i in omega arith;
    }

    empty_of_test : (xs : List E) → is_empty xs ≡ true → xs ≡ []
    empty_of_test [] e = refl
    empty_of_test (x ∷ xs) e = absurd (both_ways false refl e)

    embedding : FieldEmbedding (remainder_ops o L m monic) Q.cring
    unfolding remainder_ops
    embedding = record {
      zero-elem = test_of_remainder [] is_remainder-nil;
      one-elem = test_of_remainder (o.one ∷ []) is_remainder-one;
      add-elem = λ a b _ _. test_of_remainder (to_list (Q.◌⊕◌ (of_list a) (of_list b)))
          (is_remainder-to_list (Q.◌⊕◌ (of_list a) (of_list b)));
      neg-elem = λ a _. test_of_remainder (to_list (Q.neg (of_list a))) (is_remainder-to_list (Q.neg (of_list a)));
      mul-elem = λ a b _ _. test_of_remainder (to_list (Q.◌⊗◌ (of_list a) (of_list b)))
          (is_remainder-to_list (Q.◌⊗◌ (of_list a) (of_list b)));
      inv-elem = λ a _. test_of_remainder (to_list (Q.inv (of_list a))) (is_remainder-to_list (Q.inv (of_list a)));
      map = λ a. of_list a.0;
      injective = λ a b e. of_list_injective a.0 b.0 (remainder_of_test a.0 a.1) (remainder_of_test b.0 b.1) e;
      map-zero = of_list-nil;
      map-one = of_list-one;
      map-add = λ a b. of_list-to_list (Q.◌⊕◌ (of_list a.0) (of_list b.0));
      map-neg = λ a. of_list-to_list (Q.neg (of_list a.0));
      map-mul = λ a b. of_list-to_list (Q.◌⊗◌ (of_list a.0) (of_list b.0));
      map-inv = λ a h.
          ap (λ x. Q.◌⊗◌ x (of_list a.0)) (of_list-to_list (Q.inv (of_list a.0)))
          ∙ Q.inv-mul (of_list a.0)
          (λ e. h (of_list_injective a.0 [] (remainder_of_test a.0 a.1) is_remainder-nil (e ∙ sym of_list-nil)));
      is_zero-sound = λ a h e. empty_of_test a e;
      is_zero-zero = refl;
      one-nonzero = Q.one-nonzero;
    }

    pub remainder_laws : FieldLaws (remainder_ops o L m monic)
    remainder_laws = embedded_field (remainder_ops o L m monic) Q.cring embedding
