-- The remainders by a polynomial over a program's field, as a program's field: total functions on lists of
-- coefficients, with a test of which are polynomials of smaller degree.
use Rattle.std.specs.Prelude.{Bool, ◌&&◌, List, [], ◌∷◌, length, map, nat_lt}
use Rattle.theory_rings.specs.Ring.{CommRingOn, FieldOn}
use Rattle.theory_rings.specs.Ops.{Ops, FieldLaws}
use Rattle.theory_rings.specs.Elements.{Elem, elements}
use Rattle.theory_rings.specs.Polynomial.{Poly, IsMonic}
use Rattle.theory_rings.specs.Remainder.{Remainder}
use Rattle.theory_rings.proofs.Polynomials.PolynomialRing.{is_empty}
use Rattle.theory_rings.proofs.Polynomials.Monic.{monic_of}
use Rattle.theory_rings.proofs.Polynomials.Remainders.{remainders, remainder}
use Rattle.theory_rings.proofs.Polynomials.Irreducible.{inverse_mod}
use Rattle.theory_fractions.specs.FractionOps.{polynomial_of, is_polynomial}

module _ {E : Type 0} (o : Ops E) (L : FieldLaws o) (m : List E) where
  abbrev F : FieldOn (Elem o)
  F = elements o L

  -- the monic multiple of the polynomial m, which leaves the same remainders
  abbrev pub modulus_of : Poly F.cring
  modulus_of = monic_of F (polynomial_of o L m)

  -- polynomials of smaller degree than m
  abbrev pub is_remainder : List E → Bool
  is_remainder a = is_polynomial o L a && nat_lt (length a) (length m)

  module _ (monic : IsMonic F.cring modulus_of) where
    -- their ring
    abbrev pub remainder_ring : CommRingOn (Remainder F.cring modulus_of)
    remainder_ring = remainders F.cring F.zero_test modulus_of monic

    -- the remainder of a polynomial
    abbrev pub remainder_of : Poly F.cring → Remainder F.cring modulus_of
    remainder_of a = remainder F.cring F.zero_test modulus_of monic a

    -- the coefficients of a remainder
    abbrev pub coefficients_of : Remainder F.cring modulus_of → List E
    coefficients_of x = map (λ a. a.0) x.0.0

    unfoldable pub remainder_ops : Ops (List E)
    remainder_ops =
        let Q : CommRingOn (Remainder F.cring modulus_of) = remainder_ring in
        record {
          is_elem = is_remainder;
          is_zero = is_empty;
          zero = [];
          one = o.one ∷ [];
          add = λ a b. coefficients_of
              (Q.◌⊕◌ (remainder_of (polynomial_of o L a)) (remainder_of (polynomial_of o L b)));
          neg = λ a. coefficients_of (Q.neg (remainder_of (polynomial_of o L a)));
          mul = λ a b. coefficients_of
              (Q.◌⊗◌ (remainder_of (polynomial_of o L a)) (remainder_of (polynomial_of o L b)));
          inv = λ a. let r = remainder_of (polynomial_of o L a) in coefficients_of
              (remainder_of (inverse_mod F modulus_of r.0));
        }
