-- The fractions in lowest terms of polynomials over a program's field, as a program's field: total functions on pairs
-- of lists of coefficients, with a test of lowest terms.
use Rattle.std.specs.Prelude.{◌≡◌, Bool, true, false, not, ◌&&◌, List, [], ◌∷◌, map}
use Rattle.std.specs.List.{list_all}
use Rattle.std.proofs.Common.{refl}
use Rattle.theory_rings.specs.Ring.{FieldOn}
use Rattle.theory_rings.specs.Ops.{Ops, FieldLaws}
use Rattle.theory_rings.specs.Elements.{Elem, elements}
use Rattle.theory_rings.specs.Polynomial.{Poly, trim}
use Rattle.theory_rings.specs.Fraction.{Fraction}
use Rattle.theory_rings.proofs.Polynomials.PolynomialRing.{is_empty, IsTrimmed-trim}
use Rattle.theory_rings.proofs.Fractions.Lowest.{Lowest, rational_functions}
use Rattle.theory_rings.proofs.Fractions.LowestTests.{is_lowest, is_lowest-sound}
use Rattle.theory_fractions.specs.Fraction.{Pair}

-- whether the last item is not 0
abbrev pub is_trimmed : {E : Type 0} → (E → Bool) → List E → Bool
is_trimmed is_zero [] = true
is_trimmed is_zero (x ∷ []) = not (is_zero x)
is_trimmed is_zero (x ∷ y ∷ ys) = is_trimmed is_zero (y ∷ ys)

module _ {E : Type 0} (o : Ops E) (L : FieldLaws o) where
  abbrev pub F : FieldOn (Elem o)
  F = elements o L

  -- the value as an element, and 0 where it is none
  abbrev pub element_if : (x : E) (b : Bool) → o.is_elem x ≡ b → Elem o
  element_if x true e = (x, e)
  element_if x false e = F.zero

  abbrev pub element_or_zero : E → Elem o
  element_or_zero x = element_if x (o.is_elem x) refl

  -- the polynomial with these coefficients
  abbrev pub polynomial_of : List E → Poly F.cring
  polynomial_of xs = (trim F.is_zero (map element_or_zero xs), IsTrimmed-trim F.zero_test (map element_or_zero xs))

  abbrev pub RationalFunction : Type 0
  RationalFunction = Fraction (Lowest F)

  -- the rational function with this numerator and denominator, and 0 where they are not in lowest terms
  abbrev pub rational_function_if : (u v : Poly F.cring) (b : Bool) → is_lowest F u v ≡ b → RationalFunction
  rational_function_if u v true e = ((u, v), is_lowest-sound F u v e)
  rational_function_if u v false e = let K : FieldOn RationalFunction = rational_functions F in K.zero

  unfoldable pub rational_function : Pair E → RationalFunction
  rational_function w =
      rational_function_if (polynomial_of w.0) (polynomial_of w.1)
      (is_lowest F (polynomial_of w.0) (polynomial_of w.1)) refl

  -- numerator and denominator
  abbrev pub pair_of : RationalFunction → Pair E
  pair_of x = (map (λ a. a.0) x.0.0.0, map (λ a. a.0) x.0.1.0)

  -- coefficients of polynomials over the field
  abbrev pub is_polynomial : List E → Bool
  is_polynomial xs = list_all o.is_elem xs && is_trimmed o.is_zero xs

  unfoldable pub is_fraction : Pair E → Bool
  is_fraction w = is_polynomial w.0 && (is_polynomial w.1 && is_lowest F (polynomial_of w.0) (polynomial_of w.1))

  unfoldable pub fraction_ops : Ops (Pair E)
  fraction_ops =
      let K : FieldOn RationalFunction = rational_functions F in
      record {
        is_elem = is_fraction;
        is_zero = λ a. is_empty a.0;
        zero = ([], o.one ∷ []);
        one = (o.one ∷ [], o.one ∷ []);
        add = λ a b. pair_of (K.◌⊕◌ (rational_function a) (rational_function b));
        neg = λ a. pair_of (K.neg (rational_function a));
        mul = λ a b. pair_of (K.◌⊗◌ (rational_function a) (rational_function b));
        inv = λ a. pair_of (K.inv (rational_function a));
      }
