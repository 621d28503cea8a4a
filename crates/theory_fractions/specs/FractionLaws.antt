-- Statements on the fractions of polynomials over a program's field.
use Rattle.std.specs.Prelude.{◌≡◌, List, ◌↔◌}
use Rattle.theory_rings.specs.Ops.{Ops, IsElem, FieldLaws}
use Rattle.theory_rings.specs.Elements.{Elem, elements}
use Rattle.theory_rings.specs.Homomorphism.{IsRingHom}
use Rattle.theory_rings.proofs.Fractions.Lowest.{rational_functions}
use Rattle.theory_fractions.specs.Fraction.{IsLowestTerms}
use Rattle.theory_fractions.specs.FractionOps.{RationalFunction, rational_function, pair_of, fraction_ops}

module _ {E : Type 0} (o : Ops E) (L : FieldLaws o) where
  -- the elements are the pairs in lowest terms
  abbrev pub FractionsAreLowestTerms : Type 0
  FractionsAreLowestTerms = (u v : List E) → IsElem (fraction_ops o L) (u, v) ↔ IsLowestTerms o u v

  -- they are the rational functions, by numerator and denominator: one to one, onto, and with their sums and products
  pub record FractionsAreRational (M : FieldLaws (fraction_ops o L)) : Type 0 where
    pub hom : IsRingHom (elements (fraction_ops o L) M).ring (rational_functions (elements o L)).ring
        (λ a. rational_function o L a.0)
    pub pair : (a : Elem (fraction_ops o L)) → pair_of o L (rational_function o L a.0) ≡ a.0
    pub element : (x : RationalFunction o L) → IsElem (fraction_ops o L) (pair_of o L x)
    pub function : (x : RationalFunction o L) → rational_function o L (pair_of o L x) ≡ x
