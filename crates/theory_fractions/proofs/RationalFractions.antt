-- The fractions are the rational functions, by numerator and denominator.
use Rattle.theory_rings.specs.Ring.{FieldOn}
use Rattle.theory_rings.specs.Ops.{Ops, FieldLaws}
use Rattle.theory_rings.proofs.Fractions.Lowest.{rational_functions}
use Rattle.theory_rings.specs.Elements.{elements}
use Rattle.theory_fractions.specs.FractionOps.{RationalFunction, rational_function, fraction_ops}
use Rattle.theory_fractions.specs.FractionLaws.{FractionsAreRational}
use Rattle.theory_fractions.proofs.FractionField.{rational_function-one, is_fraction-pair_of, rational_function-pair_of}
use Rattle.theory_fractions.proofs.FractionField.{pair_of-rational_function}

module _ {E : Type 0} (o : Ops E) (L : FieldLaws o) where
  abbrev K : FieldOn (RationalFunction o L)
  K = rational_functions (elements o L)

  pub fractions_are_rational : (M : FieldLaws (fraction_ops o L)) → FractionsAreRational o L M
  unfolding fraction_ops
  fractions_are_rational M = record {
    hom = record {
      map-one = rational_function-one o L;
      map-add = λ a b. rational_function-pair_of o L (K.◌⊕◌ (rational_function o L a.0) (rational_function o L b.0));
      map-mul = λ a b. rational_function-pair_of o L (K.◌⊗◌ (rational_function o L a.0) (rational_function o L b.0));
    };
    pair = λ a. pair_of-rational_function o L a.0 a.1;
    element = is_fraction-pair_of o L;
    function = rational_function-pair_of o L;
  }
