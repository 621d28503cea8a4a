-- Algebras over the rational functions whose constants lie in the field of the coefficients.
use Rattle.std.specs.Prelude.{◌≡◌, ◌<◌, ◌≤◌, ℕ, List, [], ◌∷◌, length, get_or, cond}
use Rattle.theory_rings.specs.Ops.{Ops, FieldLaws}
use Rattle.theory_rings.specs.Sum.{at}
use Rattle.theory_spaces.specs.Tuples.{IsTuple}
use Rattle.theory_fractions.specs.Fraction.{Pair}
use Rattle.theory_fractions.specs.FractionOps.{fraction_ops}
use Rattle.theory_fractions.specs.CommonDenominator.{as_fraction}
use Rattle.theory_tables.specs.Structure.{Structure, IsOver}
use Rattle.theory_constants.specs.Subfield.{extended}

-- numerator and denominator have one coefficient at most
pub record IsShort {E : Type 0} (w : Pair E) : Type 0 where
  pub numerator : length w.0 ≤ 1
  pub denominator : length w.1 ≤ 1

module _ {E : Type 0} (o : Ops E) where
  -- the coefficients of c as a polynomial
  abbrev pub constant_list : E → List E
  constant_list c = cond (o.is_zero c) [] (c ∷ [])

  -- c/1
  abbrev pub constant_fraction : E → Pair E
  constant_fraction c = as_fraction o (constant_list c)

  -- the first n fractions are these n elements
  pub record AreConstantFractions (list : List (Pair E)) (n : ℕ) (items : List E) : Type 0 where
    pub tuple : IsTuple o n items
    pub each : (p : ℕ) → p < n → get_or list p ([], []) ≡ constant_fraction (at o items p)

-- the algebra has the constants of B, each as a fraction
pub record IsExtensionOf {E : Type 0} (o : Ops E) (L : FieldLaws o) (A : Structure (Pair E)) (B : Structure E) : Type 0
  where
    pub over : IsOver o B
    pub extension : A ≡ extended o (fraction_ops o L) (constant_fraction o) B
