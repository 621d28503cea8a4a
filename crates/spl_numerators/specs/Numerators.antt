-- The constants of an algebra over the rational functions as polynomials over one denominator.
use Rattle.std.specs.Prelude.{◌≡◌, ◌*◌, ◌<◌, ℕ, List, [], length, get_or}
use Rattle.theory_rings.specs.Ops.{Ops, FieldLaws}
use Rattle.theory_fractions.specs.PolynomialLists.{IsPolynomialList}
use Rattle.theory_fractions.specs.Fraction.{Pair}
use Rattle.theory_fractions.specs.FractionOps.{fraction_ops}
use Rattle.theory_fractions.specs.CommonDenominator.{as_fraction, IsCommonDenominator}
use Rattle.theory_tables.specs.Structure.{Structure}

module _ {E : Type 0} (o : Ops E) (L : FieldLaws o) (c : List E) where
  -- the n polynomials are c times the first n fractions
  pub record HasMultiples (list : List (Pair E)) (n : ℕ) (entries : List (List E)) : Type 0 where
    pub count : length entries ≡ n
    pub polynomials : (p : ℕ) → p < n → IsPolynomialList o (get_or entries p [])
    pub multiple : (p : ℕ) → p < n
        → as_fraction o (get_or entries p [])
        ≡ (fraction_ops o L).mul (as_fraction o c) (get_or list p (fraction_ops o L).zero)

  -- the constants are the polynomials over c, their common denominator: c times each is the polynomial at its place
  pub record AreNumerators (A : Structure (Pair E)) (entries : List (List E)) : Type 0 where
    pub over : IsPolynomialList o c
    pub common : IsCommonDenominator o A.constants c
    pub multiples : HasMultiples A.constants (A.dim * A.dim * A.dim) entries
