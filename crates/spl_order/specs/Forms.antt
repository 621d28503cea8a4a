-- The matrix of the trace form, and the Gram matrix of tuples, as polynomials over one denominator.
use Rattle.std.specs.Prelude.{◌≡◌, List, []}
use Rattle.theory_rings.specs.Ops.{Ops, FieldLaws}
use Rattle.theory_fractions.specs.PolynomialLists.{IsPolynomialList}
use Rattle.theory_fractions.specs.Fraction.{Pair}
use Rattle.theory_fractions.specs.FractionOps.{fraction_ops}
use Rattle.theory_fractions.specs.CommonDenominator.{as_fraction}
use Rattle.theory_tables.specs.Matrix.{entry}
use Rattle.theory_tables.specs.Structure.{Structure}
use Rattle.theory_tables.specs.Traces.{trace_matrix}
use Rattle.theory_bases.specs.Grams.{gram_entry}
use Rattle.spl_order.specs.Values.{HasMatrix}

-- c, which is not 0, times each entry of the matrix of the trace form is the polynomial at its place
pub record IsClearedForm {E : Type 0} (o : Ops E) (L : FieldLaws o) (A : Structure (Pair E)) (c : List E)
    (rows : List (List (List E))) : Type 0 where
  pub polynomial : IsPolynomialList o c
  pub nonzero : c ≡ [] → ⊥
  pub values : (let K : Ops (Pair E) = fraction_ops o L in
      HasMatrix o (λ i j. K.mul (as_fraction o c) (entry K (trace_matrix K A) i j)) A.dim A.dim rows)

-- c, which is not 0, times each entry of the Gram matrix of the tuples is the polynomial at its place
pub record IsClearedGram {E : Type 0} (o : Ops E) (L : FieldLaws o) (A : Structure (Pair E))
    (tuples : List (List (Pair E))) (c : List E) (rows : List (List (List E))) : Type 0 where
  pub polynomial : IsPolynomialList o c
  pub nonzero : c ≡ [] → ⊥
  pub values : (let K : Ops (Pair E) = fraction_ops o L in
      HasMatrix o (λ i j. K.mul (as_fraction o c) (gram_entry K A tuples i j)) A.dim A.dim rows)
