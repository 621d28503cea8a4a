-- Tuples over a denominator by combinations of rows, and multiples of the rows. (Cohen, A Course in Computational
-- Algebraic Number Theory, section 4.7.)
use Rattle.std.specs.Prelude.{ℕ, List, length}
use Rattle.theory_rings.specs.Ops.{Ops, FieldLaws}
use Rattle.theory_rings.specs.Sum.{table}
use Rattle.theory_fractions.specs.Fraction.{Pair}
use Rattle.theory_fractions.specs.FractionOps.{fraction_ops}
use Rattle.theory_fractions.specs.CommonDenominator.{as_fraction}
use Rattle.spl_order.specs.Values.{fraction_entry, product_entry}

module _ {E : Type 0} (o : Ops E) (L : FieldLaws o) (n : ℕ) (c : List E) where
  -- the combinations of the n rows by the weights, over c
  abbrev pub combined_tuples : (weights rows : List (List (List E))) → List (List (Pair E))
  combined_tuples weights rows =
      let K : Ops (Pair E) = fraction_ops o L in
      table (length weights) (λ i. table n (λ j. K.mul (product_entry o L n weights rows i j) (K.inv (as_fraction o c))))

  -- m times the n rows, over c
  abbrev pub multiple_tuples : List E → List (List (List E)) → List (List (Pair E))
  multiple_tuples m rows =
      let K : Ops (Pair E) = fraction_ops o L in
      table n (λ i. table n (λ j.
      K.mul (K.mul (as_fraction o m) (fraction_entry o rows i j)) (K.inv (as_fraction o c))))
