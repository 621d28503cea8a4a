-- The numerators of the matrix of the trace form.
use Rattle.std.specs.Prelude.{ℕ, List, [], length, get_or}
use Rattle.std.specs.List.{All}
use Rattle.std.proofs.Common.{◌∙◌, arith}
use Rattle.theory_rings.specs.Ops.{Ops, IsElem, FieldLaws}
use Rattle.theory_fractions.specs.Fraction.{Pair}
use Rattle.theory_fractions.specs.FractionOps.{fraction_ops}
use Rattle.theory_fractions.specs.CommonDenominator.{as_fraction, Clears, IsCommonDenominator}
use Rattle.theory_tables.specs.Matrix.{entry, IsMatrix}
use Rattle.theory_bases.specs.Joined.{joined}
use Rattle.theory_bases.proofs.Denominators.{All-joined, denominator_of_tuples}
use Rattle.spl_order.specs.Rows.{AreNumeratorRows}
use Rattle.spl_order.specs.Values.{HasMatrix}

module _ {E : Type 0} (o : Ops E) (L : FieldLaws o) where
  abbrev K : Ops (Pair E)
  K = fraction_ops o L

  pub joined-elems : (w : ℕ) (tuples : List (List (Pair E))) → IsMatrix K w tuples
      → All (IsElem K) (joined (length tuples) (λ i. get_or tuples i []))
  joined-elems w tuples h = All-joined (IsElem K) (length tuples) (λ i. get_or tuples i [])
      (λ i l. let t = h i [] l in t.of_elements)

  pub tuples_cleared : (tuples : List (List (Pair E))) (c : List E)
      → IsCommonDenominator o (joined (length tuples) (λ i. get_or tuples i [])) c → All (All (Clears o c)) tuples
  tuples_cleared tuples c C = let d = denominator_of_tuples o tuples c C in d.clears

  pub numerator_values : (w : ℕ) (tuples : List (List (Pair E))) → IsMatrix K w tuples → (c : List E)
      (rows : List (List (List E))) → AreNumeratorRows o L c tuples (length tuples) rows
      → HasMatrix o (λ i j. K.mul (as_fraction o c) (entry K tuples i j)) (length tuples) w rows
  numerator_values w tuples h c rows R = record {
    count = R.count;
    each = λ i i_in.
        let t = h i [] i_in in
        let r = R.each i i_in in
        record {
          count = r.count ∙ t.right_length;
          polynomials = λ j l. r.polynomials j (omega (arith, l, t.right_length));
          values = λ j l. r.multiple j (omega (arith, l, t.right_length));
        };
  }
