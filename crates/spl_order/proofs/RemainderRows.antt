-- Rows of remainders are rows of polynomials.
use Rattle.std.specs.Prelude.{◌<◌, ℕ, List, [], length, get_or}
use Rattle.std.proofs.lemmas.List.Elements.{All-get_or, All-from_get_or}
use Rattle.theory_rings.specs.Ops.{Ops, FieldLaws}
use Rattle.theory_fractions.specs.PolynomialLists.{IsPolynomialList}
use Rattle.theory_remainders.specs.RemainderOps.{remainder_ops}
use Rattle.theory_remainders.proofs.RemainderField.{monic}
use Rattle.theory_remainders.proofs.RemainderValues.{of_elem}
use Rattle.theory_places.specs.FractionPlaces.{IsMonicIrreducible}
use Rattle.theory_spaces.specs.Tuples.{IsTuple}
use Rattle.theory_tables.specs.Matrix.{IsMatrix}
use Rattle.theory_rows.specs.Rows.{IsPolynomialRow, IsPolynomialMatrix}

pub lifted_matrix : {E : Type 0} (o : Ops E) (L : FieldLaws o) (m : List E) (s : IsMonicIrreducible o m) (n : ℕ)
    (rows : List (List (List E))) → IsMatrix (remainder_ops o L m (monic o L m s.irreducible)) n rows
    → IsPolynomialMatrix o n rows
lifted_matrix {E} o L m s n rows shape = All-from_get_or (IsPolynomialRow o n) rows [] (λ i i_in.
    let h = All-get_or (IsTuple (remainder_ops o L m (monic o L m s.irreducible)) n) rows i [] i_in shape in
    let each : (l : ℕ) (x : List E) → l < length (get_or rows i []) → IsPolynomialList o (get_or (get_or rows i []) l x) =
    λ l x l_in. let t = of_elem o L m s.irreducible (get_or (get_or rows i []) l x) (h.of_elements l x l_in) in
    t.polynomial in
    record {
      width = h.right_length;
      over = λ l x l_in. (each l x l_in).over;
      trimmed = λ l x l_in. (each l x l_in).trimmed;
    })
