-- The rows with a pivot of a matrix in reduced row echelon form are a basis of the span of all rows.
use Rattle.std.specs.Prelude.{◌≡◌, ℕ, ◌<◌, ◌≤◌, List, [], length, get_or, take}
use Rattle.std.proofs.Common.{sym, ◌∙◌, ap, arith, ⊎_elim}
use Rattle.std.proofs.lemmas.Bool.{cases_lt}
use Rattle.std.proofs.lemmas.List.{length-take-le, get_or-take}
use Rattle.std.proofs.lemmas.List.Elements.{All-take}
use Rattle.theory_rings.specs.Ops.{Ops, FieldLaws}
use Rattle.theory_rings.specs.Sum.{at}
use Rattle.theory_spaces.specs.Tuples.{IsTuple}
use Rattle.theory_tables.specs.Matrix.{entry, IsMatrix}
use Rattle.theory_tables.specs.Echelon.{IsReducedEchelon}
use Rattle.theory_tables.specs.Subspace.{SameSpan}
use Rattle.theory_tables.proofs.Rows.Spans.{InSpan_congr, InSpan-zero, InSpan-member, SameSpan-by}

module _ {E : Type 0} (o : Ops E) (L : FieldLaws o) (w : ℕ) (rows : List (List E)) (pivots : List ℕ)
    (shape : IsMatrix o w rows) (form : IsReducedEchelon o (length rows) rows pivots w) where
  abbrev pub kept : List (List E)
  kept = take (length pivots) rows

  pub kept_length : length kept ≡ length pivots
  kept_length = length-take-le (length pivots) rows form.count

  pub kept_shape : IsMatrix o w kept
  kept_shape = All-take (IsTuple o w) (length pivots) rows shape

  kept_at : (i j : ℕ) → i < length pivots → entry o kept i j ≡ entry o rows i j
  kept_at i j i_in = ap (λ (row : List E). at o row j) (get_or-take (length pivots) rows i [] i_in)

  pub kept_form : IsReducedEchelon o (length kept) kept pivots w
  kept_form =
      let long = kept_length in
      let count = form.count in
      record {
        count = omega arith;
        below = form.below;
        order = form.order;
        unit = λ s i s_in i_in.
            let low : i < length pivots = omega arith in
            let i_in' : i < length rows = omega arith in
            kept_at i (get_or pivots s 0) low ∙ form.unit s i s_in i_in';
        left = λ s j s_in j_low. kept_at s j s_in ∙ form.left s j s_in j_low;
        rest = λ i j high i_in j_in. absurd (omega arith);
      }

  pub kept_same : SameSpan o w rows kept
  kept_same =
      let long = kept_length in
      let count = form.count in
      SameSpan-by o L w rows kept shape kept_shape
      (λ i i_in. ⊎_elim
      (λ (low : i < length pivots).
      let i_kept : i < length kept = omega arith in
      InSpan_congr o L w kept (get_or kept i []) (get_or rows i []) (λ j _. kept_at i j low)
      (InSpan-member o L w kept kept_shape i i_kept))
      (λ (high : length pivots ≤ i).
      InSpan-zero o L w kept (get_or rows i []) kept_shape (λ j j_in. form.rest i j high i_in j_in))
      (cases_lt i (length pivots)))
      (λ i i_in.
      let low : i < length pivots = omega arith in
      let i_rows : i < length rows = omega arith in
      InSpan_congr o L w rows (get_or rows i []) (get_or kept i []) (λ j _. sym (kept_at i j low))
      (InSpan-member o L w rows shape i i_rows))
