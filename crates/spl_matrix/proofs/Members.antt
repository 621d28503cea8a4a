-- Membership in a subspace by its pivots, and the sum of two subspaces.
use Rattle.std.specs.Prelude.{◌≡◌, ◌↔◌, ℕ, ◌<◌, Bool, IsTrue, List, ◌++◌, length, get_or}
use Rattle.std.proofs.Common.{sym, ◌∙◌, ap, subst, arith}
use Rattle.std.proofs.lemmas.List.Elements.{All-append}
use Rattle.theory_rings.specs.Ops.{Ops, FieldLaws}
use Rattle.theory_rings.specs.Sum.{table, at}
use Rattle.theory_spaces.specs.Tuples.{IsTuple}
use Rattle.theory_spaces.proofs.Tuples.Tuples.{at-table}
use Rattle.theory_tables.specs.Matrix.{IsMatrix}
use Rattle.theory_tables.specs.Echelon.{IsReducedEchelon}
use Rattle.theory_tables.specs.Subspace.{InSpan, SameSpan, IsReducedBasis, SpansSum}
use Rattle.theory_tables.proofs.Rows.Spans.{combined, combined_congr}
use Rattle.theory_tables.proofs.Rows.Stacks.{spans_sum}
use Rattle.spl_matrix.proofs.ReducedBases.{weights-pivot}

module _ {E : Type 0} (o : Ops E) (L : FieldLaws o) where
  -- a vector is in the span where it is the combination by its items at the pivots
  combined_iff : (w : ℕ) (rows : List (List E)) (pivots : List ℕ) → IsMatrix o w rows → length pivots ≡ length rows
      → IsReducedEchelon o (length rows) rows pivots w
      → (v c : List E) → IsTuple o (length rows) c → ((s : ℕ) → s < length rows → at o c s ≡ at o v (get_or pivots s 0))
      → ((j : ℕ) → j < w → at o v j ≡ combined o L rows (at o c) j) ↔ InSpan o w rows v
  combined_iff w rows pivots shape each form v c c_tuple c_at = (
    (λ h. (c, c_tuple, h)),
    (λ h j j_in. h.2 j j_in
        ∙ combined_congr o L rows (at o h.0) (at o c) j
        (λ i i_in. weights-pivot o L w rows shape pivots each form v h i i_in ∙ sym (c_at i i_in))),
  )

  -- the same, as the calls give it
  pub contains_of : (w : ℕ) (rows : List (List E)) (v : List E) (x : IsReducedBasis o w rows) → IsTuple o w v
      → (rows' : List (List E)) (w' : ℕ) (pivots places : List ℕ) (c c' : List E) → rows' ≡ rows → w' ≡ w
      → places ≡ pivots → c' ≡ c
      → length pivots ≡ length rows' → IsReducedEchelon o (length rows') rows' pivots w' → IsTuple o (length places) c
      → c ≡ table (length places) (λ s. at o v (get_or places s 0))
      → (b : Bool) → (IsTrue b ↔ ((j : ℕ) → j < length v → at o v j ≡ combined o L rows' (at o c') j))
      → IsTrue b ↔ InSpan o w rows v
  contains_of w rows v x tuple rows' w' pivots places c c' rows_is w_is places_is c_is each form c_tuple c_at b h =
      let W : ℕ → Type 0 = λ w. IsReducedEchelon o (length rows') rows' pivots w in
      let R : List (List E) → Type 0 = λ m. IsReducedEchelon o (length m) m pivots w in
      let form' = subst R rows_is (subst W w_is form) in
      let same_height = ap length rows_is in
      let same_count = ap length places_is in
      let each' : length pivots ≡ length rows = omega arith in
      let count : length places ≡ length rows = omega arith in
      let N : ℕ → Type 0 = λ n. IsTuple o n c in
      let tuple' : IsTuple o (length rows) c' = subst (IsTuple o (length rows)) (sym c_is) (subst N count c_tuple) in
      let wide = tuple.right_length in
      let iff = combined_iff w rows pivots x.shape each' form' v c' tuple' (λ s s_in.
      let s_in' : s < length places = omega arith in
      ap (λ xs. at o xs s) (c_is ∙ c_at) ∙ at-table o (length places) (λ s. at o v (get_or places s 0)) s s_in'
      ∙ ap (λ (ps : List ℕ). at o v (get_or ps s 0)) places_is) in (
        (λ t. iff.0 (λ j j_in. let j_in' : j < length v = omega arith in h.0 t j j_in'
            ∙ ap (λ m. combined o L m (at o c') j) rows_is)),
        (λ s. h.1 (λ j j_in. let j_in' : j < w = omega arith in iff.1 s j j_in'
            ∙ ap (λ m. combined o L m (at o c') j) (sym rows_is))),
      )

  pub sum_of_spans : (w : ℕ) (a b rows : List (List E)) → IsMatrix o w a → IsMatrix o w b
      → SameSpan o w rows (a ++ b) → SpansSum o w rows a b
  sum_of_spans w a b rows sa sb same v t =
      let sums = spans_sum o L w a b sa sb (All-append (IsTuple o w) a b sa sb) in
      ((λ x. (sums v t).0 ((same v t).0 x)), (λ x. (same v t).1 ((sums v t).1 x)))
