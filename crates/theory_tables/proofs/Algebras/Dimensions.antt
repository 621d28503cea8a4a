-- Two matrices with the same combinations: independent rows are as many as the rows of another that are independent,
-- and as many rows as independent ones are independent.
use Rattle.std.specs.Prelude.{◌≡◌, ℕ, ◌<◌, ◌≤◌, List, length}
use Rattle.std.proofs.Common.{sym, subst, arith}
use Rattle.theory_rings.specs.Ops.{Ops, FieldLaws}
use Rattle.theory_rings.specs.Elements.{elements}
use Rattle.theory_spaces.specs.Linear as linear
use Rattle.theory_spaces.proofs.Tuples.Tuples.{tuples}
use Rattle.theory_spaces.proofs.Linear.Dimension.{exchange, independent_of_span}
use Rattle.theory_tables.specs.Matrix.{IsMatrix}
use Rattle.theory_tables.specs.Subspace.{InSpan, SameSpan, AreIndependent}
use Rattle.theory_tables.proofs.Rows.Spans.{rows_in, SameSpan_sym}
use Rattle.theory_tables.proofs.Algebras.Bridge.{row, row-is, to_span, to_independent, from_independent}

module _ {E : Type 0} (o : Ops E) (L : FieldLaws o) (w : ℕ) where
  -- rows in the span of others, as vectors
  rows_span : (a b : List (List E)) (sa : IsMatrix o w a) (sb : IsMatrix o w b) → SameSpan o w a b
      → (i : ℕ) → i < length a → linear.InSpan (tuples o L w) (length b) (row o L w b sb) (row o L w a sa i)
  rows_span a b sa sb same i i_in = to_span o L w b sb (row o L w a sa i)
      (subst (λ x. InSpan o w b x) (sym (row-is o L w a sa i i_in)) (rows_in o L w a b sa same i i_in))

  no_more : (a b : List (List E)) → IsMatrix o w a → IsMatrix o w b → AreIndependent o w a → SameSpan o w a b
      → length a ≤ length b
  no_more a b sa sb ia same = exchange (elements o L) (tuples o L w) (length a) (length b) (row o L w a sa)
      (row o L w b sb) (to_independent o L w a sa ia) (rows_span a b sa sb same)

  pub dimension_unique : (a b : List (List E)) → IsMatrix o w a → IsMatrix o w b → AreIndependent o w a
      → AreIndependent o w b → SameSpan o w a b → length a ≡ length b
  dimension_unique a b sa sb ia ib same =
      let low = no_more a b sa sb ia same in
      let high = no_more b a sb sa ib (SameSpan_sym o L w a b same) in
      omega arith

  pub independent_of_dimension : (a b : List (List E)) → IsMatrix o w a → IsMatrix o w b → AreIndependent o w a
      → SameSpan o w a b → length a ≡ length b → AreIndependent o w b
  independent_of_dimension a b sa sb ia same long = from_independent o L w b sb
      (independent_of_span (elements o L) (tuples o L w) (length b) (row o L w a sa) (row o L w b sb)
      (subst (λ n. linear.Independent (tuples o L w) n (row o L w a sa)) long (to_independent o L w a sa ia))
      (λ i i_in. rows_span a b sa sb same i (subst (λ n. i < n) (sym long) i_in)))
