-- The rows that the trace form sends to 0 are a basis of its radical, an ideal.
use Rattle.std.specs.Prelude.{◌≡◌, ◌≢◌, ◌↔◌, ℕ, ◌<◌, ◌≤◌, List, [], length, get_or}
use Rattle.std.proofs.Common.{sym, ◌∙◌, ap, subst, arith, ⊎_elim}
use Rattle.std.proofs.lemmas.Bool.{cases_lt}
use Rattle.theory_rings.specs.Ops.{Ops, FieldLaws}
use Rattle.theory_rings.specs.Sum.{at, sum_of, table}
use Rattle.theory_rings.specs.Power.{times_of}
use Rattle.theory_rings.proofs.Sums.Lists.{length-table, get_or-table}
use Rattle.theory_spaces.specs.Tuples.{IsTuple, tuple_zero, basis, product}
use Rattle.theory_spaces.proofs.Tuples.Tuples.{at-table, IsTuple-table, IsTuple-ext}
use Rattle.theory_spaces.proofs.Tuples.TupleProducts.{IsTuple-basis, IsTuple-product}
use Rattle.theory_tables.specs.Matrix.{entry, width_of}
use Rattle.theory_tables.specs.Subspace.{InSpan, IsReducedBasis, SpansKernel}
use Rattle.theory_tables.proofs.Rows.Spans.{InSpan-member}
use Rattle.spl_matrix.proofs.ReducedBases.{reduced_basis_is_independent}
use Rattle.spl_matrix.proofs.Regular.{full_basis_spans}
use Rattle.theory_tables.specs.Structure.{Structure, IsOver, IsAssociative}
use Rattle.theory_tables.specs.Algebras.{HasIdentity}
use Rattle.theory_tables.specs.Traces.{trace, trace_matrix, InTraceRadical, IsNondegenerate}
use Rattle.theory_tables.specs.Claims.{IdealClaim}
use Rattle.theory_tables.proofs.Algebras.TraceRadical.{trace_radical}

module _ {E : Type 0} (o : Ops E) (A : Structure E) where
  abbrev form_row : ℕ → List E
  form_row i = table A.dim (λ j. trace o A (product o A.dim A.constants (basis o A.dim i) (basis o A.dim j)))

  pub form_height : (form : List (List E)) → form ≡ trace_matrix o A → length form ≡ A.dim
  form_height form e = ap (λ (g : List (List E)). length g) e ∙ length-table A.dim form_row

  pub form_width : (form : List (List E)) → form ≡ trace_matrix o A → 1 ≤ A.dim → width_of form ≡ A.dim
  form_width form e some =
      ap (λ (g : List (List E)). length (get_or g 0 [])) e
      ∙ ap (λ (row : List E). length row) (get_or-table A.dim form_row 0 [] some)
      ∙ length-table A.dim (λ j. trace o A (product o A.dim A.constants (basis o A.dim 0) (basis o A.dim j)))

module _ {E : Type 0} (o : Ops E) (L : FieldLaws o) (A : Structure E) (over : IsOver o A)
    (assoc : IsAssociative o A) (identity : HasIdentity o A) where
  abbrev m : ℕ
  m = A.dim

  abbrev cs : List E
  cs = A.constants

  -- the combinations of the rows are the elements of the radical
  abbrev SpansRadical : List (List E) → Type 0
  SpansRadical rows = (v : List E) → IsTuple o m v → (InSpan o m rows v ↔ InTraceRadical o A v)

  pub kernel_is_radical : (form rows : List (List E)) → form ≡ trace_matrix o A → 1 ≤ m
      → SpansKernel o (length form) (width_of form) form rows → SpansRadical rows
  kernel_is_radical form rows e some k v hv =
      let height = form_height o A form e in
      let width = form_width o A form e some in
      let square = subst (λ w. SpansKernel o m w form rows) width
      (subst (λ h. SpansKernel o h (width_of form) form rows) height k) in
      let by_form = subst (λ g. SpansKernel o m m g rows) e square in
      let r = (trace_radical o L A over assoc).kernel v hv in
      (λ s. r.1 ((by_form v hv).0 s), λ h. (by_form v hv).1 (r.0 h))

  -- without rows the form is nondegenerate
  pub nondegenerate : (rows : List (List E)) → length rows ≡ 0 → SpansRadical rows → IsNondegenerate o A
  nondegenerate rows none spans a h =
      let s = (spans a h.tuple).1 h in
      IsTuple-ext o m a (tuple_zero o m) h.tuple (IsTuple-table o m (λ _. o.zero) (λ _ _. L.zero-elem)) (λ j j_in.
      s.2 j j_in ∙ ap (λ n. sum_of o n (λ i. o.mul (at o s.0 i) (entry o rows i j))) none
      ∙ sym (at-table o m (λ _. o.zero) j j_in))

  pub ideal_claim : (rows : List (List E)) → IsReducedBasis o m rows → length rows ≢ 0 → SpansRadical rows
      → times_of o m o.one ≢ o.zero → IdealClaim o A rows
  ideal_claim rows x some spans apart =
      let R = trace_radical o L A over assoc in
      let one = identity.one in
      let tuple = identity.is_one.tuple in
      let row = λ (r : ℕ). get_or rows r [] in
      let row_tuple : (r : ℕ) → r < length rows → IsTuple o m (get_or rows r []) = λ r r_in. x.shape r [] r_in in
      let in_radical : (r : ℕ) → r < length rows → InTraceRadical o A (get_or rows r []) =
      λ r r_in. (spans (row r) (row_tuple r r_in)).0 (InSpan-member o L m rows x.shape r r_in) in
      let basis_tuple = IsTuple-basis o L m cs over.of_elements in
      let product_tuple = IsTuple-product o L m cs over.of_elements in
      record {
        fits = (
          omega arith,
          ⊎_elim
              (λ (h : length rows < m). h)
              (λ (h : m ≤ length rows).
              absurd (R.not_everything one identity.is_one apart
              ((spans one tuple).0 (full_basis_spans o L m rows x h one tuple))))
              (cases_lt (length rows) m),
          x.shape,
        );
        independent = reduced_basis_is_independent o L m rows x;
        left = λ i r i_in r_in.
            (spans (product o m cs (basis o m i) (row r))
            (product_tuple (basis o m i) (row r) (basis_tuple i) (row_tuple r r_in))).1
            (R.ideal.left (basis o m i) (row r) (basis_tuple i) (in_radical r r_in));
        right = λ i r i_in r_in.
            (spans (product o m cs (row r) (basis o m i))
            (product_tuple (row r) (basis o m i) (row_tuple r r_in) (basis_tuple i))).1
            (R.ideal.right (basis o m i) (row r) (basis_tuple i) (in_radical r r_in));
      }
