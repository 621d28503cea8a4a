-- A centre with a basis of at most one row is on a line, and a kernel without a row is 0.
use Rattle.std.specs.Prelude.{◌≡◌, ◌↔◌, ◌<◌, ◌≤◌, ℕ, List, [], length, get_or}
use Rattle.std.proofs.Common.{sym, ◌∙◌, ap, subst, arith, ⊎_elim}
use Rattle.std.proofs.lemmas.Bool.{cases_lt}
use Rattle.theory_rings.specs.Ops.{Ops, FieldLaws}
use Rattle.theory_rings.specs.Sum.{at, sum_of}
use Rattle.theory_rings.proofs.Rings.Elements.{at-elem}
use Rattle.theory_spaces.specs.Tuples.{IsTuple, tuple_zero, tuple_scale}
use Rattle.theory_spaces.proofs.Tuples.Tuples.{at-table, IsTuple-ext, IsTuple-table}
use Rattle.theory_tables.specs.Matrix.{entry, width_of}
use Rattle.theory_tables.specs.Subspace.{InSpan, IsReducedBasis, SpansKernel}
use Rattle.theory_tables.proofs.Rows.Terms.{zero-mul}
use Rattle.theory_tables.specs.Structure.{Structure}
use Rattle.theory_tables.specs.Algebras.{IsCentral}
use Rattle.theory_tables.specs.Traces.{trace_matrix}
use Rattle.theory_constants.specs.Residues.{KernelIsZero}
use Rattle.spl_centre.specs.Line.{CentreIsOnLine}
use Rattle.spl_centre.proofs.Multiples.{IsTuple-scale, one_row}
use Rattle.spl_centre.proofs.Radicals.{form_height, form_width}

module _ {E : Type 0} (o : Ops E) (L : FieldLaws o) (A : Structure E) where
  abbrev m : ℕ
  m = A.dim

  zero_tuple : IsTuple o m (tuple_zero o m)
  zero_tuple = IsTuple-table o m (λ _. o.zero) (λ _ _. L.zero-elem)

  -- combinations of no row are 0
  zero_item : (rows : List (List E)) → length rows ≡ 0 → (v : List E) → InSpan o m rows v
      → (j : ℕ) → j < m → at o v j ≡ o.zero
  zero_item rows none v s j j_in =
      s.2 j j_in ∙ ap (λ n. sum_of o n (λ i. o.mul (at o s.0 i) (entry o rows i j))) none

  pub centre_on_line : (rows : List (List E)) → IsReducedBasis o m rows
      → ((v : List E) → IsTuple o m v → (InSpan o m rows v ↔ IsCentral o A v)) → length rows < 2 → CentreIsOnLine o A
  centre_on_line rows x spans small = ⊎_elim
      (λ (few : length rows < 1). let none : length rows ≡ 0 = omega arith in record {
        along = tuple_zero o m;
        tuple = zero_tuple;
        multiple = λ v h. record {
          factor = o.zero;
          of_field = L.zero-elem;
          is_multiple = IsTuple-ext o m v (tuple_scale o m o.zero (tuple_zero o m)) h.tuple
              (IsTuple-scale o L m o.zero (tuple_zero o m) L.zero-elem zero_tuple) (λ j j_in.
              zero_item rows none v ((spans v h.tuple).1 h) j j_in
              ∙ sym (at-table o m (λ k. o.mul o.zero (at o (tuple_zero o m) k)) j j_in
              ∙ zero-mul o L (at o (tuple_zero o m) j) (at-elem o L (tuple_zero o m) zero_tuple.of_elements j)));
        };
      })
      (λ (many : 1 ≤ length rows).
      let single : length rows ≡ 1 = omega arith in
      let row : IsTuple o m (get_or rows 0 []) = x.shape 0 [] (omega arith) in
      record {
        along = get_or rows 0 [];
        tuple = row;
        multiple = λ v h.
            let s = (spans v h.tuple).1 h in
            let c_in = at-elem o L s.0 s.1.of_elements 0 in
            record {
              factor = at o s.0 0;
              of_field = c_in;
              is_multiple = IsTuple-ext o m v (tuple_scale o m (at o s.0 0) (get_or rows 0 [])) h.tuple
                  (IsTuple-scale o L m (at o s.0 0) (get_or rows 0 []) c_in row) (λ j j_in.
                  one_row o L m rows v s x.shape single j j_in
                  ∙ sym (at-table o m (λ k. o.mul (at o s.0 0) (at o (get_or rows 0 []) k)) j j_in));
            };
      })
      (cases_lt (length rows) 1)

  pub form_regular : (form rows : List (List E)) → form ≡ trace_matrix o A → 1 ≤ m
      → SpansKernel o (length form) (width_of form) form rows → length rows ≡ 0
      → KernelIsZero o m m (trace_matrix o A)
  form_regular form rows e some k none v hv killed =
      let height = form_height o A form e in
      let width = form_width o A form e some in
      let square = subst (λ w. SpansKernel o m w form rows) width
      (subst (λ h. SpansKernel o h (width_of form) form rows) height k) in
      let by_form = subst (λ g. SpansKernel o m m g rows) e square in
      IsTuple-ext o m v (tuple_zero o m) hv zero_tuple (λ j j_in.
      zero_item rows none v ((by_form v hv).1 killed) j j_in ∙ sym (at-table o m (λ _. o.zero) j j_in))
