use Rattle.std.proofs.Common.{◌≡◌, ◌*◌, ◌<◌, ℕ, List, length, refl, sym, ◌∙◌, ap}
use Rattle.std.proofs.lemmas.Result.{IfOk-weaker}
use Rattle.theory_rings.specs.Sum.{sum_of, at}
use Rattle.theory_rings.proofs.Sums.Lists.{length-table}
use Rattle.theory_tables.specs.Matrix.{entry}
use Rattle.theory_tables.specs.Structure.{basis_of, product_of}
use Rattle.spl_algebra.specs.Contractions.{contraction, contracted_row}
use Rattle.spl_algebra.proofs.Contractions.{middle_within, contraction-values_of}
use Rattle.spl_algebra.proofs.algebra.Algebra.form.Goals as goal

pub contraction_of-requires-clause-within : goal.contraction_of-requires-clause-within
contraction_of-requires-clause-within g c =
    let m = c.dim-m.result in
    let items = c.as_slice.result.now in
    middle_within (length items) m m (length c.constants-constants.result.now)
    (ap length c.as_slice.ensures ∙ c.requires.tuple.right_length ∙ sym c.dim-m.ensures.dim) refl
    (c.constants-constants.ensures.count ∙ ap (λ d. d * d * d) (sym c.dim-m.ensures.dim))

pub returns-clause-height : goal.returns-clause-height
returns-clause-height g c =
    let o = g.F.Field.ops c.args.f.now in
    let d = c.dim-m.result in
    let items = c.as_slice.result.now in
    let constants = c.constants-constants.result.now in
    let P : List (List g.row.F-Elem.Denot)
    → Type 0 = λ r. r ≡ contraction o (length items) items constants d (d * d) 1 in
    let Q : List (List g.row.F-Elem.Denot) → Type 0 = λ r. length r ≡ c.args.self.now.dim in
    IfOk-weaker c.contraction_of.result P Q
    (λ r e. ap length e
    ∙ length-table (length items) (λ r. contracted_row o (length items) items constants (r * d) (d * d) 1)
    ∙ ap length c.as_slice.ensures ∙ c.requires.tuple.right_length)
    c.contraction_of.ensures.value

pub returns-clause-value : goal.returns-clause-value
returns-clause-value g c =
    let o = g.F.Field.ops c.args.f.now in
    let L = g.met.F.Field.laws c.args.f.now in
    let d = c.dim-m.result in
    let items = c.as_slice.result.now in
    let constants = c.constants-constants.result.now in
    let A = c.args.self.now in
    let w = c.args.w.now in
    let P : List (List g.row.F-Elem.Denot)
    → Type 0 = λ r. r ≡ contraction o (length items) items constants d (d * d) 1 in
    let Q : List (List g.row.F-Elem.Denot) → Type 0 = λ r. (i j : ℕ) → i < A.dim → j < A.dim
    → entry o r j i ≡ sum_of o A.dim
    (λ k. o.mul (at o w k) (at o (product_of o A (basis_of o A i) (basis_of o A j)) k)) in
    IfOk-weaker c.contraction_of.result P Q
    (λ r e i j i_in j_in. ap (λ rows. entry o rows j i) e
    ∙ contraction-values_of o L A.dim A.constants c.requires.over.of_elements (length items) d items w constants
    (ap length c.as_slice.ensures ∙ c.requires.tuple.right_length) c.dim-m.ensures.dim c.as_slice.ensures
    c.constants-constants.ensures.value i j i_in j_in)
    c.contraction_of.ensures.value
