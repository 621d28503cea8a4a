use Rattle.std.proofs.Common.{◌≡◌, ◌*◌, List, length, refl, sym, ◌∙◌, ap, ap₂}
use Rattle.std.proofs.lemmas.Result.{IfOk-weaker}
use Rattle.theory_rings.specs.Sum.{table}
use Rattle.theory_tables.specs.Traces.{trace_matrix}
use Rattle.spl_algebra.specs.Contractions.{contraction, basis_trace}
use Rattle.spl_algebra.proofs.Contractions.{first_within, contraction-form_of}
use Rattle.spl_algebra.proofs.algebra.Algebra.trace_form.Goals as goal

pub contraction_of-requires-clause-within : goal.contraction_of-requires-clause-within
contraction_of-requires-clause-within g c =
    let m = c.dim-m.result in
    let items = c.as_slice.result.now in
    first_within (length items) m m (length c.constants-constants.result.now)
    (ap length c.as_slice.ensures ∙ c.in_ok-traces.ensures.elem.right_length) refl
    (c.constants-constants.ensures.count ∙ ap (λ d. d * d * d) (sym c.dim-m.ensures.dim))

pub returns-clause-value : goal.returns-clause-value
returns-clause-value g c =
    let o = g.F.Field.ops c.args.f.now in
    let L = g.met.F.Field.laws c.args.f.now in
    let d = c.dim-m.result in
    let items = c.as_slice.result.now in
    let constants = c.constants-constants.result.now in
    let A = c.args.self.now in
    let P : List (List g.row.F-Elem.Denot)
    → Type 0 = λ r. r ≡ contraction o (length items) items constants (d * d) d 1 in
    let Q : List (List g.row.F-Elem.Denot) → Type 0 = λ r. r ≡ trace_matrix o A in
    IfOk-weaker c.contraction_of.result P Q
    (λ r e. e ∙ contraction-form_of o L A.dim A.constants c.requires.of_elements (length items) d items constants
    (ap length c.as_slice.ensures ∙ c.in_ok-traces.ensures.elem.right_length ∙ c.dim-m.ensures.dim) c.dim-m.ensures.dim
    (c.as_slice.ensures ∙ c.in_ok-traces.ensures.value
    ∙ ap₂ (λ n cs. table n (basis_trace o n cs)) c.dim-m.ensures.dim c.constants-constants.ensures.value)
    c.constants-constants.ensures.value)
    c.contraction_of.ensures.value
