use Rattle.std.proofs.Common.{◌≡◌, ◌*◌, List, length, refl, sym, ◌∙◌, ap}
use Rattle.std.proofs.lemmas.Result.{IfOk-weaker}
use Rattle.theory_tables.specs.Traces.{left_matrix}
use Rattle.spl_algebra.specs.Contractions.{contraction}
use Rattle.spl_algebra.proofs.Contractions.{last_within, contraction-left_of}
use Rattle.spl_algebra.proofs.algebra.Algebra.left_matrix.Goals as goal

pub contraction_of-requires-clause-within : goal.contraction_of-requires-clause-within
contraction_of-requires-clause-within g c =
    let m = c.dim-m.result in
    let items = c.as_slice.result.now in
    last_within (length items) m m (length c.constants-constants.result.now)
    (ap length c.as_slice.ensures ∙ c.requires.element.right_length ∙ sym c.dim-m.ensures.dim) refl
    (c.constants-constants.ensures.count ∙ ap (λ d. d * d * d) (sym c.dim-m.ensures.dim))

pub returns-clause-value : goal.returns-clause-value
returns-clause-value g c =
    let o = g.F.Field.ops c.args.f.now in
    let L = g.met.F.Field.laws c.args.f.now in
    let d = c.dim-m.result in
    let items = c.as_slice.result.now in
    let constants = c.constants-constants.result.now in
    let A = c.args.self.now in
    let a = c.args.a.now in
    let P : List (List g.row.F-Elem.Denot)
    → Type 0 = λ r. r ≡ contraction o (length items) items constants 1 d (d * d) in
    let Q : List (List g.row.F-Elem.Denot) → Type 0 = λ r. r ≡ left_matrix o A a in
    IfOk-weaker c.contraction_of.result P Q
    (λ r e. e ∙ contraction-left_of o L A.dim A.constants c.requires.over.of_elements
    (length items) d items a constants (ap length c.as_slice.ensures ∙ c.requires.element.right_length)
    c.dim-m.ensures.dim c.as_slice.ensures c.constants-constants.ensures.value c.requires.element.of_elements)
    c.contraction_of.ensures.value
