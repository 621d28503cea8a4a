use Rattle.std.proofs.Common.{◌≡◌, [], length, ◌∙◌, ap₂}
use Rattle.std.proofs.lemmas.Result.{IfOk-weaker}
use Rattle.theory_tables.specs.Matrix.{width_of}
use Rattle.theory_tables.specs.Subspace.{Rows, SpansKernel}
use Rattle.spl_algebra.specs.Contractions.{commutator_rows}
use Rattle.spl_algebra.specs.Subspaces.{SpansCentre}
use Rattle.spl_algebra.proofs.Commutators.{commutator_rows-some, spans_centre}
use Rattle.spl_algebra.proofs.algebra.Algebra.centre.Goals as goal

pub kernel-requires-clause-rows : goal.kernel-requires-clause-rows
kernel-requires-clause-rows g c =
    let o = g.F.Field.ops c.args.f.now in
    let L = g.met.F.Field.laws c.args.f.now in
    let rows = c.in_ok-rows in
    commutator_rows-some o L c.dim.result c.constants.result.now rows.rows c.dim.ensures.positive rows.ensures.value

pub returns-clause-width : goal.returns-clause-width
returns-clause-width g c =
    let o = g.F.Field.ops c.args.f.now in
    let L = g.met.F.Field.laws c.args.f.now in
    let rows = c.in_ok-rows in
    let some = commutator_rows-some o L c.dim.result c.constants.result.now rows.rows c.dim.ensures.positive
    rows.ensures.value in
    let P : Rows g.row.F-Elem.Denot → Type 0 = λ s. s.width ≡ width_of rows.rows in
    let Q : Rows g.row.F-Elem.Denot → Type 0 = λ s. s.width ≡ c.args.self.now.dim in
    IfOk-weaker c.kernel.result P Q
    (λ s e. e ∙ (rows.ensures.shape 0 [] some).right_length ∙ c.dim.ensures.dim) c.kernel.ensures.width

pub returns-clause-members : goal.returns-clause-members
returns-clause-members g c =
    let o = g.F.Field.ops c.args.f.now in
    let L = g.met.F.Field.laws c.args.f.now in
    let A = c.args.self.now in
    let rows = c.in_ok-rows in
    let some = commutator_rows-some o L c.dim.result c.constants.result.now rows.rows c.dim.ensures.positive
    rows.ensures.value in
    let wide : width_of rows.rows ≡ A.dim = (rows.ensures.shape 0 [] some).right_length ∙ c.dim.ensures.dim in
    let value = rows.ensures.value ∙ ap₂ (commutator_rows o) c.dim.ensures.dim c.constants.ensures.value in
    let P : Rows g.row.F-Elem.Denot
    → Type 0 = λ s. SpansKernel o (length rows.rows) (width_of rows.rows) rows.rows s.rows in
    let Q : Rows g.row.F-Elem.Denot → Type 0 = λ s. SpansCentre o A s.rows in
    IfOk-weaker c.kernel.result P Q
    (λ s spans. spans_centre o L A.dim A.constants rows.rows s.rows c.requires.of_elements value wide spans)
    c.kernel.ensures.members
