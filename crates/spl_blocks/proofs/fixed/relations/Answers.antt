use Rattle.std.proofs.Common.{◌≡◌, length, ◌∙◌}
use Rattle.std.proofs.lemmas.Result.{IfOk-weaker}
use Rattle.theory_rings.specs.Sum.{table}
use Rattle.theory_tables.specs.Matrix.{entry, width_of}
use Rattle.theory_tables.specs.Subspace.{Rows, SpansKernel}
use Rattle.spl_blocks.proofs.Equations.{columns-some, columns-wide, columns_kernel}
use Rattle.spl_blocks.proofs.fixed.relations.Goals as goal

pub kernel-requires-clause-rows : goal.kernel-requires-clause-rows
kernel-requires-clause-rows g c =
    let o = g.F.Field.ops c.args.f.now in
    let columns = c.in_ok-columns in
    columns-some o c.args.w c.args.rows.now columns.columns columns.ensures.value c.requires.positive

pub returns-clause-width : goal.returns-clause-width
returns-clause-width g c =
    let o = g.F.Field.ops c.args.f.now in
    let rows = c.args.rows.now in
    let columns = c.in_ok-columns in
    let wide = columns-wide o c.args.w rows columns.columns columns.ensures.value c.requires.positive
    columns.ensures.shape in
    let P : Rows g.row.F-Elem.Denot → Type 0 = λ s. s.width ≡ width_of columns.columns in
    let Q : Rows g.row.F-Elem.Denot → Type 0 = λ s. s.width ≡ length rows in
    IfOk-weaker c.kernel.result P Q (λ s e. e ∙ wide) c.kernel.ensures.width

pub returns-clause-members : goal.returns-clause-members
returns-clause-members g c =
    let o = g.F.Field.ops c.args.f.now in
    let w = c.args.w in
    let rows = c.args.rows.now in
    let columns = c.in_ok-columns in
    let P : Rows g.row.F-Elem.Denot → Type 0 = λ s.
    SpansKernel o (length columns.columns) (width_of columns.columns) columns.columns s.rows in
    let Q : Rows g.row.F-Elem.Denot → Type 0 = λ s.
    SpansKernel o w (length rows) (table w (λ j. table (length rows) (λ i. entry o rows i j))) s.rows in
    IfOk-weaker c.kernel.result P Q
    (λ s h. columns_kernel o w rows columns.columns columns.ensures.value c.requires.positive columns.ensures.shape
    s.rows h)
    c.kernel.ensures.members
