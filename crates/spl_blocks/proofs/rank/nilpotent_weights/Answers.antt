use Rattle.std.proofs.Common.{◌≡◌, ◌^◌, ℕ, List, [], length, get_or, ◌∙◌, sym, subst}
use Rattle.std.proofs.lemmas.Result.{IfOk-weaker}
use Rattle.theory_rings.specs.Sum.{table}
use Rattle.theory_tables.specs.Matrix.{entry, IsMatrix}
use Rattle.theory_tables.specs.Subspace.{Rows, SpansKernel}
use Rattle.spl_blocks.specs.Fixed.{power_in, nilpotent_equations}
use Rattle.spl_blocks.proofs.Equations.{equations-wide, equations_kernel}
use Rattle.spl_blocks.proofs.rank.nilpotent_weights.Goals as goal

pub relations-requires-clause-shape : goal.relations-requires-clause-shape
relations-requires-clause-shape g c =
    let o = g.F.Field.ops c.args.f.now in
    let P : List (List g.row.F-Elem.Denot) → Type 0 = IsMatrix o c.dim.result in
    let Q : ℕ → Type 0 = λ n. IsMatrix o n c.in_ok-powers.powers in
    subst P (sym c.as_slice.ensures) (subst Q (sym c.dim.ensures.dim) c.in_ok-powers.ensures.shape)

pub returns-clause-width : goal.returns-clause-width
returns-clause-width g c =
    let o = g.F.Field.ops c.args.f.now in
    let A = c.args.a.now in
    let n = c.args.q ^ c.args.d in
    let rows = c.args.rows.now in
    let wide = equations-wide o A (length rows) (λ i. power_in o A (get_or rows i []) n)
    c.in_ok-powers.powers c.as_slice.result.now c.dim.result c.dim.ensures.dim c.as_slice.ensures
    c.in_ok-powers.ensures.value in
    let P : Rows g.row.F-Elem.Denot → Type 0 = λ s. s.width ≡ length c.as_slice.result.now in
    let Q : Rows g.row.F-Elem.Denot → Type 0 = λ s. s.width ≡ length rows in
    IfOk-weaker c.relations.result P Q (λ s e. e ∙ wide) c.relations.ensures.width

pub returns-clause-members : goal.returns-clause-members
returns-clause-members g c =
    let o = g.F.Field.ops c.args.f.now in
    let A = c.args.a.now in
    let n = c.args.q ^ c.args.d in
    let rows = c.args.rows.now in
    let w = c.dim.result in
    let slice = c.as_slice.result.now in
    let P : Rows g.row.F-Elem.Denot → Type 0 = λ s.
    SpansKernel o w (length slice) (table w (λ j. table (length slice) (λ i. entry o slice i j))) s.rows in
    let Q : Rows g.row.F-Elem.Denot → Type 0 = λ s.
    SpansKernel o A.dim (length rows) (nilpotent_equations o A n rows) s.rows in
    IfOk-weaker c.relations.result P Q
    (λ s h. equations_kernel o A (length rows) (λ i. power_in o A (get_or rows i []) n)
    c.in_ok-powers.powers slice w c.dim.ensures.dim c.as_slice.ensures c.in_ok-powers.ensures.value s.rows h)
    c.relations.ensures.members
