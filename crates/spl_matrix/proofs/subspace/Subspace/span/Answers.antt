use Rattle.std.proofs.Common.{List, subst, ◌∙◌}
use Rattle.std.proofs.lemmas.Result.{IfOk-weaker}
use Rattle.theory_tables.specs.Subspace.{Rows, SameSpan}
use Rattle.spl_matrix.proofs.subspace.Subspace.span.Goals as goal

pub returns : goal.returns
returns g c =
    let o = g.F.Field.ops c.args.f.now in
    let w = c.args.width in
    let P : Rows g.row.F-Elem.Denot → Type 0 = λ t. SameSpan o w t.rows c.in_ok-copied.field-0.items in
    let Q : Rows g.row.F-Elem.Denot → Type 0 = λ t. SameSpan o w t.rows c.args.rows.now in
    record {
      basis = c.span_of.ensures.basis;
      width = c.span_of.ensures.width;
      members = IfOk-weaker c.span_of.result P Q (λ t same.
          let S : List (List g.row.F-Elem.Denot) → Type 0 = λ m. SameSpan o w t.rows m in
          subst S (c.in_ok-copied.ensures ∙ c.as_slice.ensures) same) c.span_of.ensures.members;
    }
