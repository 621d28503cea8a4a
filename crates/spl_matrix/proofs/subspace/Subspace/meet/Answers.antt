use Rattle.std.proofs.Common.{◌≡◌, ℕ, List, ◌∙◌, ap, subst}
use Rattle.theory_tables.specs.Subspace.{SpansMeet}
use Rattle.spl_matrix.proofs.subspace.Subspace.meet.Goals as goal

pub returns : goal.returns
returns g c =
    let o = g.F.Field.ops c.args.f.now in
    let s = c.args.self.now in
    let b = c.args.b.now in
    let rows = c.in_ok-rows.rows in
    let width_is : c.self.inside.width ≡ s.width = ap (λ t. t.width) c.self.view_is in
    let rows_is : c.as_slice.result.now ≡ s.rows = c.as_slice.ensures ∙ ap (λ t. t.rows) c.self.view_is in
    let others_are : c.as_slice-2.result.now ≡ b.rows = c.as_slice-2.ensures ∙ ap (λ t. t.rows) c.b.view_is in
    let W : ℕ → Type 0 = λ w. SpansMeet o w rows c.as_slice.result.now c.as_slice-2.result.now in
    let A : List (List g.row.F-Elem.Denot) → Type 0 = λ m. SpansMeet o s.width rows m c.as_slice-2.result.now in
    let B : List (List g.row.F-Elem.Denot) → Type 0 = λ m. SpansMeet o s.width rows s.rows m in
    record {
      basis = c.in_ok-rows.ensures.basis;
      width = width_is;
      members = subst B others_are (subst A rows_is (subst W width_is c.in_ok-rows.ensures.members));
    }
