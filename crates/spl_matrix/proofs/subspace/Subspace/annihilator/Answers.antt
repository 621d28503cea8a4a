use Rattle.std.proofs.Common.{ℕ, List, IfOk, ◌∙◌, length, subst}
use Rattle.std.proofs.lemmas.Result.{IfOk-weaker}
use Rattle.theory_tables.specs.Subspace.{SpansKernel}
use Rattle.spl_matrix.proofs.subspace.Subspace.annihilator.Goals as goal

pub returns-clause-members : goal.returns-clause-members
returns-clause-members g c =
    let o = g.F.Field.ops c.args.f.now in
    let rows = c.args.self.now.rows in
    let made = c.in_ok-vectors.vectors.items in
    let K : List (List g.row.F-Elem.Denot) → Type 0 = λ m. SpansKernel o (length m) c.width-w.result m made in
    let kernel = subst K (c.as_slice.ensures ∙ c.rows.ensures) c.in_ok-vectors.ensures.kernel in
    let P : ℕ → Type 0 = λ w. IfOk c.span_of.result (λ s. SpansKernel o (length rows) w rows s.rows) in
    subst P c.width-w.ensures (IfOk-weaker c.span_of.result _ _
    (λ s same v tuple. (
      λ h. (kernel v tuple).0 ((same v tuple).0 h),
      λ h. (same v tuple).1 ((kernel v tuple).1 h),
    )) c.span_of.ensures.members)
