use Rattle.std.proofs.Common.{◌≤◌, length, sym, ◌∙◌, subst, arith}
use Rattle.theory_tables.specs.Matrix.{IsMatrix}
use Rattle.theory_tables.specs.Subspace.{SpansKernel, SpansMeet}
use Rattle.spl_residue.specs.Residue.{residue_ops}
use Rattle.spl_radical.specs.LiftNumbers.{level_of}
use Rattle.spl_radical.proofs.ChainSteps.{next_member, form_width}
use Rattle.spl_radical.proofs.radical.next_member.Goals as goal

pub kernel-requires-clause-rows : goal.kernel-requires-clause-rows
kernel-requires-clause-rows c =
    omega (arith, c.in_ok-form.ensures.height, c.dim.ensures.dim, c.dim.ensures.positive)

pub meet-requires-clause-same_width : goal.meet-requires-clause-same_width
meet-requires-clause-same_width c =
    let form = c.in_ok-form in
    let m = c.args.b.now.dim in
    let some : 1 ≤ m = omega (arith, c.dim.ensures.dim, c.dim.ensures.positive) in
    c.in_ok-kernel.ensures.width
    ∙ form_width (residue_ops c.args.k.now) m form.form form.ensures.shape form.ensures.height some
    ∙ sym c.requires.width

pub returns : goal.returns
returns c =
    let k = c.args.k.now in
    let o = residue_ops k in
    let m = c.args.b.now.dim in
    let rows = c.args.rows.now.rows in
    let w = c.in_ok-w in
    let form = c.in_ok-form in
    let kernel = c.in_ok-kernel in
    let next = c.in_ok-next in
    let some : 1 ≤ m = omega (arith, c.dim.ensures.dim, c.dim.ensures.positive) in
    let wide = form_width o m form.form form.ensures.shape form.ensures.height some in
    let width = next.ensures.width ∙ c.requires.width in
    record {
      basis = next.ensures.basis;
      width = width;
      member = next_member k (level_of c.args.ring.now) c.args.b.now c.args.i c.requires.exponent rows
          c.requires.member w.w w.ensures.elem w.ensures.roots form.form form.ensures.value kernel.kernel.rows
          next.next.rows
          (subst (λ h. SpansKernel o h m form.form kernel.kernel.rows) form.ensures.height
          (subst (λ n. SpansKernel o (length form.form) n form.form kernel.kernel.rows) wide kernel.ensures.members))
          (subst (λ n. SpansMeet o n next.next.rows rows kernel.kernel.rows) c.requires.width next.ensures.members)
          (subst (λ n. IsMatrix o n next.next.rows) width next.ensures.basis.shape);
    }
