use Rattle.std.proofs.Common.{List, length, subst}
use Rattle.std.proofs.lemmas.Result.{IfOk-weaker}
use Rattle.theory_tables.specs.Subspace.{SameSpan, SpansKernel}
use Rattle.spl_matrix.proofs.KernelRows.{SpansKernel-same}
use Rattle.spl_matrix.proofs.kernel.kernel_of.Goals as goal

pub returns : goal.returns
returns g c =
    let o = g.F.Field.ops c.args.f.now in
    let L = g.met.F.Field.laws c.args.f.now in
    let w = c.args.w in
    let a = c.args.rows.now in
    let basis = c.in_ok-basis.basis in
    let made = c.in_ok-vectors.vectors.items in
    let S : List (List g.row.F-Elem.Denot) → Type 0 = λ m. SameSpan o w m basis in
    let K : List (List g.row.F-Elem.Denot) → Type 0 = λ m. SpansKernel o (length m) w m made in
    let same = subst S c.in_ok-copied.ensures c.in_ok-basis.ensures.same in
    let kernel = subst K c.as_slice.ensures c.in_ok-vectors.ensures.kernel in
    record {
      basis = c.span_of.ensures.basis;
      width = c.span_of.ensures.width;
      members = IfOk-weaker c.span_of.result _ _
          (λ s spans. SpansKernel-same o L w a basis made s.rows c.requires.shape c.in_ok-basis.ensures.basis.shape same
          kernel spans) c.span_of.ensures.members;
    }
