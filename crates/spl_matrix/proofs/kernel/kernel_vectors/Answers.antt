use Rattle.std.proofs.Common.{ℕ, ◌<◌, List, get_or, subst}
use Rattle.std.proofs.lemmas.Result.{IfOk-weaker}
use Rattle.spl_matrix.specs.Spanning.{IsPlace, AreKernelRows}
use Rattle.spl_matrix.proofs.KernelRows.{AreKernelRows-shape, AreKernelRows-kernel}
use Rattle.spl_matrix.proofs.kernel.kernel_vectors.Goals as goal

pub returns : goal.returns
returns g c =
    let o = g.F.Field.ops c.args.f.now in
    let L = g.met.F.Field.laws c.args.f.now in
    let w = c.args.w in
    let rows = c.args.rows.now in
    let p = c.in_ok-pivots.ensures in
    let places = c.in_ok-places.places in
    let A : List ℕ → Type 0 = λ ps. (j : ℕ) → j < w → IsPlace ps j (get_or places j 0) in
    let place = subst A c.as_slice.ensures c.in_ok-places.ensures.each in
    let are = λ (made : List (List g.row.F-Elem.Denot)) (k : AreKernelRows o w rows c.as_slice-2.result.now w made).
    subst (λ (ps : List ℕ). AreKernelRows o w rows ps w made) c.as_slice-2.ensures k in
    record {
      shape = IfOk-weaker c.kernel_rows_of.result _ _
          (λ r k. AreKernelRows-shape o L w rows c.in_ok-pivots.pivots c.requires.shape p.each p.reduced places place
          r.items (are r.items k)) c.kernel_rows_of.ensures;
      kernel = IfOk-weaker c.kernel_rows_of.result _ _
          (λ r k. AreKernelRows-kernel o L w rows c.in_ok-pivots.pivots c.requires.shape p.each p.reduced places place
          r.items (are r.items k)) c.kernel_rows_of.ensures;
    }
