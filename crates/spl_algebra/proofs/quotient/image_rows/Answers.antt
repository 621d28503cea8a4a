use Rattle.std.proofs.Common.{◌≡◌, ◌++◌, length, ◌∙◌, ap}
use Rattle.theory_tables.specs.Matrix.{image}
use Rattle.theory_tables.proofs.Algebras.MatrixMaps.{IsTuple-image}
use Rattle.spl_algebra.specs.Quotients.{image_row}
use Rattle.spl_algebra.proofs.QuotientRows.{JoinsRows-step}
use Rattle.spl_algebra.proofs.quotient.image_rows.Goals as goal

pub loop-r-preserved : goal.loop-r-preserved
loop-r-preserved g c =
    let o = g.F.Field.ops c.args.f.now in
    let L = g.met.F.Field.laws c.args.f.now in
    let m = c.args.m in
    let project = c.args.project.now in
    let n = length project in
    let v = c.row_of-product.result.now in
    let wide : length v ≡ m = c.row_of-product.ensures.elem.right_length in
    JoinsRows-step o n (image_row o m c.args.constants.now c.args.places.now project) c.loop-r.r c.loop-r.items
    c.push_image.new.items (image o n m project v) c.loop-r.invariant
    (ap (image o n m project) c.row_of-product.ensures.value)
    (IsTuple-image o L n m project c.requires.shape v c.row_of-product.ensures.elem)
    (c.in_ok-push_image.ensures ∙ ap (λ w. c.loop-r.items ++ image o n w project v) wide)
