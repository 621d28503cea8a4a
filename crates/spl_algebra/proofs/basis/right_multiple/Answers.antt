use Rattle.std.proofs.Common.{◌*◌, length, sym, ◌∙◌, ap}
use Rattle.std.proofs.lemmas.List.{take_rest, length-drop}
use Rattle.theory_rings.specs.Sum.{table}
use Rattle.spl_algebra.specs.Products.{sum_of_rows}
use Rattle.spl_algebra.proofs.Rows.{column_end-le_rest}
use Rattle.spl_algebra.proofs.BasisRows.{product-basis}
use Rattle.spl_algebra.proofs.basis.right_multiple.Goals as goal

pub combination-requires-clause-within : goal.combination-requires-clause-within
combination-requires-clause-within g c =
    let m = c.args.m in
    let cs = c.args.constants.now in
    let i = c.args.i in
    λ l h.
    rw (take_rest cs (i * m), length-drop (i * m) cs)
    (column_end-le_rest i l m (length cs) c.requires.index h c.requires.over.right_length)

pub returns-clause-value : goal.returns-clause-value
returns-clause-value g c =
    let o = g.F.Field.ops c.args.f.now in
    let m = c.args.m in
    let cs = c.args.constants.now in
    let a = c.args.a.now in
    let i = c.args.i in
    c.in_ok-items.ensures.value
    ∙ ap (λ rows. table m (sum_of_rows o m a rows (m * m))) (take_rest cs (i * m))
    ∙ sym (product-basis o
    (g.met.F.Field.laws c.args.f.now) m cs c.requires.over.of_elements a i c.requires.element.of_elements
    c.requires.index)
