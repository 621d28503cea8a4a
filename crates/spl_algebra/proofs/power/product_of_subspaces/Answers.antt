use Rattle.std.proofs.Common.{◌≡◌, ◌*◌, ◌^◌, ◌/◌, ◌%◌, [], List, length, get_or, ◌∙◌, ap, subst, arith}
use Rattle.theory_rings.specs.Sum.{table}
use Rattle.theory_spaces.specs.Tuples.{product}
use Rattle.spl_algebra.proofs.Inclusions.{dimension-le}
use Rattle.spl_algebra.proofs.PowerSpans.{products_spanned, rows_fit}
use Rattle.spl_algebra.proofs.power.product_of_subspaces.Goals as goal

pub product_rows-requires-clause-few : goal.product_rows-requires-clause-few
product_rows-requires-clause-few g c =
    let o = g.F.Field.ops c.args.f.now in
    let L = g.met.F.Field.laws c.args.f.now in
    let m = c.args.m in
    let low = dimension-le o L m c.args.a.now.rows c.requires.left in
    let high = dimension-le o L m c.args.b.now.rows c.requires.right in
    let left = ap length (c.as_slice.ensures ∙ c.rows.ensures) in
    let right = ap length (c.as_slice-2.ensures ∙ c.rows-2.ensures) in
    rows_fit (length c.as_slice.result.now) (length c.as_slice-2.result.now) m (2 ^ 64) (omega arith) (omega arith)
    c.requires.positive c.requires.fits

pub returns-clause-members : goal.returns-clause-members
returns-clause-members g c =
    let o = g.F.Field.ops c.args.f.now in
    let L = g.met.F.Field.laws c.args.f.now in
    let m = c.args.m in
    let cs = c.args.constants.now in
    let made = c.in_ok-rows in
    let next = c.in_ok-spanned in
    let a = c.args.a.now.rows in
    let b = c.args.b.now.rows in
    let V : List (List g.row.F-Elem.Denot) → List (List g.row.F-Elem.Denot)
    → Type 0 = λ x y. made.rows ≡ table (length x * length y)
    (λ t. product o m cs (get_or x (t / length y) []) (get_or y (t % length y) [])) in
    let value = subst (λ y. V a y) (c.as_slice-2.ensures ∙ c.rows-2.ensures)
    (subst (λ x. V x c.as_slice-2.result.now) (c.as_slice.ensures ∙ c.rows.ensures) made.ensures.value) in
    products_spanned o L m cs c.requires.over.of_elements a b made.rows c.requires.left.shape c.requires.right.shape
    made.ensures.shape value next.spanned.rows next.ensures.members
