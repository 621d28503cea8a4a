use Rattle.std.proofs.Common.{refl, ◌∙◌}
use Rattle.theory_tables.proofs.Rows.Spans.{add_zero_left, add_zero_right}
use Rattle.spl_matrix.proofs.rows.add_product.Goals as goal

pub returns-then-eq-clause-value : goal.returns-then-eq-clause-value
returns-then-eq-clause-value g c =
    let o = g.F.Field.ops c.args.f.now in
    let L = g.met.F.Field.laws c.args.f.now in
    add_zero_left o L c.args.sum c.args.a.now c.args.b.now c.requires.sum c.requires.right
    (c.if-eq.ensures.0 refl ∙ c.requires.zero)

pub returns-then-eq-2-clause-value : goal.returns-then-eq-2-clause-value
returns-then-eq-2-clause-value g c =
    let o = g.F.Field.ops c.args.f.now in
    let L = g.met.F.Field.laws c.args.f.now in
    add_zero_right o L c.args.sum c.args.a.now c.args.b.now c.requires.sum c.requires.left
    (c.if-eq-2.ensures.0 refl ∙ c.requires.zero)
