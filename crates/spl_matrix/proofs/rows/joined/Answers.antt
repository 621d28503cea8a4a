use Rattle.std.proofs.Common.{◌++◌, List, ap, ◌∙◌, arith}
use Rattle.std.proofs.lemmas.List.{take_all}
use Rattle.theory_tables.proofs.Rows.Sums.{read_at}
use Rattle.theory_tables.proofs.Rows.Stacks.{stacked_step}
use Rattle.spl_matrix.proofs.rows.joined.Goals as goal

pub loop-j-preserved : goal.loop-j-preserved
loop-j-preserved g c =
    let o = g.F.Field.ops c.args.f.now in
    let right = c.args.right.now in
    let j = c.loop-j.j in
    stacked_step c.args.left.now right j c.loop-j.items c.push.new.self c.in_ok-copy.field-0 o.zero
    c.loop-j-test.true c.loop-j.invariant
    (c.in_ok-copy.ensures.value
    ∙ read_at o right j c.index-right-j.result c.loop-j-test.true c.index-right-j.is)
    c.in_ok-push.ensures.ok

pub returns : goal.returns
returns g c =
    c.loop-j.invariant ∙ ap (λ (xs : List g.row.F-Elem.Denot). c.args.left.now ++ xs)
    (take_all c.loop-j.j c.args.right.now (omega arith))
