use Rattle.std.proofs.Common.{◌∷◌, ◌++◌, [], sym, ◌∙◌, ap}
use Rattle.theory_spaces.specs.Tuples.{IsTuple}
use Rattle.theory_tables.proofs.Rows.Sums.{All_step}
use Rattle.spl_algebra.proofs.Multiples.{AddsMultiples-none, AddsMultiples-push}
use Rattle.spl_algebra.proofs.ideal.push_multiples.Goals as goal

pub loop-i-init : goal.loop-i-init
loop-i-init g c =
    AddsMultiples-none (g.F.Field.ops c.args.f.now)
    (g.met.F.Field.laws c.args.f.now) c.args.m c.args.constants.now c.requires.over.of_elements c.args.a.now
    c.args.rows.now c.requires.rows

pub push-requires-in-loop-i : goal.push-requires-in-loop-i
push-requires-in-loop-i g c =
    let o = g.F.Field.ops c.args.f.now in
    let m = c.args.m in
    let left = c.in_ok-left_multiple in
    let right = c.in_ok-right_multiple in
    let shape = All_step (IsTuple o m) c.loop-i.rows c.push.new.self left.field-0 c.loop-i.invariant.shape
    left.ensures.elem c.in_ok-push.ensures.ok in
    λ k d k_in. (shape k d k_in).right_length ∙ sym right.ensures.elem.right_length

pub loop-i-preserved : goal.loop-i-preserved
loop-i-preserved g c =
    let o = g.F.Field.ops c.args.f.now in
    let L = g.met.F.Field.laws c.args.f.now in
    let left = c.in_ok-left_multiple in
    let right = c.in_ok-right_multiple in
    AddsMultiples-push o L c.args.m c.args.constants.now c.requires.over.of_elements c.loop-i.i c.args.a.now
    c.args.rows.now c.loop-i.rows c.push-in-loop-i.new.self
    left.field-0 right.field-0 c.loop-i-test.true c.requires.element c.loop-i.invariant left.ensures.value
    right.ensures.value
    (c.in_ok-push-2.ensures.ok ∙ ap (λ xs. xs ++ right.field-0 ∷ []) c.in_ok-push.ensures.ok)
