use Rattle.std.proofs.Common.{◌<◌, ◌*◌, ◌+◌, ◌-◌, length, take, drop, refl, ◌∙◌, ap, arith}
use Rattle.spl_algebra.specs.Products.{scaled_rows}
use Rattle.spl_algebra.proofs.Terms.{read-at}
use Rattle.spl_algebra.proofs.Steps.{AddsEach-zero, scaled_rows-none, scaled_rows-more, at-part}
use Rattle.spl_algebra.proofs.products.add_rows.Goals as goal

pub returns-then-eq : goal.returns-then-eq
returns-then-eq g c =
    let old = c.args.sums.now in
    scaled_rows-none (g.F.Field.ops c.args.f.now) (g.met.F.Field.laws c.args.f.now) old
    (length old) c.args.x.now c.args.b.now c.args.rows.now c.args.stride c.requires.sums
    c.requires.coordinates.of_elements c.requires.rows (c.if-eq.ensures.0 refl ∙ c.requires.zero)

pub loop-l-init : goal.loop-l-init
loop-l-init g c =
    let o = g.F.Field.ops c.args.f.now in
    AddsEach-zero o (g.met.F.Field.laws c.args.f.now) c.args.sums.now
    (scaled_rows o 0 c.args.x.now c.args.b.now c.args.rows.now c.args.stride)
    c.requires.sums (λ k. refl)

pub loop-l-preserved : goal.loop-l-preserved
loop-l-preserved g c =
    let o = g.F.Field.ops c.args.f.now in
    let laws = g.met.F.Field.laws c.args.f.now in
    let old = c.args.sums.now in
    let m = c.len-m.result in
    let x = c.args.x.now in
    let b = c.args.b.now in
    let rows = c.args.rows.now in
    let stride = c.args.stride in
    let l = c.loop-l.l in
    let read = c.index-b-l.result in
    let in_b : l < length b = omega (arith, c.requires.coordinates.right_length) in
    let row = take (l * stride + m - l * stride) (drop (l * stride) rows) in
    scaled_rows-more o laws old c.loop-l.sums c.add_row.new.sums l x b rows stride (o.mul x read) row
    c.requires.sums c.requires.factor c.requires.coordinates.of_elements c.requires.rows c.loop-l.invariant
    c.in_ok-add_row.ensures
    (ap (o.mul x) (read-at o b l read in_b c.index-b-l.is))
    (λ k h. at-part o rows (l * stride) m k (omega (arith, c.len-m.ensures)))
