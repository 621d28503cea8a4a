use Rattle.std.proofs.Common.{◌≡◌, subst, arith}
use Rattle.spl_field.specs.SmallField.{small_ops}
use Rattle.spl_order.specs.Values.{AreUnitCoordinates}
use Rattle.spl_order.proofs.InverseRows.{no_coordinates, more_coordinates}
use Rattle.spl_order.proofs.inverse.all_coordinates.Goals as goal

pub loop-i-init : goal.loop-i-init
loop-i-init c = no_coordinates (small_ops c.args.f.now) c.args.reduced.now.basis c.args.n c.args.d.now
    c.new-rows.result c.new-rows.ensures

pub loop-i-preserved : goal.loop-i-preserved
loop-i-preserved c =
    let p = c.in_ok-unit_coordinates in
    more_coordinates (small_ops c.args.f.now) c.args.reduced.now.basis c.args.n c.args.d.now c.loop-i.i c.loop-i.rows
    c.push.new.self p.field-0 c.loop-i.invariant c.in_ok-push.ensures.ok p.ensures.row p.ensures.value

pub returns : goal.returns
returns c =
    let whole : c.loop-i.i ≡ c.args.n = omega (arith, c.loop-i-test.false, c.loop-i.auto) in
    subst (λ m. AreUnitCoordinates (small_ops c.args.f.now) c.args.reduced.now.basis c.args.n c.args.d.now m c.loop-i.rows)
    whole c.loop-i.invariant
