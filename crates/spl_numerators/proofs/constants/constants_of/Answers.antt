use Rattle.std.proofs.Common.{◌≡◌, ℕ, length, subst, arith}
use Rattle.spl_field.specs.SmallField.{small_ops, small_laws}
use Rattle.spl_numerators.specs.Constants.{AreConstantFractions}
use Rattle.spl_numerators.proofs.ConstantFractions.{no_constants}
use Rattle.spl_numerators.proofs.constants.constants_of.Goals as goal

pub loop-i-init : goal.loop-i-init
loop-i-init c =
    no_constants (small_ops c.args.f.now) (small_laws c.args.f.now) c.args.list.now c.new-items.result
    c.new-items.ensures

pub returns : goal.returns
returns c =
    let whole : c.loop-i.i ≡ length c.args.list.now = omega (arith, c.loop-i-test.false, c.loop-i.auto) in
    let P : ℕ → Type 0 = λ n. AreConstantFractions (small_ops c.args.f.now) c.args.list.now n c.loop-i.items in
    subst P whole c.loop-i.invariant
