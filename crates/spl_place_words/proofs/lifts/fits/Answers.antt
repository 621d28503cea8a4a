use Rattle.std.proofs.Common.{◌≤◌, ◌*◌, arith}
use Rattle.std.proofs.lemmas.Bool.{false≢true}
use Rattle.std.proofs.Math.Nat.{mul-le-mul}
use Rattle.spl_place_words.proofs.PowerSteps.{first_power, next_power, larger_power}
use Rattle.spl_place_words.proofs.lifts.fits.Goals as goal

pub loop-i-init : goal.loop-i-init
loop-i-init c = (first_power c.args.p, (let h = c.requires.most in omega arith))

pub overflow_mul-power : goal.overflow_mul-power
overflow_mul-power c =
    let most : c.args.p ≤ 65536 = let h = c.requires.most in omega arith in
    let h : c.loop-i.power * c.args.p ≤ 1099511627776 * 65536 = mul-le-mul c.loop-i.invariant.1 most in
    omega arith

pub loop-i-preserved : goal.loop-i-preserved
loop-i-preserved c =
    (next_power c.args.p c.loop-i.i c.loop-i.power c.loop-i.invariant.0, c.if-power-gt-MOST.false)

pub returns-then-power-gt-MOST : goal.returns-then-power-gt-MOST
returns-then-power-gt-MOST c =
    let g = larger_power c.args.p c.args.l c.loop-i.i c.loop-i.power c.requires.least c.loop-i-test.true
    c.loop-i.invariant.0 in
    let k = c.if-power-gt-MOST.true in
    (λ t. absurd (false≢true t), λ h. absurd (omega arith))
