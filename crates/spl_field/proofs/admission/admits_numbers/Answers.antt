use Rattle.std.proofs.Common.{below_more}
use Rattle.spl_field.specs.FieldByDigits.{HasInverse}
use Rattle.spl_field.proofs.Inverses.{HasInverse-some}
use Rattle.spl_field.proofs.admission.admits_numbers.Goals as goal

pub loop-a-preserved : goal.loop-a-preserved
loop-a-preserved c =
    let here : HasInverse c.args.p c.args.modulus.now c.loop-a.a =
    HasInverse-some c.args.p c.args.modulus.now c.loop-a.a c.inverse_of.result
    c.if-is_none.ensures c.inverse_of.ensures in
    below_more _ _ c.loop-a.invariant (λ _. here)
