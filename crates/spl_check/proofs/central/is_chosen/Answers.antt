use Rattle.std.proofs.Common.{cond, ap, sym, ◌∙◌}
use Rattle.spl_check.proofs.Tests.{reworded}
use Rattle.spl_check.proofs.central.is_chosen.Goals as goal

pub returns-then-test : goal.returns-then-test
returns-then-test g c =
    let e = ap (λ t. cond t c.args.a.now c.args.b.now) c.if-test.true in
    reworded c.eq.result c.eq.ensures (λ h. h ∙ sym e) (λ h. h ∙ e)

pub returns : goal.returns
returns g c =
    let e = ap (λ t. cond t c.args.a.now c.args.b.now) c.if-test.false in
    reworded c.eq-2.result c.eq-2.ensures (λ h. h ∙ sym e) (λ h. h ∙ e)
