use Rattle.std.proofs.Common.{◌≡◌, ◌++◌, ◌+◌, ◌∷◌, [], suc, take, get_or, sym, ◌∙◌, ap, arith}
use Rattle.std.proofs.Math.Seq.{take-suc}
use Rattle.std.proofs.lemmas.List.{append-nil, append_assoc, take_all}
use Rattle.spl_radical.proofs.matrices.append.Goals as goal

pub loop-t-init : goal.loop-t-init
loop-t-init c = sym (append-nil c.args.out.now)

pub loop-t-preserved : goal.loop-t-preserved
loop-t-preserved c =
    let xs = c.args.numbers.now in
    let t = c.loop-t.t in
    let s : suc t ≡ t + 1 = omega arith in
    c.in_ok-push.ensures.ok ∙ ap (λ o. o ++ get_or xs t 0 ∷ []) c.loop-t.invariant
    ∙ append_assoc c.args.out.now (take t xs) (get_or xs t 0 ∷ [])
    ∙ ap (λ y. c.args.out.now ++ y) (sym (take-suc xs t 0 c.loop-t-test.true) ∙ ap (λ n. take n xs) s)

pub returns : goal.returns
returns c = c.loop-t.invariant
    ∙ ap (λ y. c.args.out.now ++ y) (take_all c.loop-t.t c.args.numbers.now c.loop-t-test.false)
