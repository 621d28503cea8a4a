use Rattle.spl_text.proofs.Words.{after-shorter}
use Rattle.spl_text.proofs.NumberLists.{SoFar-none, SoFar-push, SoFar-last, SoFar-stuck}
use Rattle.spl_text.proofs.numbers.numbers_of.Goals as goal
use Rattle.std.specs.Prelude.{decimal}

pub loop-number-init : goal.loop-number-init
loop-number-init c = rw c.new-numbers.ensures (SoFar-none c.args.word.now)

pub loop-number-smaller : goal.loop-number-smaller
loop-number-smaller c =
    after-shorter 44 c.loop-number.rest.now (decimal c.in-Some.number) c.in-Some.after.now c.in-Some.ensures.1

pub loop-number-preserved : goal.loop-number-preserved
loop-number-preserved c =
    let l = c.loop-number in
    rw c.in_ok-push.ensures.ok
    (SoFar-push c.args.word.now l.rest.now l.numbers c.in-Some.after.now c.in-Some.number l.invariant
    c.in-Some.ensures.0 c.in-Some.ensures.1)

pub returns-in_default-number_of : goal.returns-in_default-number_of
returns-in_default-number_of c =
    let l = c.loop-number in
    SoFar-stuck c.args.word.now l.rest.now l.numbers l.invariant c.in_default.ensures c.in_default-number_of.ensures

pub returns : goal.returns
returns c =
    let l = c.loop-number in
    rw c.in_ok-push-2.ensures.ok
    (SoFar-last c.args.word.now l.rest.now l.numbers c.in-Some-number_of.last l.invariant c.in-Some-number_of.ensures.0
    c.in-Some-number_of.ensures.1)
