use Rattle.spl_text.proofs.Fractions.{not_whole, not_left, not_right, parts}
use Rattle.spl_text.proofs.fraction.fraction_of.Goals as goal

pub returns-in_default-2 : goal.returns-in_default-2
returns-in_default-2 c =
    not_whole c.args.word.now c.in_default.ensures (rw c.in_default-2.is at c.in_ok-numerator.ensures)

pub returns-in_default-3 : goal.returns-in_default-3
returns-in_default-3 c =
    not_left c.args.word.now c.in-Some.left.now c.in-Some.right.now c.in-Some.ensures.0 c.in-Some.ensures.1
    (rw c.in_default-3.is at c.in_ok-numerator-2.ensures)

pub returns-in_default-4 : goal.returns-in_default-4
returns-in_default-4 c =
    not_right c.args.word.now c.in-Some.left.now c.in-Some.right.now c.in-Some.ensures.0 c.in-Some.ensures.1
    (rw c.in_default-4.is at c.in_ok-denominator.ensures)

pub returns : goal.returns
returns c =
    let num = rw c.in-Some-3.is at c.in_ok-numerator-2.ensures in
    let den = rw c.in-Some-4.is at c.in_ok-denominator.ensures in
    parts c.args.word.now c.in-Some.left.now c.in-Some.right.now c.in-Some-3.numerator c.in-Some-4.denominator
    c.in-Some.ensures.1 num.0 den.0 num.1 den.1
