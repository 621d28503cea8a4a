use Rattle.std.proofs.Common.{◌∷◌, [], arith}
use Rattle.std.proofs.lemmas.List.{length-append}
use Rattle.spl_evidence.proofs.SpacedWords.{numbers_push, numbers_no_word, numbers_no_item}
use Rattle.spl_evidence.proofs.arguments.numbers_of.Goals as goal

pub loop-preserved : goal.loop-preserved
loop-preserved c =
    let l = c.loop in
    let w = c.in-Some.ensures in
    let n = c.in-Some-number_of.ensures in
    rw c.in_ok-push.ensures.ok record {
      so_far = numbers_push c.args.text.now l.rest.now l.numbers l.invariant.so_far c.in-Some.word.now
          c.in-Some.after.now c.in-Some-number_of.number w.2 w.1 n.0 n.1;
      many = omega (arith, length-append l.numbers (c.in-Some-number_of.number ∷ []), l.invariant.many);
    }

pub returns-in_default : goal.returns-in_default
returns-in_default c =
    let l = c.loop in
    λ ns rest same each ends.
    numbers_no_word c.args.text.now l.rest.now l.numbers l.invariant.so_far c.in_default.ensures ns rest
    (omega (arith, l.invariant.many, same, c.loop-test.true)) each ends

pub returns-in_default-number_of : goal.returns-in_default-number_of
returns-in_default-number_of c =
    let l = c.loop in
    let w = c.in-Some.ensures in
    λ ns rest same each ends.
    numbers_no_item c.args.text.now l.rest.now l.numbers l.invariant.so_far c.in-Some.word.now c.in-Some.after.now w.0
    w.1 w.2 c.in_default-number_of.ensures ns rest (omega (arith, l.invariant.many, same, c.loop-test.true)) each ends
