use Rattle.std.proofs.Common.{◌≡◌, ◌≢◌, length, sym, arith}
use Rattle.std.proofs.lemmas.Bool.{eqb-true, eqb-false}
use Rattle.spl_text.specs.FractionWords.{text_of}
use Rattle.spl_evidence.proofs.SpacedWords.{FractionsRead-push, fractions_no_word, fractions_no_item, fractions_no_end}
use Rattle.spl_evidence.proofs.SpacedWords.{fractions_end}
use Rattle.spl_evidence.proofs.arguments.are_fractions.Goals as goal

pub loop-preserved : goal.loop-preserved
loop-preserved c =
    let l = c.loop in
    let w = c.in-Some.ensures in
    let t = rw c.in-Some-2.is at c.in_ok-value.ensures in
    FractionsRead-push c.args.text.now l.rest.now l.counter l.below c.args.q l.invariant c.in-Some.word.now
    c.in-Some.after.now (text_of c.in-Some-2.value) c.has_elements.result c.both-below.result w.2 w.1 t.0 t.1
    c.has_elements.ensures c.both-below.ensures

pub returns-in_default : goal.returns-in_default
returns-in_default c =
    let l = c.loop in
    λ ts same each.
    fractions_no_word c.args.text.now l.rest.now l.counter l.below c.args.q l.invariant c.in_default.ensures ts
    (omega (arith, same, c.loop-test.true)) each

pub returns-in_default-2 : goal.returns-in_default-2
returns-in_default-2 c =
    let l = c.loop in
    let w = c.in-Some.ensures in
    λ ts same each.
    fractions_no_item c.args.text.now l.rest.now l.counter l.below c.args.q l.invariant c.in-Some.word.now
    c.in-Some.after.now w.0 w.1 w.2 (rw c.in_default-2.is at c.in_ok-value.ensures) ts
    (omega (arith, same, c.loop-test.true)) each

pub returns-then-not-is_empty : goal.returns-then-not-is_empty
returns-then-not-is_empty c =
    let l = c.loop in
    let some : length l.rest.now ≢ 0 = eqb-false _ _ (sym c.if-not-is_empty.ensures) in
    λ ts same each.
    fractions_no_end c.args.text.now l.rest.now l.counter l.below c.args.q l.invariant some ts
    (omega (arith, same, c.loop-test.false, l.auto.counter-end)) each

pub returns : goal.returns
returns c =
    let l = c.loop in
    let none : length l.rest.now ≡ 0 = eqb-true _ _ (sym c.if-not-is_empty.ensures) in
    let all : l.counter ≡ c.args.count = omega (arith, c.loop-test.false, l.auto.counter-end) in
    rw (sym all) (fractions_end c.args.text.now l.rest.now l.counter l.below c.args.q l.invariant none)
