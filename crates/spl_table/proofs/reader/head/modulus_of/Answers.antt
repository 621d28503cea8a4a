use Rattle.std.proofs.Common.{[], ◌∷◌, ◌++◌}
use Rattle.std.specs.Prelude.{decimal}
use Rattle.spl_text.proofs.Words.{after-shorter}
use Rattle.spl_text.proofs.NumberLists.{SoFar-none, SoFar-push, SoFar-last, SoFar-stuck}
use Rattle.spl_table.proofs.Admitted.{AreBytes-push}
use Rattle.spl_table.proofs.reader.head.modulus_of.Goals as goal

pub loop-number-init : goal.loop-number-init
loop-number-init c = ([], SoFar-none c.args.word.now, c.new-bytes.ensures)

pub loop-number-smaller : goal.loop-number-smaller
loop-number-smaller c =
    after-shorter 44 c.loop-number.rest.now (decimal c.in-Some.number) c.in-Some.after.now c.in-Some.ensures.1

pub loop-number-preserved : goal.loop-number-preserved
loop-number-preserved c =
    let l = c.loop-number in
    let n = c.in-Some.number in (
      l.invariant.0 ++ n ∷ [],
      SoFar-push c.args.word.now l.rest.now l.invariant.0 c.in-Some.after.now n l.invariant.1
          c.in-Some.ensures.0 c.in-Some.ensures.1,
      AreBytes-push l.small c.push_byte-pushed.result l.invariant.0 l.bytes.items c.push_byte-pushed.new.bytes.items n
          l.invariant.2 c.push_byte-pushed.ensures.pushed c.push_byte-pushed.ensures.left,
    )

pub returns-in_err-last : goal.returns-in_err-last
returns-in_err-last c =
    let l = c.loop-number in
    rw c.from_residual.ensures
    (SoFar-stuck c.args.word.now l.rest.now l.invariant.0 l.invariant.1 c.in_default.ensures c.in_err-last.ensures)

pub returns : goal.returns
returns c =
    let l = c.loop-number in
    let n = c.in_ok-last.last in
    let spelled = SoFar-last c.args.word.now l.rest.now l.invariant.0 n l.invariant.1 c.in_ok-last.ensures.0
    c.in_ok-last.ensures.1 in (
      l.invariant.0 ++ n ∷ [],
      spelled.0,
      spelled.1,
      AreBytes-push l.small c.push_byte-pushed-2.result l.invariant.0 l.bytes.items
          c.push_byte-pushed-2.new.bytes.items n l.invariant.2 c.push_byte-pushed-2.ensures.pushed
          c.push_byte-pushed-2.ensures.left,
    )
