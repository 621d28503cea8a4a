use Rattle.std.proofs.Common.{sym, subst}
use Rattle.spl_radical.specs.Multiples.{IsMultiple, AreMultiples}
use Rattle.spl_radical.proofs.MultipleSteps.{next_row}
use Rattle.spl_radical.proofs.multiples.multiples.Goals as goal

pub next_multiple-requires-clause-known : goal.next_multiple-requires-clause-known
next_multiple-requires-clause-known c = subst (λ o. AreMultiples c.args.q c.args.w c.args.back.now c.args.turns.now
    c.args.rows.now o c.loop-r.r) (sym c.as_slice.ensures) c.loop-r.invariant

pub loop-r-preserved : goal.loop-r-preserved
loop-r-preserved c = next_row c.args.q c.args.w c.args.back.now c.args.turns.now c.args.rows.now
    c.requires.steps.digits c.loop-r.out c.push.new.self c.loop-r.r c.in_ok-next_multiple.field-0 c.loop-r.invariant
    (subst (λ o. IsMultiple c.args.q c.args.w c.args.back.now c.args.turns.now c.args.rows.now o c.loop-r.r
    c.in_ok-next_multiple.field-0) c.as_slice.ensures
    c.in_ok-next_multiple.ensures) c.in_ok-push.ensures.ok
