use Rattle.std.proofs.Common.{subst}
use Rattle.spl_field.specs.SmallField.{small_ops}
use Rattle.theory_fractions.specs.PolynomialLists.{IsDivision}
use Rattle.spl_order.proofs.RemainderLists.{more_remainders}
use Rattle.spl_order.proofs.Values.{read_is}
use Rattle.spl_order.proofs.remainders.remainders.Goals as goal

pub loop-p-preserved : goal.loop-p-preserved
loop-p-preserved c =
    let o = small_ops c.args.f.now in
    let m = c.args.m.now in
    let items = c.args.items.now in
    let p = c.loop-p.p in
    let d = c.in_ok-divide in
    let division = subst (λ u. IsDivision o u m d.field-0.quotient d.field-0.remainder)
    (read_is items p c.index-items-p.result c.loop-p-test.true c.index-items-p.is) d.ensures.value in
    more_remainders o m items p c.loop-p.rest c.push.new.self d.field-0.remainder c.loop-p.invariant
    c.in_ok-push.ensures.ok
    (record {
      polynomial = record { over = d.ensures.remainder_over; trimmed = d.ensures.remainder_trimmed };
      smaller = division.smaller;
    })
    (d.field-0.quotient, d.ensures.quotient_over, division)
