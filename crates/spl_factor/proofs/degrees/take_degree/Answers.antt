use Rattle.std.proofs.Common.{arith, length, ap}
use Rattle.theory_factors.proofs.Parts.{divisors_of_divisor}
use Rattle.spl_factor.specs.Steps.{field, poly}
use Rattle.spl_factor.proofs.Parts.{next_self, next_trans, power_of_divisor, gcd_part, no_more_divisors}
use Rattle.spl_factor.proofs.degrees.take_degree.Goals as goal

pub steps-init : goal.steps-init
steps-init c = record {
  next = next_self c.args.f.now c.args.work.rest c.args.work.list.items c.requires.work;
  gcd = c.in_ok-part.ensures;
}

pub take_part-requires-clause-part : goal.take_part-requires-clause-part
take_part-requires-clause-part c =
    let f = c.args.f.now in
    let n = c.steps.invariant.next in
    gcd_part f c.steps.work.rest c.args.degree c.args.power.now c.in_ok-difference.difference c.steps.part
    (divisors_of_divisor (field f) c.args.degree (poly f c.args.work.rest) (poly f c.steps.work.rest)
    c.requires.divisors n.divides)
    (power_of_divisor f c.args.work.rest c.steps.work.rest c.args.degree c.args.power.now n.divides c.requires.power)
    c.in_ok-difference.ensures.value c.steps.invariant.gcd

pub steps-preserved : goal.steps-preserved
steps-preserved c =
    let w = c.in_ok-work in
    record {
      next = next_trans c.args.f.now c.args.work.rest c.steps.work.rest w.work.rest c.args.work.list.items
          c.steps.work.list.items w.work.list.items c.steps.invariant.next w.ensures.next;
      gcd = c.in_ok-part-2.ensures;
    }

pub returns-clause-divisors : goal.returns-clause-divisors
returns-clause-divisors c =
    let f = c.args.f.now in
    let n = c.steps.invariant.next in
    let short = c.steps-test.false in
    let same = ap length c.as_slice.ensures in
    no_more_divisors f c.steps.work.rest c.args.degree c.args.power.now c.in_ok-difference.difference c.steps.part
    c.requires.degree
    (divisors_of_divisor (field f) c.args.degree (poly f c.args.work.rest) (poly f c.steps.work.rest)
    c.requires.divisors n.divides)
    (power_of_divisor f c.args.work.rest c.steps.work.rest c.args.degree c.args.power.now n.divides c.requires.power)
    c.in_ok-difference.ensures.value c.steps.invariant.gcd (omega arith)
