use Rattle.std.proofs.Common.{◌≡◌, ◌+◌, suc, arith}
use Rattle.spl_factor.proofs.Quotients.{length_monic}
use Rattle.spl_factor.proofs.Parts.{at_degree_one, at_next_degree, power_at_degree, next_shorter}
use Rattle.spl_factor.proofs.Parts.{irreducible_of_divisors}
use Rattle.spl_factor.proofs.degrees.split_by_degrees.Goals as goal

pub degrees-init : goal.degrees-init
degrees-init c =
    at_degree_one c.args.f.now c.args.a c.in_ok-power.power _ c.requires c.in_ok-power.ensures c.new.ensures.items

pub raised-requires-clause-polynomial : goal.raised-requires-clause-polynomial
raised-requires-clause-polynomial c = c.degrees.invariant.term

pub raised-requires-clause-modulus : goal.raised-requires-clause-modulus
raised-requires-clause-modulus c =
    let w = c.degrees.invariant.next.work in
    w.monic.polynomial

pub raised-requires-clause-positive : goal.raised-requires-clause-positive
raised-requires-clause-positive c =
    let w = c.degrees.invariant.next.work in
    let l = length_monic c.args.f.now c.degrees.work.rest w.monic in
    let e = c.degree_of.ensures in
    let t = c.degrees-test.true in
    let p = c.degrees.invariant.positive in
    omega arith

pub take_degree-requires : goal.take_degree-requires
take_degree-requires c = record {
  degree = c.degrees.invariant.positive;
  work = c.degrees.invariant.next.work;
  divisors = c.degrees.invariant.divisors;
  polynomial = c.in_ok-power-2.ensures.polynomial;
  power = power_at_degree c.args.f.now c.args.a c.degrees.degree c.degrees.work.rest c.degrees.work.list.items
      c.degrees.power c.in_ok-power-2.power c.degrees.invariant c.in_ok-power-2.ensures.value;
}

pub degrees-preserved : goal.degrees-preserved
degrees-preserved c =
    let v = c.in_ok-power-2 in
    let w = c.in_ok-work in
    let e : c.degrees.degree + 1 ≡ suc c.degrees.degree = omega arith in
    at_next_degree c.args.f.now c.args.a c.degrees.degree (c.degrees.degree + 1) c.degrees.work.rest
    c.degrees.work.list.items c.degrees.power v.power w.work.rest w.work.list.items c.degrees.invariant
    v.ensures.value v.ensures.polynomial w.ensures.next w.ensures.divisors e

pub degrees-smaller : goal.degrees-smaller
degrees-smaller c =
    let i = c.degrees.invariant in
    let n = i.next in
    let w = c.in_ok-work in
    let k = n.work in
    let l = length_monic c.args.f.now c.degrees.work.rest k.monic in
    let e = c.degree_of.ensures in
    let t = c.degrees-test.true in
    let s = next_shorter c.args.f.now c.degrees.work.rest w.work.rest c.degrees.work.list.items w.work.list.items
    n.work w.ensures.next in
    omega arith

pub returns-clause-next : goal.returns-clause-next
returns-clause-next c = c.degrees.invariant.next

pub returns-clause-last : goal.returns-clause-last
returns-clause-last c = λ p.
    let w = c.degrees.invariant.next.work in
    let e = c.degree_of.ensures in
    let t = c.degrees-test.false in
    irreducible_of_divisors c.args.f.now c.degrees.degree c.degrees.work.rest w.monic c.degrees.invariant.divisors p
    (omega arith)
