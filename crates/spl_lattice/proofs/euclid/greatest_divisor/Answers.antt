use Rattle.spl_field.specs.SmallField.{small_ops}
use Rattle.spl_lattice.proofs.GreatestDivisors.{euclid_start_from, euclid_step, euclid_end}
use Rattle.spl_lattice.proofs.euclid.greatest_divisor.Goals as goal

pub steps-init : goal.steps-init
steps-init c =
    let u = c.in_ok-unit in
    euclid_start_from (small_ops c.args.f.now) c.know_laws.ensures c.args.a.now c.args.b.now c.requires.a_over
    c.requires.b_over u.unit
    c.in_ok-copy.field-0 c.in_ok-copy-2.field-0 c.in_ok-zero.field-0 c.in_ok-copy-3.field-0 c.in_ok-zero-2.field-0
    c.in_ok-copy-4.field-0
    u.ensures.over u.ensures.value
    c.in_ok-copy.ensures.value c.in_ok-copy-2.ensures.value c.in_ok-zero.ensures c.in_ok-copy-3.ensures.value
    c.in_ok-zero-2.ensures c.in_ok-copy-4.ensures.value

pub steps-preserved : goal.steps-preserved
steps-preserved c =
    let x = c.steps.first in
    let y = c.steps.second in
    let r = c.in_ok-rest in
    euclid_step (small_ops c.args.f.now) c.know_laws.ensures c.args.a.now c.args.b.now c.requires.a_over
    c.requires.b_over
    x.value x.left x.right y.value y.left y.right r.rest.value r.rest.left r.rest.right c.steps.invariant
    r.ensures.value
    r.ensures.value_over r.ensures.left_over r.ensures.right_over

pub returns-clause-value : goal.returns-clause-value
returns-clause-value c =
    let x = c.steps.first in
    let y = c.steps.second in
    let u = c.in_ok-unit in
    euclid_end (small_ops c.args.f.now) c.know_laws.ensures c.args.a.now c.args.b.now c.requires.a_over
    c.requires.b_over u.unit
    x.value x.left x.right y.value y.left y.right u.ensures.over u.ensures.value c.steps.invariant
    (c.is_zero.ensures.0 c.steps-test.false)
