use Rattle.spl_field.specs.SmallField.{small_ops, small_laws}
use Rattle.spl_fraction.proofs.Generators.{two_pushed, common_divisor_of_generator}
use Rattle.spl_fraction.proofs.reduction.common_divisor.Goals as goal

pub returns-clause-divisor : goal.returns-clause-divisor
returns-clause-divisor c =
    let list = two_pushed c.new-list.result c.push.new.self c.push-2.new.self c.args.a.now c.in_ok-copy.field-0
    c.args.b.now c.in_ok-copy-2.field-0
    c.new-list.ensures c.in_ok-copy.ensures.value c.in_ok-push.ensures.ok c.in_ok-copy-2.ensures.value
    c.in_ok-push-2.ensures.ok in
    common_divisor_of_generator (small_ops c.args.f.now)
    (small_laws c.args.f.now) c.push-2.new.self c.in_ok-generator.field-0.multipliers
    c.args.a.now c.args.b.now c.in_ok-generator.field-0.value list c.requires.a_over c.requires.b_over
    c.in_ok-generator.ensures.value c.in_ok-generator.ensures.multipliers_over
