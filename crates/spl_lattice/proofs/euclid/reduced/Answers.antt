use Rattle.spl_field.specs.SmallField.{small_ops}
use Rattle.spl_lattice.proofs.GreatestDivisors.{remainder_is_sum}
use Rattle.spl_lattice.proofs.euclid.reduced.Goals as goal

pub returns-clause-value : goal.returns-clause-value
returns-clause-value c =
    let d = c.in_ok-division in
    let m = c.in_ok-multiple in
    let n = c.in_ok-opposite in
    record {
      multiple = m.multiple;
      over = m.ensures.over;
      value = remainder_is_sum
          (small_ops c.args.f.now) c.know_laws.ensures c.args.first.now.value c.args.second.now.value
          d.division.quotient d.division.remainder
          n.opposite m.multiple c.requires.first_value c.requires.second_value d.ensures.quotient_over
          d.ensures.remainder_over n.ensures.over m.ensures.over
          d.ensures.value n.ensures.value m.ensures.value;
      left = c.in_ok-add_multiple.ensures.value;
      right = c.in_ok-add_multiple-2.ensures.value;
    }
