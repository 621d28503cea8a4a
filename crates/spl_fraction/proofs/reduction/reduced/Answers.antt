use Rattle.std.proofs.Common.{⊎_elim}
use Rattle.spl_field.specs.SmallField.{small_ops, small_laws}
use Rattle.theory_fractions.proofs.Reducing.{zero_lowest_pair, zero_value_pair, coprime_of_constant_left}
use Rattle.theory_fractions.proofs.Reducing.{coprime_of_constant_right, coprime_of_constant_divisor, divisor_nonzero}
use Rattle.spl_fraction.proofs.reduction.reduced.Goals as goal

pub returns-then-is_zero-clause-lowest : goal.returns-then-is_zero-clause-lowest
returns-then-is_zero-clause-lowest c =
    zero_lowest_pair (small_ops c.args.f.now) (small_laws c.args.f.now) c.of.result c.args.num c.in_ok-one_poly.field-0
    (c.is_zero.ensures.0 c.if-is_zero.true) c.in_ok-one_poly.ensures c.of.ensures

pub returns-then-is_zero-clause-value : goal.returns-then-is_zero-clause-value
returns-then-is_zero-clause-value c =
    zero_value_pair (small_ops c.args.f.now) (small_laws c.args.f.now) c.of.result c.args.num c.in_ok-one_poly.field-0
    (c.is_zero.ensures.0 c.if-is_zero.true) c.in_ok-one_poly.ensures c.of.ensures c.args.den c.requires.den_over

pub with_monic_denominator-requires-clause-coprime : goal.with_monic_denominator-requires-clause-coprime
with_monic_denominator-requires-clause-coprime c =
    let o = small_ops c.args.f.now in
    let L = small_laws c.args.f.now in
    ⊎_elim
    (λ l. coprime_of_constant_left o L c.args.num c.args.den record {
      over = c.requires.num_over;
      trimmed =
          c.requires.num_trimmed;
    } l)
    (λ l. coprime_of_constant_right o L c.args.num c.args.den record {
      over = c.requires.den_over;
      trimmed =
          c.requires.den_trimmed;
    } l)
    (c.has_constant.ensures c.if-has_constant.true)

pub with_monic_denominator-requires-then-is_constant-clause-coprime :
    goal.with_monic_denominator-requires-then-is_constant-clause-coprime
with_monic_denominator-requires-then-is_constant-clause-coprime c =
    coprime_of_constant_divisor (small_ops c.args.f.now)
    (small_laws c.args.f.now) c.args.num c.args.den c.in_ok-divisor.divisor
    record { over = c.requires.num_over; trimmed = c.requires.num_trimmed }
    record { over = c.requires.den_over; trimmed = c.requires.den_trimmed }
    record { over = c.in_ok-divisor.ensures.over; trimmed = c.in_ok-divisor.ensures.trimmed }
    c.in_ok-divisor.ensures.divisor (c.is_constant.ensures.0 c.if-is_constant.true)

pub divided-requires-clause-divisor_nonzero : goal.divided-requires-clause-divisor_nonzero
divided-requires-clause-divisor_nonzero c =
    divisor_nonzero (small_ops c.args.f.now) (small_laws c.args.f.now) c.args.num c.args.den c.in_ok-divisor.divisor
    record {
      over = c.requires.den_over;
      trimmed =
          c.requires.den_trimmed;
    } c.requires.den_nonzero c.in_ok-divisor.ensures.divisor
