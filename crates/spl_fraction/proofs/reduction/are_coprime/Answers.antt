use Rattle.spl_field.specs.SmallField.{small_ops, small_laws}
use Rattle.std.proofs.Common.{refl}
use Rattle.theory_fractions.proofs.Reducing.{coprime_of_constant_left, coprime_of_constant_divisor, constant_of_coprime}
use Rattle.spl_fraction.proofs.reduction.are_coprime.Goals as goal

pub returns-then-is_constant : goal.returns-then-is_constant
returns-then-is_constant c = (
  λ _. coprime_of_constant_left (small_ops c.args.f.now) (small_laws c.args.f.now) c.args.a.now c.args.b.now
      record { over = c.requires.a_over; trimmed = c.requires.a_trimmed }
      (c.is_constant.ensures.0 c.if-is_constant.true),
  λ _. refl,
)

pub returns : goal.returns
returns c = (
  λ e. coprime_of_constant_divisor (small_ops c.args.f.now)
      (small_laws c.args.f.now) c.args.a.now c.args.b.now c.in_ok-divisor.divisor
      record { over = c.requires.a_over; trimmed = c.requires.a_trimmed }
      record { over = c.requires.b_over; trimmed = c.requires.b_trimmed }
      record { over = c.in_ok-divisor.ensures.over; trimmed = c.in_ok-divisor.ensures.trimmed }
      c.in_ok-divisor.ensures.divisor (c.is_constant-2.ensures.0 e),
  λ h. c.is_constant-2.ensures.1
      (constant_of_coprime (small_ops c.args.f.now)
      (small_laws c.args.f.now) c.args.a.now c.args.b.now c.in_ok-divisor.divisor
      record { over = c.requires.b_over; trimmed = c.requires.b_trimmed }
      record { over = c.in_ok-divisor.ensures.over; trimmed = c.in_ok-divisor.ensures.trimmed }
      c.requires.b_nonzero c.in_ok-divisor.ensures.divisor h),
)
