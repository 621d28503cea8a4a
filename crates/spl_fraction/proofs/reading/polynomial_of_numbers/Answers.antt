use Rattle.std.proofs.Common.{sym, subst}
use Rattle.spl_field.specs.SmallField.{small_ops}
use Rattle.spl_poly.specs.Operations.{IsOver}
use Rattle.spl_fraction.proofs.reading.polynomial_of_numbers.Goals as goal

pub returns-clause-over : goal.returns-clause-over
returns-clause-over c =
    let o = small_ops c.args.f.now in
    c.in_ok-from_slice.ensures.over o (subst (IsOver o) (sym c.as_slice.ensures) c.loop-number.invariant.over)
