use Rattle.spl_field.specs.SmallField.{small_ops, small_laws}
use Rattle.spl_order.proofs.PlaceParts.{divides_tells}
use Rattle.spl_order.proofs.place_parts.divides.Goals as goal

pub returns : goal.returns
returns c =
    let d = c.in_ok-division in
    divides_tells (small_ops c.args.f.now) (small_laws c.args.f.now) c.args.a.now c.args.b.now d.division.quotient
    d.division.remainder c.requires.a c.requires.nonzero c.requires.b
    record { over = d.ensures.quotient_over; trimmed = d.ensures.quotient_trimmed }
    record { over = d.ensures.remainder_over; trimmed = d.ensures.remainder_trimmed } d.ensures.value c.is_zero.result
    c.is_zero.ensures
