use Rattle.spl_field.specs.SmallField.{small_ops, small_laws}
use Rattle.spl_fraction.specs.Fractions.{field_of}
use Rattle.spl_centre.proofs.Guesses.{quotient_of}
use Rattle.spl_centre.proofs.guess.quotient.Goals as goal

pub returns : goal.returns
returns c =
    let f = field_of c.args.f.now in
    let elem = rw c.in-Some.is at c.in_ok-w.ensures.elem in
    let value = rw c.in-Some.is at c.in_ok-w.ensures.value in
    quotient_of (small_ops f) (small_laws f) c.args.u.now c.args.v.now c.in-Some.w c.requires.numerator
    c.requires.denominator elem value.1
