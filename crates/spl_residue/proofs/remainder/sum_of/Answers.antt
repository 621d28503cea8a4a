use Rattle.spl_field.specs.SmallField.{small_ops, small_laws}
use Rattle.theory_remainders.proofs.RemainderValues.{sum_smaller}
use Rattle.spl_residue.proofs.remainder.sum_of.Goals as goal

pub returns-clause-remainder : goal.returns-clause-remainder
returns-clause-remainder c =
    let r = c.in_ok-add in
    sum_smaller (small_ops c.args.f.now) (small_laws c.args.f.now) c.args.modulus.now c.requires.irreducible
    c.args.a.now c.args.b.now r.field-0 c.requires.left c.requires.right
    record { over = r.ensures.over; trimmed = r.ensures.trimmed } r.ensures.value
