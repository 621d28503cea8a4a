use Rattle.std.proofs.Common.{ap, length, arith}
use Rattle.spl_field.specs.SmallField.{small_ops, small_laws}
use Rattle.theory_remainders.proofs.Divisions.{remainder_of_self}
use Rattle.spl_residue.proofs.remainder.rest_of.Goals as goal

pub returns-then-as_slice-clause-value : goal.returns-then-as_slice-clause-value
returns-then-as_slice-clause-value c =
    let below = c.if-as_slice.true in
    let x = ap length c.as_slice.ensures in
    let y = ap length c.as_slice-2.ensures in
    remainder_of_self (small_ops c.args.f.now) (small_laws c.args.f.now) c.args.a c.args.modulus.now
    c.requires.polynomial.over c.requires.irreducible.polynomial.over (omega arith)
