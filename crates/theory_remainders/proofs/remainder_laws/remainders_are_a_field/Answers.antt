use Rattle.theory_remainders.proofs.RemainderField.{monic, remainder_laws}
use Rattle.theory_remainders.proofs.RemainderValues.{are_remainder_ops}
use Rattle.theory_remainders.proofs.remainder_laws.remainders_are_a_field.Goals as goal

pub returns : goal.returns
returns g c = let f = g.F.ProgramField in
    λ m i. (monic f.ops f.laws m i, remainder_laws f.ops f.laws m i, are_remainder_ops f.ops f.laws m i)
