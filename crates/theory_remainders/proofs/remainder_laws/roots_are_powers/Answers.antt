use Rattle.theory_remainders.proofs.RemainderField.{monic}
use Rattle.theory_remainders.proofs.RemainderRoots.{root_by_power}
use Rattle.theory_remainders.proofs.remainder_laws.roots_are_powers.Goals as goal

pub returns : goal.returns
returns g c = let f = g.F.ProgramField in
    λ N m i. (monic f.ops f.laws m i, root_by_power f.ops f.laws m i N)
