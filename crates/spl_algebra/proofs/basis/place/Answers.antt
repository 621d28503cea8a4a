use Rattle.std.proofs.Common.{◌*◌, refl}
use Rattle.spl_algebra.proofs.Contractions.{constant_within}
use Rattle.spl_algebra.proofs.basis.place.Goals as goal

pub returns-clause-within : goal.returns-clause-within
returns-clause-within c = let a = c.args in
    constant_within a.i a.j a.k a.m (a.m * a.m * a.m) c.requires.first c.requires.second c.requires.third refl
