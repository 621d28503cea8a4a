use Rattle.theory_rings.proofs.Numbers.IntegersMod.{integers_mod_law}
use Rattle.theory_rings.proofs.number_laws.integers_mod_law.Goals as goal

pub returns : goal.returns
returns c = integers_mod_law
