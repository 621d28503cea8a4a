use Rattle.theory_rings.proofs.Numbers.IntegersMod.{field_mod_law}
use Rattle.theory_rings.proofs.number_laws.field_mod_law.Goals as goal

pub returns : goal.returns
returns c = field_mod_law
