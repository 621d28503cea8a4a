use Rattle.spl_text.proofs.Fractions.{fraction_unique}
use Rattle.spl_text.proofs.laws.one_fraction_a_word.Goals as goal

pub returns : goal.returns
returns c = fraction_unique
