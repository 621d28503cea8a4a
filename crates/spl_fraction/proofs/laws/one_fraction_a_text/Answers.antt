use Rattle.spl_fraction.proofs.CanonicalTexts.{canonical_unique}
use Rattle.spl_fraction.proofs.laws.one_fraction_a_text.Goals as goal

pub returns : goal.returns
returns c = canonical_unique c.args.f.now
