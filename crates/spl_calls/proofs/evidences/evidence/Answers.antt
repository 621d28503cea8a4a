use Rattle.spl_fraction.specs.Fractions.{field_of}
use Rattle.spl_fraction.specs.FractionsOver.{fractions_over}
use Rattle.spl_calls.proofs.evidences.evidence.Goals as goal

pub returns-in-triple-len3 : goal.returns-in-triple-len3
returns-in-triple-len3 c = c.triple.ensures (fractions_over (field_of c.args.k.now))
