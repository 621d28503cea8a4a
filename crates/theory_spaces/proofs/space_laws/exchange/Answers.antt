use Rattle.theory_spaces.proofs.Linear.Dimension.{exchange}
use Rattle.theory_spaces.proofs.space_laws.exchange.Goals as goal

pub returns : goal.returns
returns g c = exchange g.S.Space.field g.S.Space.space
