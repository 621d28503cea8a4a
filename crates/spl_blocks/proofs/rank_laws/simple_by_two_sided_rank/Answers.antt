use Rattle.spl_blocks.proofs.Ranks.{simple_by_two_sided_rank}
use Rattle.spl_blocks.proofs.rank_laws.simple_by_two_sided_rank.Goals as goal

pub returns : goal.returns
returns g c = record { rank = λ o L. simple_by_two_sided_rank o L }
