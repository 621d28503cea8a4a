use Rattle.theory_chains.proofs.Chains.{members_by_rows}
use Rattle.theory_chains.proofs.laws.members_by_rows.Goals as goal

pub returns : goal.returns
returns g c = record {
  members = λ o L p n lift prime T over assoc one is_one. members_by_rows o L T over assoc one is_one prime lift;
}
