use Rattle.theory_tables.proofs.Split.SplitClaims.{split_claim_splits}
use Rattle.theory_tables.proofs.split_laws.split_claim_splits.Goals as goal

pub returns : goal.returns
returns g c = record { splits = λ o L A n maps units size S. split_claim_splits o L A n maps units size S }
