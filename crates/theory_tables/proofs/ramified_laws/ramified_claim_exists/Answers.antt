use Rattle.theory_tables.proofs.Split.Ramified.{ramified_table}
use Rattle.theory_tables.proofs.ramified_laws.ramified_claim_exists.Goals as goal

pub returns : goal.returns
returns g c = let f = g.F.PlacedTuples in
    record { root = ramified_table f.ops f.laws f.valuation f.p f.q f.uniformizer }
