use Rattle.theory_tables.proofs.Split.Ramified.{ramified_excludes_split, ramified_excludes_split_claim}
use Rattle.theory_tables.proofs.ramified_laws.ramified_excludes_split.Goals as goal

pub returns : goal.returns
returns g c =
    let f = g.F.PlacedTuples in
    record {
      excludes = ramified_excludes_split f.ops f.laws f.valuation f.p f.q f.uniformizer;
      excludes_claim = ramified_excludes_split_claim f.ops f.laws f.valuation f.p f.q f.uniformizer;
    }
