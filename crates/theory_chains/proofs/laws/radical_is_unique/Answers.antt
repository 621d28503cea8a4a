use Rattle.theory_chains.proofs.laws.radical_is_unique.Goals as goal

pub returns : goal.returns
returns g c = record {
  unique = λ o A a b ha hb. (
    hb.largest a ha.ideal ha.nilpotent,
    ha.largest b hb.ideal hb.nilpotent,
  );
}
