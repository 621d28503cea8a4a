use Rattle.spl_place_words.proofs.orders_at.power.Goals as goal

pub power_in_place-requires-clause-associative : goal.power_in_place-requires-clause-associative
power_in_place-requires-clause-associative c = c.in_ok-residue.ensures.associative c.in_ok-a.ensures.associative
