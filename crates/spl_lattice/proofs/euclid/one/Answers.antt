use Rattle.spl_lattice.proofs.euclid.one.Goals as goal

pub constant-requires : goal.constant-requires
constant-requires c = c.know_laws.ensures.one-elem
