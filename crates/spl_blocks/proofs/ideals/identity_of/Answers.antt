use Rattle.spl_blocks.proofs.ideals.identity_of.Goals as goal

pub unreachable-requires : goal.unreachable-requires
unreachable-requires g c = (rw c.in-Refuted.is at c.in_ok-tuple.ensures.refuted).0 tt c.requires.identity
