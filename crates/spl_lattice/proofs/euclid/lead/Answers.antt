use Rattle.std.proofs.Common.{sym, ◌∙◌}
use Rattle.spl_lattice.proofs.GreatestDivisors.{lead-ne-zero}
use Rattle.spl_lattice.proofs.euclid.lead.Goals as goal

pub returns-clause-nonzero : goal.returns-clause-nonzero
returns-clause-nonzero c e = lead-ne-zero c.args.a.now c.know_trimmed.ensures c.requires (sym c.last.ensures ∙ e)
