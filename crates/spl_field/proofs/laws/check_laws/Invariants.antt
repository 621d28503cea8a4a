use Rattle.std.proofs.Common.{◌<◌}
use Rattle.spl_field.specs.declared.laws.Law.{Law}
use Rattle.spl_field.specs.Laws.{number_of, Holds}
use Rattle.spl_field.proofs.laws.check_laws.Given as goal

abbrev pub invariant-loop-number : goal.invariant-loop-number
invariant-loop-number l = (k : Law) → number_of k < l.number → Holds l.tables.size l.tables.sum l.tables.product k
