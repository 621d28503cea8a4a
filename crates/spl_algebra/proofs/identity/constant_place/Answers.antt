use Rattle.std.proofs.Common.{arith}
use Rattle.spl_algebra.proofs.IdentityRows.{right_place-within}
use Rattle.spl_algebra.proofs.identity.constant_place.Goals as goal

pub overflow_add-result-3 : goal.overflow_add-result-3
overflow_add-result-3 c = omega (arith, right_place-within c.args.m c.args.i c.args.c c.requires.row c.requires.column)

pub returns-clause-within : goal.returns-clause-within
returns-clause-within c = right_place-within c.args.m c.args.i c.args.c c.requires.row c.requires.column
