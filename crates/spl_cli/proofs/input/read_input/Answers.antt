use Rattle.std.proofs.Common.{◌+◌, arith}
use Rattle.std.proofs.lemmas.Grind.{common_steps}
use Rattle.spl_cli.proofs.Taking.{more_taken}
use Rattle.spl_cli.proofs.input.read_input.Goals as goal

pub returns-in_err-read_piece-clause-bounded : goal.returns-in_err-read_piece-clause-bounded
returns-in_err-read_piece-clause-bounded g c =
    let left = g.S.Source.left in
    let t = c.read_piece.ensures.bounded in
    more_taken c.min-room.result (c.args.limit + 1) (left c.args.source.now) (left c.loop-input.source)
    (left c.read_piece.new.source)
    c.loop-input.input.items (grind (arith, common_steps)) c.loop-input.invariant.taken
    (t.0, grind (arith, common_steps), t.2)
