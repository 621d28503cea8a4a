use Rattle.std.proofs.lemmas.List.Elements.{All-push}
use Rattle.theory_spaces.specs.Tuples.{IsTuple}
use Rattle.spl_words.proofs.lists.rows.Goals as goal

pub loop-part-preserved : goal.loop-part-preserved
loop-part-preserved g c = rw c.in_ok-push.ensures.ok
    (All-push (IsTuple (g.F.Field.ops c.args.f.now) c.args.width) c.loop-part.rows c.in_ok-tuple.field-0
    c.loop-part.invariant c.in_ok-tuple.ensures)
