use Rattle.std.proofs.lemmas.List.Elements.{All-push}
use Rattle.theory_rings.specs.Ops.{IsElem}
use Rattle.spl_words.proofs.lists.elements.Goals as goal

pub loop-word-preserved : goal.loop-word-preserved
loop-word-preserved g c = rw c.in_ok-push.ensures.ok
    (All-push (IsElem (g.F.Field.ops c.args.f.now)) c.loop-word.items c.in_ok-read.field-0
    c.loop-word.invariant c.in_ok-read.ensures)
