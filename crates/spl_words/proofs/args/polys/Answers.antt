use Rattle.std.proofs.lemmas.List.Elements.{All-push}
use Rattle.theory_rings.specs.Polynomial.{IsTrimmed}
use Rattle.spl_field.specs.SmallField.{small_ops}
use Rattle.spl_poly.specs.Operations.{IsOver}
use Rattle.spl_words.proofs.args.polys.Goals as goal

pub loop-word-preserved : goal.loop-word-preserved
loop-word-preserved c =
    let l = c.loop-word in
    let p = c.in_ok-poly.field-0 in
    record {
      over = rw c.in_ok-push.ensures.ok
          (All-push (IsOver (small_ops c.args.f.now)) l.row p l.invariant.over c.in_ok-poly.ensures.over);
      trimmed =
          rw c.in_ok-push.ensures.ok (All-push (IsTrimmed 0) l.row p l.invariant.trimmed c.in_ok-poly.ensures.trimmed);
    }
