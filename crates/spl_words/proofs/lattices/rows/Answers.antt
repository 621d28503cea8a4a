use Rattle.std.proofs.lemmas.List.Elements.{All-push}
use Rattle.spl_field.specs.SmallField.{small_ops}
use Rattle.theory_rows.specs.Rows.{IsPolynomialRow}
use Rattle.spl_words.proofs.lattices.rows.Goals as goal

pub loop-part-preserved : goal.loop-part-preserved
loop-part-preserved c = rw c.in_ok-push.ensures.ok
    (All-push (IsPolynomialRow (small_ops c.args.f.now) c.args.width) c.loop-part.rows c.in_ok-row.field-0
    c.loop-part.invariant c.in_ok-row.ensures)
