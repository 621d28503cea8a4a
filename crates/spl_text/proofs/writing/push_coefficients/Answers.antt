use Rattle.std.proofs.Common.{◌≡◌, length, sym}
use Rattle.std.proofs.lemmas.Bool.{eqb-true}
use Rattle.spl_text.proofs.NumberLists.{of_none}
use Rattle.spl_text.proofs.writing.push_coefficients.Goals as goal

pub returns-then-is_empty-clause-ok : goal.returns-then-is_empty-clause-ok
returns-then-is_empty-clause-ok c =
    let empty : length c.args.c.now ≡ 0 = eqb-true _ _ (sym c.if-is_empty.ensures) in
    rw (of_none c.args.c.now empty) c.push_number.ensures.ok
