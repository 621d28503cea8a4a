use Rattle.std.proofs.Common.{◌∙◌, Ok, Err}
use Rattle.std.specs.Prelude.{Result, OnOk}
use Rattle.spl_table.specs.Table.{algebra_of}
use Rattle.spl_table.proofs.CanonicalLines.{one_written}
use Rattle.spl_table.proofs.writing.push_nonzero.Goals as goal

on_ok : {T E P Q : Type 0} (r : Result T E) → (P → Q) → OnOk r P → OnOk r Q
on_ok (Ok x) f p = f p
on_ok (Err e) f p = tt

pub returns : goal.returns
returns c =
    on_ok c.push_entry.result
    (one_written (algebra_of c.args.table.now) c.args.out.now.items c.push_entry.new.out.items c.args.i c.args.j
    c.args.k c.args.x.now c.requires.value (λ none.
    let is = c.is_zero.ensures.1 (c.numerator.ensures.value ∙ none) in
    absurd (let is_not = c.if-is_zero.false in cc)))
    c.push_entry.ensures
