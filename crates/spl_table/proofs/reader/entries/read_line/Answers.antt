use Rattle.std.proofs.Common.{◌++◌, ◌∷◌, [], length, append_assoc}
use Rattle.std.specs.Prelude.{None}
use Rattle.std.proofs.lemmas.Result.{err_from_is_err_and}
use Rattle.spl_text.specs.Text.{line}
use Rattle.spl_field.specs.SmallField.{small_ops}
use Rattle.spl_fraction.specs.Fractions.{field_of}
use Rattle.spl_table.specs.Refusal.{last_of}
use Rattle.spl_table.specs.Reading.{head_of, entry_of}
use Rattle.spl_table.proofs.EntryFaults.{right_over, refused_over}
use Rattle.spl_table.proofs.Filling.{is_free, SoFar-push, SoFar-refused}
use Rattle.spl_table.proofs.reader.entries.read_line.Goals as goal

pub returns-in_err-entry-clause-fault : goal.returns-in_err-entry-clause-fault
returns-in_err-entry-clause-fault c =
    let k = field_of c.args.k.now in
    let constants = c.args.constants.now in
    let p = err_from_is_err_and c.from_residual.result c.from_residual.ensures.1 in
    λ bytes after so.
    rw (p.1, p.2)
    (SoFar-refused (small_ops k)
    (head_of k c.args.n) bytes (line c.args.text.now ++ after) c.args.number constants so c.args.text.now after
    c.in_err-entry.field-0.0 (append_assoc c.args.text.now (10 ∷ []) after)
    (refused_over c.field.result.now k c.args.n c.len.result
    (length constants) c.field.ensures c.len.ensures (last_of None so.entries) so.previous c.args.text.now c.args.number
    c.in_err-entry.field-0.0
    c.in_err-entry.ensures.fault after))

pub push_entry-requires-clause-free : goal.push_entry-requires-clause-free
push_entry-requires-clause-free c =
    let k = field_of c.args.k.now in
    let constants = c.args.constants.now in
    let s = c.requires.so_far in
    let so = s.2 in
    let e = entry_of c.in_ok-entry.entry in
    is_free (small_ops k) (head_of k c.args.n) s.0 s.1 c.args.number constants so e
    (right_over c.field.result.now k c.args.n c.len.result (length constants) c.field.ensures c.len.ensures
    (last_of None so.entries) so.previous e c.in_ok-entry.ensures.right)

pub returns-clause-read : goal.returns-clause-read
returns-clause-read c =
    let k = field_of c.args.k.now in
    let constants = c.args.constants.now in
    let e = entry_of c.in_ok-entry.entry in
    let items = c.in_ok-push_entry.ensures.items in
    λ bytes after so.
    let right = right_over c.field.result.now k c.args.n c.len.result (length constants) c.field.ensures c.len.ensures
    (last_of None so.entries) so.previous e c.in_ok-entry.ensures.right in
    rw items.2
    (SoFar-push (small_ops k) (head_of k c.args.n) bytes (line c.args.text.now ++ after) c.args.number constants so
    c.args.text.now after e items.0 (append_assoc c.args.text.now (10 ∷ []) after) c.in_ok-entry.ensures.spelled right
    items.1)
