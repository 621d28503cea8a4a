use Rattle.std.proofs.Common.{◌≡◌, ◌+◌, subst}
use Rattle.spl_table.specs.Refusal.{whole, IsRefusal}
use Rattle.spl_table.specs.declared.refusal.Kind.TheVariants.{AfterEnd}
use Rattle.spl_table.specs.declared.refusal.Refusal.{Refusal}
use Rattle.spl_table.proofs.Faults.{after_end, is_whole}
use Rattle.spl_table.proofs.reader.read_whole.Goals as goal

pub returns-then-text-bytes-clause-refused : goal.returns-then-text-bytes-clause-refused
returns-then-text-bytes-clause-refused c = λ refusal e.
    let text = c.in_ok-text.text in
    let at_end : Refusal = record { line = text.lines + 1; kind = AfterEnd } in
    let same : at_end ≡ refusal = cc (e, c.at-then-text-bytes.ensures) in
    let P : Refusal → Type 0 = λ r. IsRefusal whole c.args.bytes.now r in
    subst P same
    (after_end c.args.bytes.now c.if-bytes-gt-TABLE_LIMIT.false text c.in_ok-text.ensures.ok c.if-text-bytes.true)

pub returns-clause-ok : goal.returns-clause-ok
returns-clause-ok c =
    is_whole c.args.bytes.now c.if-bytes-gt-TABLE_LIMIT.false c.in_ok-text.text c.in_ok-text.ensures.ok
    c.if-text-bytes.false
