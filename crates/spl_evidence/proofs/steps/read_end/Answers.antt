use Rattle.std.proofs.Common.{◌≡◌, ◌*◌, [], ◌∷◌, sym, ap, subst, ◌∙◌}
use Rattle.spl_fraction.specs.Fractions.{field_of}
use Rattle.spl_evidence.specs.Evidence.{end_line}
use Rattle.spl_evidence.specs.Refusal.{behind, due_words, NothingIsDue}
use Rattle.spl_evidence.specs.declared.word.Word.TheVariants.{End}
use Rattle.spl_evidence.proofs.Readers.Passing.{err_behind}
use Rattle.spl_evidence.proofs.Readers.LineSteps.{first_due, only_due, end_line_is}
use Rattle.spl_evidence.proofs.steps.read_end.Goals as goal

pub read_plain-requires-clause-some_due : goal.read_plain-requires-clause-some_due
read_plain-requires-clause-some_due c =
    (End, first_due (due_words (c.args.n * c.args.n) c.args.reader.now.before) End c.requires.due)

pub returns-clause-fault : goal.returns-clause-fault
returns-clause-fault c =
    let f = field_of c.args.f.now in
    let r = c.in_ok-read_plain.ensures.ok in
    err_behind f c.args.n c.args.reader.now c.read_plain.new.reader (r.0 ∷ []) r.1 c.read_nothing.result
    (c.read_nothing.ensures.fault f)

pub read_nothing-requires-clause-nothing : goal.read_nothing-requires-clause-nothing
read_nothing-requires-clause-nothing c =
    let m = c.args.n * c.args.n in
    let before = c.args.reader.now.before in
    let r = c.in_ok-read_plain.ensures.ok in
    let right = r.1.right.0 in
    let is : r.0 ≡ end_line = end_line_is m r.0 right.form
    (only_due (due_words m before) End r.0.word c.requires.due right.due) in
    subst (NothingIsDue m) (sym (r.1.before ∙ ap (behind before) is)) c.requires.nothing
