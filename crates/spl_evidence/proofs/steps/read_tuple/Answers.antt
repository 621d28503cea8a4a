use Rattle.std.proofs.Common.{◌∙◌, ◌*◌, refl}
use Rattle.spl_fraction.specs.Fractions.{field_of}
use Rattle.spl_evidence.specs.Refusal.{due_words}
use Rattle.spl_evidence.proofs.Readers.Passing.{passed, terms_fault}
use Rattle.spl_evidence.proofs.Readers.LineTerms.{element_terms}
use Rattle.spl_evidence.proofs.Readers.LineSteps.{first_due, tuple_due}
use Rattle.spl_evidence.proofs.steps.read_tuple.Goals as goal

pub line_at-requires-clause-some_due : goal.line_at-requires-clause-some_due
line_at-requires-clause-some_due c =
    let due = c.requires.due in
    (due.0, first_due (due_words (c.args.n * c.args.n) c.args.reader.now.before) due.0 due.1)

pub returns-in_default-clause-fault : goal.returns-in_default-clause-fault
returns-in_default-clause-fault c =
    let n = c.args.n in
    let r = c.in_ok-line.ensures.ok in
    let read = r.1 in
    let terms = tuple_due (n * n) (due_words (n * n) c.args.reader.now.before) read.line.word c.requires.due read.due in
    let none = rw c.in_default.is at c.in_ok-tuple.ensures in
    rw c.at.ensures
    (terms_fault (field_of c.args.f.now) n c.args.reader.now c.in_ok-line.line r.0 c.in_ok-line.after.now read r.2
    c.args.reader.now.number refl
    (λ t. none read.line.fractions (read.form.fraction_count ∙ terms.count) read.form.fractions read.words.fractions
    t.canonical))

pub returns-clause-ok : goal.returns-clause-ok
returns-clause-ok c =
    let f = field_of c.args.f.now in
    let n = c.args.n in
    let r = c.in_ok-line.ensures.ok in
    let read = r.1 in
    let l = read.line in
    let terms = tuple_due (n * n) (due_words (n * n) c.args.reader.now.before) l.word c.requires.due read.due in
    let some = rw c.in-Some.is at c.in_ok-tuple.ensures in
    let tuple = some l.fractions (read.form.fraction_count ∙ terms.count) read.form.fractions read.words.fractions in (
      tuple.0,
      (
        l,
        passed f n c.args.reader.now c.in_ok-line.line r.0 c.in_ok-line.after.now read r.2 c.pass.new.self
            c.pass.ensures.rest c.pass.ensures.number c.pass.ensures.before
            (element_terms f l c.in-Some.tuple tuple.0.of_elements tuple.1 (terms.allowed l.fractions)),
        tuple.1,
      ),
    )
