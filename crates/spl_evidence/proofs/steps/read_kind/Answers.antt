use Rattle.std.proofs.Common.{◌*◌, refl}
use Rattle.spl_fraction.specs.Fractions.{field_of}
use Rattle.spl_evidence.specs.declared.word.Word.TheVariants.{Split}
use Rattle.spl_evidence.proofs.Readers.Passing.{passed, terms_fault}
use Rattle.spl_evidence.proofs.Readers.Kinds.{some_kind, kind_due, no_fraction_behind}
use Rattle.spl_evidence.proofs.steps.read_kind.Goals as goal

pub line_at-requires-clause-some_due : goal.line_at-requires-clause-some_due
line_at-requires-clause-some_due c =
    (Split, some_kind (c.args.n * c.args.n) c.args.reader.now.before c.requires.start)

pub returns-in_default-clause-fault : goal.returns-in_default-clause-fault
returns-in_default-clause-fault c =
    let n = c.args.n in
    let m = n * n in
    let r = c.in_ok-line.ensures.ok in
    let read = r.1 in
    let l = read.line in
    let w = c.in_ok-line.line.word in
    let kind = kind_due m c.args.reader.now.before l.word c.requires.start read.due in
    let none = rw c.in_default.is at c.in_ok-place.ensures in
    rw c.at.ensures
    (terms_fault (field_of c.args.f.now) n c.args.reader.now c.in_ok-line.line r.0 c.in_ok-line.after.now read r.2
    c.args.reader.now.number refl
    (none m l read.form read.words.word read.words.fractions
    (rw read.words.word (no_fraction_behind m l.word kind))))

pub returns-clause-ok : goal.returns-clause-ok
returns-clause-ok c =
    let f = field_of c.args.f.now in
    let n = c.args.n in
    let m = n * n in
    let r = c.in_ok-line.ensures.ok in
    let read = r.1 in
    let l = read.line in
    let kind = kind_due m c.args.reader.now.before l.word c.requires.start read.due in
    let some = rw c.in-Some.is at c.in_ok-place.ensures in
    let told = some m l read.form read.words.word read.words.fractions
    (rw read.words.word (no_fraction_behind m l.word kind)) in (
      l,
      passed f n c.args.reader.now c.in_ok-line.line r.0 c.in_ok-line.after.now read r.2 c.pass.new.self
          c.pass.ensures.rest c.pass.ensures.number c.pass.ensures.before told.0,
      read.words.word,
      read.words.numbers,
      told.1,
    )
