use Rattle.std.proofs.Common.{◌≡◌, ◌∙◌, []}
use Rattle.spl_fraction.specs.Fractions.{field_of}
use Rattle.spl_evidence.proofs.Readers.Passing.{passed}
use Rattle.spl_evidence.proofs.Readers.LineTerms.{plain_terms}
use Rattle.spl_evidence.proofs.Readers.LineSteps.{no_items}
use Rattle.spl_evidence.proofs.steps.read_plain.Goals as goal

pub returns-clause-ok : goal.returns-clause-ok
returns-clause-ok c =
    let f = field_of c.args.f.now in
    let r = c.in_ok-line.ensures.ok in
    let read = r.1 in
    let l = read.line in
    let none : l.fractions ≡ [] =
    no_items l.fractions (read.form.fraction_count ∙ c.requires.plain l.word read.due) in (
      l,
      passed f c.args.n c.args.reader.now c.in_ok-line.line r.0 c.in_ok-line.after.now read r.2 c.pass.new.self
          c.pass.ensures.rest c.pass.ensures.number c.pass.ensures.before (plain_terms f l none),
      read.words.word,
      read.words.numbers,
      none,
    )
