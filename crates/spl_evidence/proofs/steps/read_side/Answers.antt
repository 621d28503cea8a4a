use Rattle.std.proofs.Common.{◌≡◌, ◌*◌, [], ◌∷◌, refl, sym, ap, subst, ◌∙◌}
use Rattle.spl_fraction.specs.Fractions.{field_of}
use Rattle.spl_evidence.specs.Line.{Line}
use Rattle.spl_evidence.specs.Evidence.{end_line}
use Rattle.spl_evidence.specs.Reading.{Reads}
use Rattle.spl_evidence.proofs.Readers.Passing.{passed, terms_fault}
use Rattle.spl_evidence.proofs.Readers.LineTerms.{plain_terms, multiplier_terms}
use Rattle.spl_evidence.proofs.ReadLines.{not_false}
use Rattle.spl_evidence.proofs.Readers.LineSteps.{IsSide, side_of, side_fractions, side_allowed, allowed_side}
use Rattle.spl_evidence.proofs.Readers.LineSteps.{end_line_is, multiplier_line_is}
use Rattle.spl_evidence.proofs.steps.read_side.Goals as goal

pub returns-in_default-clause-fault : goal.returns-in_default-clause-fault
returns-in_default-clause-fault c =
    let n = c.args.n in
    let r = c.in_ok-line.ensures.ok in
    let read = r.1 in
    let l = read.line in
    let side = side_of l.word (c.requires.sides l.word read.due)
    (λ e. not_false c.is_end.result c.if-is_end.false (c.is_end.ensures.1 (read.words.word ∙ e))) in
    let none = rw c.in_default.is at c.in_ok-x.ensures in
    rw c.at.ensures
    (terms_fault (field_of c.args.f.now) n c.args.reader.now c.in_ok-line.line r.0 c.in_ok-line.after.now read r.2
    c.args.reader.now.number refl
    (λ t. none l.fractions (side_fractions (n * n) l read.form side) read.form.fractions read.words.fractions
    t.canonical (side_allowed l.word l.fractions side t.allowed)))

pub returns-clause-ok : goal.returns-clause-ok
returns-clause-ok c =
    let f = field_of c.args.f.now in
    let n = c.args.n in
    let r = c.in_ok-line.ensures.ok in
    let read = r.1 in
    let l = read.line in
    let x = c.in-Some.x in
    let w = c.in_ok-line.line.word in
    let side = side_of l.word (c.requires.sides l.word read.due)
    (λ e. not_false c.is_end.result c.if-is_end.false (c.is_end.ensures.1 (read.words.word ∙ e))) in
    let some = rw c.in-Some.is at c.in_ok-x.ensures in
    let told = some l.fractions (side_fractions (n * n) l read.form side) read.form.fractions read.words.fractions in
    let is = multiplier_line_is (n * n) l w c.as_slice-numbers.result.now c.number_at-j.result c.number_at-k.result x
    read.form side read.words.word (c.as_slice-numbers.ensures ∙ read.words.numbers) c.number_at-j.ensures
    c.number_at-k.ensures told.1 in (
      subst (λ (k : Line). Reads f n c.args.reader.now (k ∷ []) c.pass-2.new.self) is
          (passed f n c.args.reader.now c.in_ok-line.line r.0 c.in_ok-line.after.now read r.2 c.pass-2.new.self
          c.pass-2.ensures.rest c.pass-2.ensures.number c.pass-2.ensures.before
          (multiplier_terms f l x told.0 told.1 (allowed_side l.word l.fractions side told.2))),
      told.0,
      subst IsSide (sym read.words.word) side,
    )

pub returns-then-is_end-clause-ok : goal.returns-then-is_end-clause-ok
returns-then-is_end-clause-ok c =
    let f = field_of c.args.f.now in
    let n = c.args.n in
    let r = c.in_ok-line.ensures.ok in
    let read = r.1 in
    let l = read.line in
    let is : l ≡ end_line = end_line_is (n * n) l read.form
    (sym read.words.word ∙ c.is_end.ensures.0 c.if-is_end.true) in
    subst (λ (k : Line). Reads f n c.args.reader.now (k ∷ []) c.pass.new.self) is
    (passed f n c.args.reader.now c.in_ok-line.line r.0 c.in_ok-line.after.now read r.2 c.pass.new.self
    c.pass.ensures.rest c.pass.ensures.number c.pass.ensures.before
    (plain_terms f l (ap (λ (k : Line). k.fractions) is)))
