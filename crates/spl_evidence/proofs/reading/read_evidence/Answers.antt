use Rattle.std.proofs.Common.{◌≡◌, ◌*◌, arith}
use Rattle.std.proofs.lemmas.Result.{IfOk-weaker}
use Rattle.spl_fraction.specs.Fractions.{field_of}
use Rattle.spl_fraction.specs.FractionsOver.{fractions_over}
use Rattle.spl_text.specs.Text.{IsNumber}
use Rattle.spl_evidence.specs.Line.{lines_text}
use Rattle.spl_evidence.specs.Evidence.{Fits, lines_of, IsEvidenceText}
use Rattle.spl_evidence.proofs.Readers.SplitLoops.{square_small}
use Rattle.spl_evidence.proofs.Readers.Whole.{text_of_lines, refusal_of_lines, each_read}
use Rattle.spl_evidence.proofs.reading.read_evidence.Goals as goal

pub returns-in_default-clause-each : goal.returns-in_default-clause-each
returns-in_default-clause-each c = λ e h. absurd (c.in_default.ensures (lines_text (lines_of c.args.n e)) h.spelled)

pub returns-clause-ok : goal.returns-clause-ok
returns-clause-ok c =
    let f = field_of c.args.f.now in
    let n = c.args.n in
    IfOk-weaker c.read_lines.result
    (λ e. Fits (fractions_over f) n e × (c.in-Some.rest.now ≡ lines_text (lines_of n e)))
    (IsEvidenceText (fractions_over f) n c.args.bytes.now)
    (text_of_lines f n c.args.first_line c.args.bytes.now c.in-Some.rest.now c.in-Some.ensures) c.read_lines.ensures.ok

pub returns-clause-refused : goal.returns-clause-refused
returns-clause-refused c =
    refusal_of_lines (field_of c.args.f.now) c.args.n c.args.first_line c.args.bytes.now c.in-Some.rest.now
    c.in-Some.ensures c.read_lines.result c.read_lines.ensures.fault

pub returns-clause-each : goal.returns-clause-each
returns-clause-each c =
    let small : IsNumber (c.args.n * c.args.n) = omega (arith, square_small c.args.n c.requires.high) in
    each_read (field_of c.args.f.now) c.args.n small c.args.first_line c.args.bytes.now c.read_lines.result
    (returns-clause-ok c) (returns-clause-refused c)
