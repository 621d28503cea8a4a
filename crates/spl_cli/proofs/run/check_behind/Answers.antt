use Rattle.std.proofs.Common.{◌∙◌, Err, refl, ap}
use Rattle.spl_table.specs.Table.{degree_of, algebra_of, field_of}
use Rattle.spl_evidence.specs.declared.evidence.Evidence.{Evidence}
use Rattle.spl_check.specs.declared.verdict.Verdict.TheVariants.{Yes}
use Rattle.spl_check.proofs.Verdicts.{verdict_claim}
use Rattle.spl_cli.proofs.SameAnswers.{over_of}
use Rattle.spl_cli.specs.Report.{evidence_refusal_text}
use Rattle.spl_cli.proofs.Answering.{Answers-check-refused, Answers-yes, Answers-no, evidence_refused}
use Rattle.spl_cli.proofs.run.check_behind.Goals as goal

pub returns-in-Err-Refused : goal.returns-in-Err-Refused
returns-in-Err-Refused g c = λ words form.
    let r = c.in-Err-Refused in
    Answers-check-refused words c.args.input.now _ _ _ form c.as_bytes.result.now
    (evidence_refused c.args.input.now c.args.read.now c.requires.within c.requires.front r.refusal
    c.as_bytes.result.now c.behind-text.result.now _ c.behind-text.ensures refl
    (r.ensures.refused r.refusal (ap Err r.field-0-is))
    (c.as_bytes.ensures.value ∙ c.as_str.ensures.value ∙ c.evidence_refusal_line.ensures
    ∙ ap evidence_refusal_text r.refusal-is)) c.finish.ensures

pub returns-in-Ok-Yes : goal.returns-in-Ok-Yes
returns-in-Ok-Yes g c = λ words form.
    let w = rw c.in-Ok-Yes.field-0-is at c.in-Ok-Yes.ensures.verdict in
    let t = c.args.read.now.table in
    let text = w.1 in
    let e : Evidence = w.0 in
    Answers-yes words c.args.input.now _ _ _ form _ c.args.read.now c.requires.within c.requires.front e
    c.behind-text.result.now c.behind-text.ensures text
    ((verdict_claim (field_of t) (algebra_of t) (over_of t) (degree_of t) e t.dim text.fits Yes w.2).0 refl) refl
    c.finish-in-Ok-Yes.ensures

pub returns-in-Ok-No : goal.returns-in-Ok-No
returns-in-Ok-No g c = λ words form.
    let w = rw c.in-Ok-No.field-0-is at c.in-Ok-No.ensures.verdict in
    Answers-no words c.args.input.now _ _ _ form c.as_bytes-in-Ok-No.result.now c.args.read.now c.requires.within
    c.requires.front w.0 c.behind-text.result.now c.behind-text.ensures w.1 c.in-Ok-No.condition w.2
    (c.as_bytes-in-Ok-No.ensures.value ∙ c.as_str-in-Ok-No.ensures.value ∙ c.no_line.ensures)
    c.finish-in-Ok-No.ensures
