use Rattle.std.specs.Prelude.{ℕ, List}
use Rattle.std.proofs.Common.{◌∙◌, Err, refl, sym, ap, subst}
use Rattle.spl_cli.specs.Report.{refusal_text, ShowsEvidence}
use Rattle.spl_table.specs.declared.refusal.Kind.TheVariants.{NotBuilt}
use Rattle.spl_cli.proofs.Answering.{Answers-undecided, Answers-found, Answers-refused}
use Rattle.spl_cli.proofs.run.decide_on.Goals as goal

pub returns-in-Ok-None : goal.returns-in-Ok-None
returns-in-Ok-None g c = λ words form.
    Answers-undecided words _ _ _ _ form c.in-Ok.read c.in-Ok.ensures.ok c.as_bytes-in-Ok-None.result.now
    (record { line = c.in-Ok.read.lines; kind = NotBuilt })
    (rw c.in-Ok-None.field-0-is at c.in-Ok-None.ensures) refl refl
    (c.as_bytes-in-Ok-None.ensures.value ∙ c.as_str-in-Ok-None.ensures.value
    ∙ c.refusal_line-in-Ok-None.ensures) c.finish-in-Ok-None.ensures

pub returns : goal.returns
returns g c = λ words form.
    let P : List ℕ → Type 0 = ShowsEvidence c.in-Ok.read.table in
    Answers-found words _ _ _ _ form c.in-Ok.read c.in-Ok.ensures.ok c.as_slice.result.now
    (subst P (sym c.as_slice.ensures.value)
    (rw c.in-Ok-Some.field-0-is at c.in-Ok-Some.ensures)) c.finish-in-Ok-Some.ensures

pub returns-in-Err-Refused : goal.returns-in-Err-Refused
returns-in-Err-Refused g c = λ words form.
    let r = c.in-Err-Refused in
    Answers-refused words c.args.input.now _ _ _ form c.as_bytes.result.now r.refusal
    (r.ensures.refused r.refusal (ap Err r.field-0-is))
    (c.as_bytes.ensures.value ∙ c.as_str.ensures.value ∙ c.refusal_line.ensures
    ∙ ap refusal_text r.refusal-is) c.finish.ensures
