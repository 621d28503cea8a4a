use Rattle.std.proofs.Common.{◌≡◌}
use Rattle.std.proofs.lemmas.Result.{err_from_is_err_and}
use Rattle.spl_table.specs.declared.refusal.TableFault.TheVariants.{Refused}
use Rattle.spl_table.proofs.Faults.{refused_lines, refused_bytes}
use Rattle.spl_table.proofs.reader.read_front.Goals as goal

pub returns-in_err-check_text-clause-refused : goal.returns-in_err-check_text-clause-refused
returns-in_err-check_text-clause-refused c =
    let p = err_from_is_err_and c.from_residual.result c.from_residual.ensures.1 in
    λ refusal e.
    let same : c.in_err-check_text.field-0.0 ≡ Refused refusal = cc (p.1, p.2, e) in
    refused_bytes c.args.bytes.now c.in_err-check_text.field-0.0 c.in_err-check_text.ensures.fault refusal same

pub returns-clause-refused : goal.returns-clause-refused
returns-clause-refused c =
    refused_lines c.args.bytes.now c.in_ok-check_text.ensures.ok c.read_lines.result c.read_lines.ensures.fault

pub returns-in_err-check_text-clause-memory : goal.returns-in_err-check_text-clause-memory
returns-in_err-check_text-clause-memory c =
    let p = err_from_is_err_and c.from_residual.result c.from_residual.ensures.1 in
    λ e. absurd (c.in_err-check_text.ensures.no_memory_needed (cc (p.1, p.2, e)))

pub returns-clause-memory : goal.returns-clause-memory
returns-clause-memory c = λ e.
    let w = c.read_lines.ensures.memory e in
    record { within = tt; text = c.in_ok-check_text.ensures.ok; p = w.0; m = w.1; field = w.2; admitted = w.3 }
