use Rattle.std.proofs.lemmas.Result.{err_from_is_err_and}
use Rattle.spl_fraction.specs.Fractions.{field_of}
use Rattle.spl_evidence.proofs.Readers.Passing.{refused_here}
use Rattle.spl_evidence.proofs.reader.line_at.Goals as goal

pub returns-in_err-words-clause-fault : goal.returns-in_err-words-clause-fault
returns-in_err-words-clause-fault c =
    let p = err_from_is_err_and c.from_residual.result c.from_residual.ensures.1 in
    rw (p.1, p.2)
    (refused_here (field_of c.args.f.now) c.args.n c.args.reader.now c.in-Some.text.now c.in-Some.after.now
    c.in-Some.ensures.1 c.in_err-words.field-0.0 (c.in_err-words.ensures.fault c.in-Some.after.now))
