use Rattle.std.specs.Prelude.{decimal}
use Rattle.spl_text.proofs.Words.{no_number_before, not_within}
use Rattle.spl_text.proofs.word.number_before.Goals as goal

pub returns-in_err-word : goal.returns-in_err-word
returns-in_err-word c =
    rw c.from_residual.ensures
    (λ n rest is e. not_within c.args.separator c.args.bytes.now (decimal n) rest e c.in_err-word.ensures)

pub returns-in_err-number : goal.returns-in_err-number
returns-in_err-number c =
    let cut = c.in_ok-word.ensures in
    rw c.from_residual-in_err-number.ensures
    (no_number_before c.args.separator c.args.bytes.now c.in_ok-word.word.now c.in_ok-word.rest.now c.requires cut.0
    cut.1 c.in_err-number.ensures)
