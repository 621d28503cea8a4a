use Rattle.spl_table.proofs.Spellings.{no_modulus}
use Rattle.spl_table.proofs.reader.head.field_words.Goals as goal

pub returns-in_err-modulus : goal.returns-in_err-modulus
returns-in_err-modulus c =
    let number = c.in_ok-characteristic.ensures in
    rw c.from_residual-in_err-modulus.ensures
    (no_modulus c.args.line.now c.in_ok-rest.rest.now c.in_ok-characteristic.rest.now
    c.in_ok-characteristic.characteristic c.in_ok-rest.ensures number.0 number.1 c.in_err-modulus.ensures)
