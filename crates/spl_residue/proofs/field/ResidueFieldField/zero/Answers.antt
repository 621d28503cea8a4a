use Rattle.spl_residue.proofs.Values.{zero_elem, zero_value}
use Rattle.spl_residue.proofs.field.ResidueFieldField.zero.Goals as goal

pub returns-clause-elem : goal.returns-clause-elem
returns-clause-elem c =
    let k = c.args.self.now in
    zero_elem k.field k.modulus k.irreducible c.in_ok-zero.field-0 c.of.result c.of.ensures c.in_ok-zero.ensures

pub returns-clause-value : goal.returns-clause-value
returns-clause-value c =
    let k = c.args.self.now in
    zero_value k.field k.modulus k.irreducible c.in_ok-zero.field-0 c.of.result c.of.ensures c.in_ok-zero.ensures
