use Rattle.spl_residue.proofs.Values.{one_elem, one_value}
use Rattle.spl_residue.proofs.field.ResidueFieldField.one.Goals as goal

pub returns-clause-elem : goal.returns-clause-elem
returns-clause-elem c =
    let k = c.args.self.now in
    one_elem k.field k.modulus k.irreducible c.in_ok-one.field-0 c.of.result c.of.ensures c.in_ok-one.ensures

pub returns-clause-value : goal.returns-clause-value
returns-clause-value c =
    let k = c.args.self.now in
    one_value k.field k.modulus k.irreducible c.in_ok-one.field-0 c.of.result c.of.ensures c.in_ok-one.ensures
