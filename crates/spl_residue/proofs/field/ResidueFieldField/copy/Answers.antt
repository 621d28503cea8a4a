use Rattle.spl_residue.proofs.Values.{remainder_of_elem}
use Rattle.spl_residue.proofs.field.ResidueFieldField.copy.Goals as goal

pub copy-requires : goal.copy-requires
copy-requires c =
    let k = c.args.self.now in
    let h = remainder_of_elem k.field k.modulus k.irreducible c.args.a.now c.poly.result.now c.poly.ensures
    c.requires in
    h.polynomial.over
