use Rattle.std.proofs.Common.{sym, subst, length, ◌<◌}
use Rattle.spl_residue.proofs.Values.{remainder_of_elem}
use Rattle.spl_residue.proofs.field.ResidueField.lift.Goals as goal

pub copy-requires : goal.copy-requires
copy-requires c =
    let k = c.args.self.now in
    let h = remainder_of_elem k.field k.modulus k.irreducible c.args.a.now c.poly.result.now c.poly.ensures
    c.requires in
    h.polynomial.over

pub returns-clause-smaller : goal.returns-clause-smaller
returns-clause-smaller c =
    let k = c.args.self.now in
    let h = remainder_of_elem k.field k.modulus k.irreducible c.args.a.now c.poly.result.now c.poly.ensures
    c.requires in
    subst (λ x. length x < length k.modulus) (sym c.in_ok-copy.ensures.value) h.smaller
