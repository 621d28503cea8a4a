use Rattle.std.proofs.Common.{◌∙◌, ap}
use Rattle.theory_rings.specs.Power.{power_of}
use Rattle.spl_field.specs.SmallField.{characteristic}
use Rattle.spl_residue.specs.ResidueOver.{residues_over}
use Rattle.spl_residue.proofs.Values.{remainder_of_elem, elem_of_remainder}
use Rattle.spl_residue.proofs.field.ResidueField.frobenius_root.Goals as goal

pub root_of-requires-clause-element : goal.root_of-requires-clause-element
root_of-requires-clause-element c =
    let k = c.args.self.now in
    remainder_of_elem k.field k.modulus k.irreducible c.args.a.now c.poly.result.now c.poly.ensures c.requires

pub returns-clause-elem : goal.returns-clause-elem
returns-clause-elem c =
    let k = c.args.self.now in
    elem_of_remainder k.field k.modulus k.irreducible c.in_ok-root.root c.of.result c.of.ensures
    c.in_ok-root.ensures.remainder

pub returns-clause-value : goal.returns-clause-value
returns-clause-value c =
    let k = c.args.self.now in
    ap (λ r. power_of (residues_over k.field k.modulus k.irreducible) r (characteristic k.field)) c.of.ensures
    ∙ c.in_ok-root.ensures.value k.irreducible ∙ c.poly.ensures
