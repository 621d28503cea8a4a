use Rattle.spl_residue.proofs.Values.{remainder_of_elem, negative_elem, negative_value}
use Rattle.spl_residue.proofs.field.ResidueFieldField.neg.Goals as goal

pub negated-requires : goal.negated-requires
negated-requires c =
    let k = c.args.self.now in
    let h = remainder_of_elem k.field k.modulus k.irreducible c.args.a.now c.poly.result.now c.poly.ensures
    c.requires in
    h.polynomial.over

pub returns-clause-elem : goal.returns-clause-elem
returns-clause-elem c =
    let k = c.args.self.now in
    let r = c.in_ok-negative in
    negative_elem k.field k.modulus k.irreducible c.args.a.now c.poly.result.now r.negative c.of.result c.poly.ensures
    c.of.ensures c.requires r.ensures.polynomial r.ensures.value

pub returns-clause-value : goal.returns-clause-value
returns-clause-value c =
    let k = c.args.self.now in
    let r = c.in_ok-negative in
    negative_value k.field k.modulus k.irreducible c.args.a.now c.poly.result.now r.negative c.of.result c.poly.ensures
    c.of.ensures c.requires r.ensures.polynomial r.ensures.value
