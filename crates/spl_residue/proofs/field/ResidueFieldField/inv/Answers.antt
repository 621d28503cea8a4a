use Rattle.std.proofs.Common.{◌≢◌, [], sym, ◌∙◌}
use Rattle.spl_residue.proofs.Values.{remainder_of_elem, elem_of_remainder, eq_zero, ne_zero, inverse_value}
use Rattle.spl_residue.proofs.field.ResidueFieldField.inv.Goals as goal

pub returns-then-is_zero-clause-value : goal.returns-then-is_zero-clause-value
returns-then-is_zero-clause-value c =
    let k = c.args.self.now in
    eq_zero k.field k.modulus k.irreducible c.args.a.now c.poly.result.now c.poly.ensures
    (c.is_zero.ensures.0 c.if-is_zero.true)

pub inverse_of-requires-clause-remainder : goal.inverse_of-requires-clause-remainder
inverse_of-requires-clause-remainder c =
    let k = c.args.self.now in
    remainder_of_elem k.field k.modulus k.irreducible c.args.a.now c.poly-2.result.now c.poly-2.ensures c.requires

pub inverse_of-requires-clause-nonzero : goal.inverse_of-requires-clause-nonzero
inverse_of-requires-clause-nonzero c = λ e.
    let h = c.is_zero.ensures.1 (c.poly.ensures ∙ sym c.poly-2.ensures ∙ e) in
    cc (h, c.if-is_zero.false)

pub returns-clause-elem : goal.returns-clause-elem
returns-clause-elem c =
    let k = c.args.self.now in
    elem_of_remainder k.field k.modulus k.irreducible c.in_ok-inverse.inverse c.of.result c.of.ensures
    c.in_ok-inverse.ensures.remainder

pub returns-clause-value : goal.returns-clause-value
returns-clause-value c =
    let k = c.args.self.now in
    let n : c.poly-2.result.now ≢ [] = λ e.
    let h = c.is_zero.ensures.1 (c.poly.ensures ∙ sym c.poly-2.ensures ∙ e) in
    cc (h, c.if-is_zero.false) in (
      ne_zero k.field k.modulus k.irreducible c.args.a.now c.poly-2.result.now c.poly-2.ensures n,
      inverse_value k.field k.modulus k.irreducible c.args.a.now c.poly-2.result.now c.in_ok-inverse.inverse c.of.result
          c.poly-2.ensures c.of.ensures c.requires n c.in_ok-inverse.ensures.remainder c.in_ok-inverse.ensures.value,
    )
