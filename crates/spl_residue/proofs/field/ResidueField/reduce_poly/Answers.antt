use Rattle.std.proofs.Common.{sym, subst}
use Rattle.theory_rings.specs.Sum.{at}
use Rattle.theory_remainders.specs.RemainderLaws.{IsRemainderOf}
use Rattle.spl_field.specs.SmallField.{small_ops}
use Rattle.spl_residue.proofs.Values.{elem_of_remainder}
use Rattle.spl_residue.proofs.field.ResidueField.reduce_poly.Goals as goal

pub returns-clause-elem : goal.returns-clause-elem
returns-clause-elem c =
    let k = c.args.self.now in
    elem_of_remainder k.field k.modulus k.irreducible c.in_ok-rest.rest c.of.result c.of.ensures
    c.in_ok-rest.ensures.remainder

pub returns-clause-value : goal.returns-clause-value
returns-clause-value c =
    let k = c.args.self.now in
    let o = small_ops k.field in
    subst (IsRemainderOf o (at o c.args.a.now) k.modulus) (sym c.of.ensures)
    (subst (λ x. IsRemainderOf o (at o x) k.modulus c.in_ok-rest.rest) c.in_ok-copy.ensures.value
    c.in_ok-rest.ensures.value)
