use Rattle.std.proofs.Common.{sym, subst}
use Rattle.theory_rings.specs.Ops.{IsElem}
use Rattle.theory_rings.specs.Polynomial.{degree}
use Rattle.theory_rings.proofs.Rings.Elements.{at-elem}
use Rattle.spl_field.specs.SmallField.{small_ops}
use Rattle.spl_lattice.proofs.euclid.lead_inverse.Goals as goal

pub inverse-requires-clause-elem : goal.inverse-requires-clause-elem
inverse-requires-clause-elem c =
    let o = small_ops c.args.f.now in
    subst (IsElem o) (sym c.lead.ensures.value)
    (at-elem o c.know_laws.ensures c.args.a.now c.requires.over (degree c.args.a.now))
