use Rattle.std.proofs.Common.{◌∙◌, ap}
use Rattle.theory_rings.specs.Sum.{at}
use Rattle.spl_field.specs.SmallField.{small_ops}
use Rattle.spl_residue.proofs.inverse.difference.Goals as goal

pub returns-clause-value : goal.returns-clause-value
returns-clause-value c = λ k.
    let o = small_ops c.args.f.now in
    c.in_ok-add.ensures.value k
    ∙ ap (o.add (at o c.args.s.now k)) (c.in_ok-negative.ensures.value k ∙ ap o.neg (c.in_ok-product.ensures.value k))
