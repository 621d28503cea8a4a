use Rattle.spl_field.specs.SmallField.{small_ops, small_laws}
use Rattle.spl_fraction.proofs.Leads.{inverse_mul, inverse_nonzero}
use Rattle.spl_fraction.proofs.reduction.inverse.Goals as goal

pub returns-clause-nonzero : goal.returns-clause-nonzero
returns-clause-nonzero c =
    let same = rw c.unwrap.ensures at c.inverse.ensures.same in
    inverse_nonzero (small_ops c.args.f.now)
    (small_laws c.args.f.now) c.args.a c.unwrap.result c.requires.elem c.requires.nonzero same.1

pub returns-clause-value : goal.returns-clause-value
returns-clause-value c =
    let same = rw c.unwrap.ensures at c.inverse.ensures.same in
    inverse_mul (small_ops c.args.f.now)
    (small_laws c.args.f.now) c.args.a c.unwrap.result c.requires.elem c.requires.nonzero same.1
