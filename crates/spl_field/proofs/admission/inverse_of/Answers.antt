use Rattle.std.proofs.Common.{◌<◌, arith, subst, sym}
use Rattle.theory_rings.proofs.FiniteFields.FieldByDigits.{product_unique}
use Rattle.spl_field.proofs.admission.inverse_of.Goals as goal

pub returns : goal.returns
returns c = λ (b, i).
    let below : b < c.args.size = subst (λ n. b < n) (sym c.requires.size) i.element in
    c.loop-b.invariant b (omega arith)
    (product_unique c.args.p c.requires.fits.least c.args.modulus.now c.args.a b _ 1
    (c.product_row-row.ensures b below) i.product_one)
