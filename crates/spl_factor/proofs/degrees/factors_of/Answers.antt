use Rattle.std.proofs.Common.{subst, sym, arith, length, ap}
use Rattle.theory_rings.proofs.Polynomials.Monic.{divides_self}
use Rattle.spl_factor.specs.Steps.{field, poly, DividesList}
use Rattle.spl_factor.proofs.Quotients.{length_monic}
use Rattle.spl_factor.proofs.Parts.{product_at_end, nothing_left, next_trans}
use Rattle.spl_factor.proofs.degrees.factors_of.Goals as goal

pub returns-then-as_slice-le1-clause-product : goal.returns-then-as_slice-le1-clause-product
returns-then-as_slice-le1-clause-product c =
    let w = c.in_ok-work in
    let l = c.if-as_slice-le1.true in
    let e = ap length c.as_slice.ensures in
    product_at_end c.args.f.now c.args.a w.work.rest w.work.list.items w.ensures.next (omega arith)

pub returns-clause-product : goal.returns-clause-product
returns-clause-product c =
    let f = c.args.f.now in
    let w = c.in_ok-work in
    let rest = w.work.rest in
    let t = c.in_ok-take in
    let n = w.ensures.next in
    let k = t.ensures.next in
    let before = n.work in
    let after = k.work in
    let long = c.if-as_slice-le1.false in
    let e = ap length c.as_slice.ensures in
    let m = length_monic f rest before.monic in
    let fewer = t.ensures.fewer (subst (λ p. DividesList f p rest) (sym c.in_ok-p.ensures.value)
    (divides_self (field f) (poly f rest))) in
    product_at_end f c.args.a t.field-0.rest t.field-0.list.items
    (next_trans f c.args.a rest t.field-0.rest _ w.work.list.items t.field-0.list.items n k)
    (nothing_left f rest t.field-0.rest before.monic after.monic (w.ensures.last (omega arith)) k.divides fewer)
