use Rattle.std.proofs.Common.{false, refl, sym, subst, get_or, [], below_more}
use Rattle.std.proofs.lemmas.Bool.{both_ways}
use Rattle.spl_field.specs.SmallField.{small_ops}
use Rattle.theory_fractions.specs.PolynomialLists.{Divides}
use Rattle.spl_order.proofs.Values.{read_is}
use Rattle.spl_order.proofs.place_parts.divides_all.Goals as goal

pub returns-then-not-branch : goal.returns-then-not-branch
returns-then-not-branch c =
    let p = c.loop-p.p in
    let e = read_is c.args.items.now p c.index-items-p.result c.loop-p-test.true c.index-items-p.is in (
      (λ t. absurd (both_ways false refl t)),
      (λ h. absurd (both_ways c.in_ok-divides.field-0 c.if-not-branch.true (c.in_ok-divides.ensures.1
          (subst (Divides (small_ops c.args.f.now) c.args.a.now) (sym e) (h p c.loop-p-test.true))))),
    )

pub loop-p-preserved : goal.loop-p-preserved
loop-p-preserved c =
    let p = c.loop-p.p in
    let e = read_is c.args.items.now p c.index-items-p.result c.loop-p-test.true c.index-items-p.is in
    below_more (λ p. Divides (small_ops c.args.f.now) c.args.a.now (get_or c.args.items.now p [])) p
    c.loop-p.invariant (subst (Divides (small_ops c.args.f.now) c.args.a.now) e
    (c.in_ok-divides.ensures.0 c.if-not-branch.false))
