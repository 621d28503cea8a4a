use Rattle.std.specs.List.{All}
use Rattle.std.proofs.Common.{sym, ◌∙◌, ap, subst, [], ◌∷◌, ◌++◌, take}
use Rattle.std.proofs.lemmas.List.{take_more, take_all}
use Rattle.std.proofs.lemmas.List.Elements.{All-nil, All-push}
use Rattle.theory_rings.specs.Polynomial.{IsTrimmed}
use Rattle.spl_field.specs.SmallField.{small_ops}
use Rattle.spl_poly.specs.Operations.{IsOver}
use Rattle.spl_lattice.specs.Steps.{AreMultiples}
use Rattle.spl_lattice.proofs.Combinations.{AreMultiples-nil, AreMultiples-push}
use Rattle.spl_lattice.proofs.generator.multiples.Goals as goal

pub loop-item-init : goal.loop-item-init
loop-item-init c =
    let o = small_ops c.args.f.now in
    let e = sym c.new-products.ensures in
    record {
      value = subst (AreMultiples o c.args.u.now []) e (AreMultiples-nil o c.args.u.now);
      over = subst (All (IsOver o)) e (All-nil (IsOver o));
      trimmed = subst (All (IsTrimmed 0)) e (All-nil (IsTrimmed 0));
    }

pub loop-item-preserved : goal.loop-item-preserved
loop-item-preserved c =
    let o = small_ops c.args.f.now in
    let i = c.loop-item.item-index in
    let x = c.item-item.result in
    let m = c.in_ok-mul in
    let inv = c.loop-item.invariant in
    let e = sym c.in_ok-push.ensures.ok in
    record {
      value = subst (λ xs. AreMultiples o c.args.u.now xs c.push.new.self)
          (ap (λ y. take i c.args.items.now ++ y ∷ []) c.item-item.is
          ∙ sym (take_more c.args.items.now i x c.loop-item-test.true))
          (subst (AreMultiples o c.args.u.now (take i c.args.items.now ++ x ∷ [])) e
          (AreMultiples-push o c.args.u.now
          (take i c.args.items.now) c.loop-item.products x m.field-0 inv.value m.ensures.value));
      over = subst (All (IsOver o)) e (All-push (IsOver o) c.loop-item.products m.field-0 inv.over m.ensures.over);
      trimmed = subst (All (IsTrimmed 0)) e
          (All-push (IsTrimmed 0) c.loop-item.products m.field-0 inv.trimmed m.ensures.trimmed);
    }

pub returns-clause-value : goal.returns-clause-value
returns-clause-value c =
    subst (λ xs. AreMultiples (small_ops c.args.f.now) c.args.u.now xs c.loop-item.products)
    (take_all c.loop-item.item-index c.args.items.now c.loop-item-test.false) c.loop-item.invariant.value
