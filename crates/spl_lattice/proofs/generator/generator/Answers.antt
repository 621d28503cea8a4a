use Rattle.std.specs.List.{All}
use Rattle.std.proofs.Common.{sym, ◌∙◌, ap, subst, [], ◌∷◌, ◌++◌, take, ◌≡◌}
use Rattle.std.proofs.lemmas.List.{take_more, take_all}
use Rattle.std.proofs.lemmas.List.Elements.{All-nil, All-get_or}
use Rattle.theory_rings.specs.Polynomial.{IsTrimmed}
use Rattle.spl_field.specs.SmallField.{small_ops}
use Rattle.spl_poly.specs.Operations.{IsOver}
use Rattle.spl_lattice.specs.Ideal.{IsGenerator}
use Rattle.spl_lattice.proofs.Combinations.{IsFound, found_none, found_more, generator_of_zero, generator_of_multiple}
use Rattle.spl_lattice.proofs.generator.generator.Goals as goal

pub loop-item-init : goal.loop-item-init
loop-item-init c =
    let o = small_ops c.args.f.now in
    record {
      found = subst (IsFound o [] c.new.result) (sym c.in_ok-zero.ensures)
          (subst (λ ms. IsFound o [] ms []) (sym c.new.ensures) (found_none o c.know_laws.ensures));
      trimmed = subst (All (IsTrimmed 0)) (sym c.new.ensures) (All-nil (IsTrimmed 0));
    }

pub loop-item-preserved : goal.loop-item-preserved
loop-item-preserved c =
    let o = small_ops c.args.f.now in
    let items = c.as_slice-items.result.now in
    let i = c.loop-item.item-index in
    let b = c.item-item.result in
    let g = c.loop-item.found in
    let h = c.in_ok-found in
    let items_over : All (IsOver o) items = subst (All (IsOver o)) (sym c.as_slice-items.ensures) c.requires.over in
    let b_over : IsOver o b =
    subst (IsOver o) (sym c.item-item.is) (All-get_or (IsOver o) items i b c.loop-item-test.true items_over) in
    record {
      found = subst (λ xs. IsFound o xs h.found.multipliers h.found.value)
          (ap (λ y. take i items ++ y ∷ []) c.item-item.is ∙ sym (take_more items i b c.loop-item-test.true))
          (found_more o c.know_laws.ensures
          (take i items) g.multipliers g.value b h.found.value h.found.multipliers c.loop-item.invariant.found b_over
          h.ensures.over h.ensures.multipliers_over h.ensures.value);
      trimmed = h.ensures.multipliers_trimmed;
    }

pub returns-then-is_zero-clause-value : goal.returns-then-is_zero-clause-value
returns-then-is_zero-clause-value c =
    let o = small_ops c.args.f.now in
    let g = c.loop-item.found in
    let z : g.value ≡ [] = c.is_zero.ensures.0 c.if-is_zero.true in
    subst (IsGenerator o c.args.list.now g.multipliers) (sym z)
    (generator_of_zero o c.know_laws.ensures c.args.list.now g.multipliers
    (subst (IsFound o c.args.list.now g.multipliers) z
    (subst (λ xs. IsFound o xs g.multipliers g.value)
    (take_all c.loop-item.item-index c.as_slice-items.result.now c.loop-item-test.false
    ∙ c.as_slice-items.ensures) c.loop-item.invariant.found)))

pub returns-clause-value : goal.returns-clause-value
returns-clause-value c =
    let o = small_ops c.args.f.now in
    let g = c.loop-item.found in
    let h = c.in_ok-divided_by_lead in
    generator_of_multiple o c.know_laws.ensures c.args.list.now g.multipliers h.field-0.multipliers g.value
    h.field-0.value
    (subst (λ xs. IsFound o xs g.multipliers g.value)
    (take_all c.loop-item.item-index c.as_slice-items.result.now c.loop-item-test.false
    ∙ c.as_slice-items.ensures) c.loop-item.invariant.found)
    h.ensures.over h.ensures.multipliers_over h.ensures.value h.ensures.monic
