use Rattle.std.proofs.Common.{subst, ◌∙◌, All}
use Rattle.std.specs.List.{AllZip}
use Rattle.theory_rings.specs.Ops.{IsElem}
use Rattle.spl_field.specs.SmallField.{small_ops}
use Rattle.spl_fraction.specs.Fractions.{field_of}
use Rattle.spl_fraction.specs.FractionsOver.{fractions_over}
use Rattle.spl_fraction.specs.Valuation.{IsSwapped}
use Rattle.spl_order.proofs.SwappedTuples.{zip_more}
use Rattle.spl_order.proofs.swap.swapped_tuples.Goals as goal

pub loop-row-preserved : goal.loop-row-preserved
loop-row-preserved c =
    let F = field_of c.args.f.now in
    let w = c.in_ok-swapped_tuple in
    zip_more (All (IsElem (fractions_over F))) (AllZip (IsSwapped (small_ops F))) c.args.rows.now c.loop-row.tuples
    c.push.new.self c.loop-row.row-index c.row-item.result w.field-0 c.loop-row-test.true c.loop-row.invariant
    c.in_ok-push.ensures.ok w.ensures.elems
    (subst (λ x. AllZip (IsSwapped (small_ops F)) x w.field-0) (c.as_slice.ensures ∙ c.row-item.is) w.ensures.value)
