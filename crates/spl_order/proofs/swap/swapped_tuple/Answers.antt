use Rattle.std.proofs.Common.{subst}
use Rattle.theory_rings.specs.Ops.{IsElem}
use Rattle.spl_field.specs.SmallField.{small_ops}
use Rattle.spl_fraction.specs.Fractions.{field_of}
use Rattle.spl_fraction.specs.FractionsOver.{fractions_over}
use Rattle.spl_fraction.specs.Valuation.{IsSwapped}
use Rattle.spl_order.proofs.SwappedTuples.{zip_more}
use Rattle.spl_order.proofs.swap.swapped_tuple.Goals as goal

pub loop-item-preserved : goal.loop-item-preserved
loop-item-preserved c =
    let F = field_of c.args.f.now in
    let w = c.in_ok-swap_infinity in
    zip_more (IsElem (fractions_over F)) (IsSwapped (small_ops F)) c.args.items.now c.loop-item.tuple c.push.new.self
    c.loop-item.item-index c.item-item.result w.field-0 c.loop-item-test.true c.loop-item.invariant
    c.in_ok-push.ensures.ok w.ensures.elem
    (subst (λ x. IsSwapped (small_ops F) x w.field-0) c.item-item.is w.ensures.value)
