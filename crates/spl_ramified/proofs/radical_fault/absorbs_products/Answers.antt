use Rattle.std.proofs.Common.{false, refl}
use Rattle.std.proofs.lemmas.Bool.{both_ways}
use Rattle.spl_ramified.proofs.radical_fault.absorbs_products.Goals as goal

pub returns-then-not-branch : goal.returns-then-not-branch
returns-then-not-branch c =
    let w = c.in_ok-are_products_within_at in (
      λ t. absurd (both_ways false refl t),
      λ h. absurd (both_ways w.field-0 c.if-not-branch.true (w.ensures.1 h.left)),
    )

pub returns : goal.returns
returns c =
    let w = c.in_ok-are_products_within_at in
    let v = c.in_ok-right in (
      λ t. record { left = w.ensures.0 c.if-not-branch.false; right = λ a x l j. v.ensures.0 t x a j l },
      λ h. v.ensures.1 (λ x a j l. h.right a x l j),
    )
