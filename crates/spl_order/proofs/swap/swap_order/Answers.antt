use Rattle.std.proofs.Common.{◌≡◌, subst, sym, ◌∙◌, IfSome, length}
use Rattle.std.specs.List.{AllZip}
use Rattle.spl_field.specs.SmallField.{small_ops, small_laws}
use Rattle.spl_fraction.specs.Fractions.{field_of}
use Rattle.spl_fraction.specs.Valuation.{IsSwapped}
use Rattle.theory_bases.specs.Bases.{IsBasis, tuples_of}
use Rattle.spl_order.proofs.SwappedTuples.{basis-elems, rows-images, rows-square, some_basis, sized, zipped}
use Rattle.spl_order.proofs.swap.swap_order.Goals as goal

pub swapped_tuples-requires : goal.swapped_tuples-requires
swapped_tuples-requires c =
    basis-elems (field_of c.args.f.now) c.requires.0 c.args.order.now c.requires.1 c.as_slice.result.now
    (c.as_slice.ensures ∙ c.in_ok-tuples.ensures)

pub of-requires : goal.of-requires
of-requires c =
    let w = c.in_ok-swapped in
    rows-square (field_of c.args.f.now) c.requires.0 c.args.order.now c.requires.1 c.as_slice.result.now
    (c.as_slice.ensures ∙ c.in_ok-tuples.ensures) w.swapped w.ensures.elems w.ensures.value

pub unwrap-requires : goal.unwrap-requires
unwrap-requires c =
    let w = c.in_ok-swapped in
    some_basis (field_of c.args.f.now) c.requires.0 c.args.order.now c.requires.1 c.as_slice.result.now
    (c.as_slice.ensures ∙ c.in_ok-tuples.ensures) w.swapped w.ensures.elems w.ensures.value c.in_ok-of.field-0
    c.in_ok-of.ensures.none

pub returns-clause-basis : goal.returns-clause-basis
returns-clause-basis c =
    let F = field_of c.args.f.now in
    let w = c.in_ok-swapped in
    sized F c.requires.0 c.args.order.now c.requires.1 c.as_slice.result.now
    (c.as_slice.ensures ∙ c.in_ok-tuples.ensures) w.swapped w.ensures.elems w.ensures.value c.unwrap.result
    (subst (λ r. IfSome r (IsBasis (small_ops F) (small_laws F) (length w.swapped))) c.unwrap.ensures
    c.in_ok-of.ensures.basis)

pub returns-clause-tuples : goal.returns-clause-tuples
returns-clause-tuples c =
    let F = field_of c.args.f.now in
    let w = c.in_ok-swapped in
    subst (AllZip (AllZip (IsSwapped (small_ops F))) (tuples_of (small_ops F) (small_laws F) c.args.order.now))
    (sym (subst (λ r. IfSome r (λ b. tuples_of (small_ops F) (small_laws F) b ≡ w.swapped)) c.unwrap.ensures
    c.in_ok-of.ensures.tuples))
    (zipped F c.requires.0 c.args.order.now c.requires.1 c.as_slice.result.now
    (c.as_slice.ensures ∙ c.in_ok-tuples.ensures) w.swapped w.ensures.elems w.ensures.value)

pub returns-clause-image : goal.returns-clause-image
returns-clause-image c =
    let F = field_of c.args.f.now in
    let w = c.in_ok-swapped in
    λ s S.
    subst (λ r. IfSome r (λ b. tuples_of (small_ops F) (small_laws F) b ≡ w.swapped)) c.unwrap.ensures
    c.in_ok-of.ensures.tuples
    ∙ rows-images F c.requires.0 c.args.order.now c.requires.1 c.as_slice.result.now
    (c.as_slice.ensures ∙ c.in_ok-tuples.ensures) w.swapped w.ensures.elems w.ensures.value s S
