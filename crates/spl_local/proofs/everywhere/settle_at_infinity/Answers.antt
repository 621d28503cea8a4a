use Rattle.std.proofs.Common.{◌≡◌, ℕ, subst}
use Rattle.std.specs.List.{AllZip}
use Rattle.theory_fractions.specs.Fraction.{Pair}
use Rattle.theory_bases.specs.Bases.{IsBasis}
use Rattle.theory_swaps.specs.Involutions.{image}
use Rattle.theory_swaps.specs.FractionSwaps.{IsFractionSwap}
use Rattle.theory_swaps.proofs.FractionSwaps.{has_fraction_swap}
use Rattle.spl_field.specs.SmallField.{small_ops, small_laws}
use Rattle.spl_fraction.specs.Fractions.{field_of}
use Rattle.spl_fraction.specs.Valuation.{IsSwapped}
use Rattle.spl_order.proofs.SwappedTuples.{tuple_is}
use Rattle.spl_local.proofs.InfinitePlace.{swapped_associative, swapped_centre, swapped_form, swapped_identity}
use Rattle.spl_local.proofs.InfinitePlace.{settled_image, state_at_infinity, holds_at_infinity}
use Rattle.spl_local.proofs.everywhere.settle_at_infinity.Goals as goal

pub settle_at_x-requires-clause-associative : goal.settle_at_x-requires-clause-associative
settle_at_x-requires-clause-associative c =
    swapped_associative (field_of c.args.f.now) c.args.a.now c.requires.over c.requires.associative c.in_ok-b.b
    c.in_ok-b.ensures.image

pub settle_at_x-requires-clause-one : goal.settle_at_x-requires-clause-one
settle_at_x-requires-clause-one c =
    let F = field_of c.args.f.now in
    let one = c.args.one.now in
    let w = c.in_ok-swapped in
    swapped_identity F c.args.a.now c.requires.over c.requires.associative c.in_ok-b.b c.in_ok-b.ensures.image one
    w.swapped
    (λ s S. tuple_is F s S one w.swapped c.requires.one.tuple.of_elements w.ensures.elems
    (subst (λ x. AllZip (IsSwapped (small_ops F)) x w.swapped) c.as_slice.ensures w.ensures.value))
    c.requires.one

pub settle_at_x-requires-clause-centre : goal.settle_at_x-requires-clause-centre
settle_at_x-requires-clause-centre c =
    swapped_centre (field_of c.args.f.now) c.args.a.now c.requires.over c.requires.associative c.in_ok-b.b
    c.in_ok-b.ensures.image c.requires.centre

pub settle_at_x-requires-clause-form : goal.settle_at_x-requires-clause-form
settle_at_x-requires-clause-form c =
    swapped_form (field_of c.args.f.now) c.args.a.now c.requires.over c.requires.associative c.in_ok-b.b
    c.in_ok-b.ensures.image c.requires.form

pub returns : goal.returns
returns c =
    let F = field_of c.args.f.now in
    let o = small_ops F in
    let L = small_laws F in
    let A = c.args.a.now in
    let one = c.args.one.now in
    let w = c.in_ok-swapped in
    let r = c.in_ok-found.found in
    let v = c.in_ok-order in
    let same : (s : Pair ℕ → Pair ℕ) → IsFractionSwap o L s → w.swapped ≡ image s one =
    λ s S. tuple_is F s S one w.swapped c.requires.one.tuple.of_elements w.ensures.elems
    (subst (λ x. AllZip (IsSwapped o) x w.swapped) c.as_slice.ensures w.ensures.value) in
    let settled = settled_image F A c.requires.over c.requires.associative c.in_ok-b.b c.in_ok-b.ensures.image one
    w.swapped same r.order r.state c.in_ok-found.ensures in
    let h = has_fraction_swap o L in
    record {
      basis = subst (λ n. IsBasis o L n v.order) c.in_ok-b.ensures.dim
          (v.ensures.basis c.in_ok-b.b.dim c.in_ok-found.ensures.basis);
      state = state_at_infinity F A c.requires.over c.requires.associative one c.requires.one h.swap h.is_swap r.order
          v.order r.state (settled h.swap h.is_swap) (v.ensures.image h.swap h.is_swap) c.in_ok-state.state
          c.in_ok-state.ensures;
      first = λ s S. holds_at_infinity F A c.requires.over c.requires.associative one c.requires.one s S r.order v.order
          r.state (settled s S) (v.ensures.image s S);
    }
