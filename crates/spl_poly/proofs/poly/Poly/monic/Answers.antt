use Rattle.std.proofs.Common.{arith, ◌-◌, sym, ◌∙◌, ap, subst, get_or, length, List, ℕ, ◌≡◌}
use Rattle.theory_rings.specs.Polynomial.{IsTrimmed}
use Rattle.spl_field.specs.SmallField.{small_ops}
use Rattle.spl_poly.specs.Operations.{IsOver, IsMonicOf}
use Rattle.spl_poly.proofs.Trimming.{last-ne-zero_of_pos, length_pos_of_ne, refill_same}
use Rattle.spl_poly.proofs.Results.{monic_done}
use Rattle.theory_rings.proofs.Rings.Elements.{at-elem}
use Rattle.spl_poly.proofs.poly.Poly.monic.Goals as goal

pub inverse-unit-requires-clause-elem : goal.inverse-unit-requires-clause-elem
inverse-unit-requires-clause-elem c =
    let o = small_ops c.args.f.now in
    let ex : c.as_slice-x.result.now ≡ c.args.self.now = c.as_slice-x.ensures ∙ c.self.view_is in
    at-elem o c.know_laws.ensures c.as_slice-x.result.now (subst (IsOver o) (sym ex) c.requires.over)
    (length c.as_slice-x.result.now - 1)

pub inverse-unit-requires-clause-nonzero : goal.inverse-unit-requires-clause-nonzero
inverse-unit-requires-clause-nonzero c =
    let ex : c.as_slice-x.result.now ≡ c.args.self.now = c.as_slice-x.ensures ∙ c.self.view_is in
    last-ne-zero_of_pos 0 c.as_slice-x.result.now (subst (IsTrimmed 0) (sym c.as_slice-x.ensures) c.self.invariant)
    (omega (arith, length_pos_of_ne c.args.self.now c.requires.nonzero, ap length ex))

pub returns-clause-value : goal.returns-clause-value
returns-clause-value c =
    let o = small_ops c.args.f.now in
    let x : List ℕ = c.as_slice-x.result.now in
    let r : List ℕ = c.scale_row.new.r in
    let ex : x ≡ c.args.self.now = c.as_slice-x.ensures ∙ c.self.view_is in
    let from : c.as_mut_slice.result.now ≡ x = c.as_mut_slice.ensures.value ∙ c.in_ok-c.ensures.ok in
    let len : length r ≡ length c.in_ok-c.c.items =
    omega (arith, c.scale_row.auto.r, ap length c.as_mut_slice.ensures.value) in
    subst (λ a. IsMonicOf o a c.without_zeros_at_end.result) ex
    (monic_done o c.know_laws.ensures x r c.without_zeros_at_end.result c.inverse-unit.result
    (subst (IsOver o) (sym ex) c.requires.over) (subst (IsTrimmed 0) (sym c.as_slice-x.ensures) c.self.invariant)
    (omega (arith, length_pos_of_ne c.args.self.now c.requires.nonzero, ap length ex))
    c.inverse-unit.ensures.elem c.inverse-unit.ensures.value
    (omega (arith, c.scale_row.auto.r, ap length from))
    (λ k l. c.scale_row.ensures.scaled k (omega (arith, l, ap length from))
    ∙ ap (λ s. o.mul c.inverse-unit.result (get_or s k 0)) from)
    c.without_zeros_at_end.ensures.trimmed
    (λ k. c.without_zeros_at_end.ensures.same k ∙ ap (λ s. get_or s k 0) (refill_same c.in_ok-c.c.items r len)))

pub returns-clause-over : goal.returns-clause-over
returns-clause-over c =
    let o = small_ops c.args.f.now in
    let r : List ℕ = c.scale_row.new.r in
    let len : length r ≡ length c.in_ok-c.c.items =
    omega (arith, c.scale_row.auto.r, ap length c.as_mut_slice.ensures.value) in
    c.without_zeros_at_end.ensures.over o
    (subst (IsOver o) (sym (refill_same c.in_ok-c.c.items r len)) c.scale_row.ensures.over)
