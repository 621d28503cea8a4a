use Rattle.std.proofs.Common.{arith, sym, ◌∙◌, ap, subst, get_or, length, replicate, List, ℕ, ◌≡◌, ◌<◌, ◌≤◌, ◌-◌}
use Rattle.std.proofs.Common.{⊎_elim}
use Rattle.std.proofs.lemmas.Bool.{cases_lt}
use Rattle.std.proofs.lemmas.List.{get_or-replicate, get_or_past, length-replicate}
use Rattle.theory_rings.specs.Polynomial.{IsTrimmed}
use Rattle.theory_rings.proofs.Rings.Elements.{at-elem}
use Rattle.spl_field.specs.SmallField.{small_ops}
use Rattle.spl_poly.specs.Operations.{IsOver, IsDivision}
use Rattle.spl_poly.proofs.Trimming.{last-ne-zero_of_pos, length_pos_of_ne, refill_same}
use Rattle.spl_poly.proofs.Results.{division_done, lead-inverse}
use Rattle.spl_poly.proofs.poly.Poly.divide.Goals as goal

zeros-read : (n k : ℕ) → ◌≡◌ {A = ℕ} (get_or (replicate n 0) k 0) 0
zeros-read n k = ⊎_elim
    (λ (l : k < n). get_or-replicate n k 0 0 l)
    (λ (l : n ≤ k). get_or_past (replicate n 0) k 0 (rw length-replicate l))
    (cases_lt k n)

pub inverse-unit-requires-clause-nonzero : goal.inverse-unit-requires-clause-nonzero
inverse-unit-requires-clause-nonzero c =
    let ed : c.as_slice-divisor.result.now ≡ c.args.by.now = c.as_slice-divisor.ensures ∙ c.by.view_is in
    last-ne-zero_of_pos 0 c.as_slice-divisor.result.now
    (subst (IsTrimmed 0) (sym c.as_slice-divisor.ensures) c.by.invariant)
    (omega (arith, length_pos_of_ne c.args.by.now c.requires.nonzero, ap length ed))

pub divide_row-requires-clause-is_unit : goal.divide_row-requires-clause-is_unit
divide_row-requires-clause-is_unit c =
    let o = small_ops c.args.f.now in
    let L = c.know_laws.ensures in
    let d : List ℕ = c.as_slice-divisor.result.now in
    let ed : d ≡ c.args.by.now = c.as_slice-divisor.ensures ∙ c.by.view_is in
    let over : IsOver o d = subst (IsOver o) (sym ed) c.requires.by_over in
    L.mul_comm (get_or d (length d - 1) 0) c.inverse-unit.result
    (at-elem o L d over (length d - 1)) c.inverse-unit.ensures.elem
    ∙ lead-inverse o L d c.inverse-unit.result over
    (subst (IsTrimmed 0) (sym c.as_slice-divisor.ensures) c.by.invariant)
    (omega (arith, length_pos_of_ne c.args.by.now c.requires.nonzero, ap length ed)) c.inverse-unit.ensures.value

pub returns-clause-value : goal.returns-clause-value
returns-clause-value c =
    let o = small_ops c.args.f.now in
    let d : List ℕ = c.as_slice-divisor.result.now in
    let q : List ℕ = c.divide_row.new.q in
    let r : List ℕ = c.divide_row.new.r in
    let ed : d ≡ c.args.by.now = c.as_slice-divisor.ensures ∙ c.by.view_is in
    let er : c.as_mut_slice-2.result.now ≡ c.args.self.now = c.as_mut_slice-2.ensures.value ∙ c.in_ok-rest.ensures.ok
    ∙ c.as_slice.ensures ∙ c.self.view_is in
    let qlen : length q ≡ length c.in_ok-quotient.quotient.items =
    omega (arith, c.divide_row.auto.q, ap length c.as_mut_slice.ensures.value) in
    let rlen : length r ≡ length c.in_ok-rest.rest.items =
    omega (arith, c.divide_row.auto.r, ap length c.as_mut_slice-2.ensures.value) in
    subst (λ b. IsDivision o c.args.self.now b c.without_zeros_at_end.result c.without_zeros_at_end-2.result) ed
    (division_done o c.know_laws.ensures c.args.self.now d q c.without_zeros_at_end.result r
    c.without_zeros_at_end-2.result
    (λ k. c.without_zeros_at_end.ensures.same k
    ∙ ap (λ s. get_or s k 0) (refill_same c.in_ok-quotient.quotient.items q qlen))
    (λ k. c.without_zeros_at_end-2.ensures.same k ∙ ap (λ s. get_or s k 0) (refill_same c.in_ok-rest.rest.items r rlen))
    (λ k. c.divide_row.ensures.whole k ∙ ap (λ s. get_or s k 0) er)
    c.without_zeros_at_end-2.ensures.trimmed
    (omega (arith, length_pos_of_ne c.args.by.now c.requires.nonzero, ap length ed))
    c.divide_row.ensures.small)

pub returns-clause-quotient_over : goal.returns-clause-quotient_over
returns-clause-quotient_over c =
    let o = small_ops c.args.f.now in
    let q : List ℕ = c.divide_row.new.q in
    let qlen : length q ≡ length c.in_ok-quotient.quotient.items =
    omega (arith, c.divide_row.auto.q, ap length c.as_mut_slice.ensures.value) in
    c.without_zeros_at_end.ensures.over o
    (subst (IsOver o) (sym (refill_same c.in_ok-quotient.quotient.items q qlen)) c.divide_row.ensures.q_over)

pub returns-clause-remainder_over : goal.returns-clause-remainder_over
returns-clause-remainder_over c =
    let o = small_ops c.args.f.now in
    let r : List ℕ = c.divide_row.new.r in
    let rlen : length r ≡ length c.in_ok-rest.rest.items =
    omega (arith, c.divide_row.auto.r, ap length c.as_mut_slice-2.ensures.value) in
    c.without_zeros_at_end-2.ensures.over o
    (subst (IsOver o) (sym (refill_same c.in_ok-rest.rest.items r rlen)) c.divide_row.ensures.r_over)

pub divide_row-requires-clause-r_over : goal.divide_row-requires-clause-r_over
divide_row-requires-clause-r_over c =
    let er : c.as_mut_slice-2.result.now ≡ c.args.self.now =
    c.as_mut_slice-2.ensures.value ∙ c.in_ok-rest.ensures.ok ∙ c.as_slice.ensures ∙ c.self.view_is in
    subst (IsOver (small_ops c.args.f.now)) (sym er) c.requires.self_over

pub divide_row-requires-clause-by_over : goal.divide_row-requires-clause-by_over
divide_row-requires-clause-by_over c =
    subst (IsOver (small_ops c.args.f.now)) (sym (c.as_slice-divisor.ensures ∙ c.by.view_is)) c.requires.by_over

pub divide_row-requires-clause-nonzero : goal.divide_row-requires-clause-nonzero
divide_row-requires-clause-nonzero c =
    omega (
      arith,
      length_pos_of_ne c.args.by.now c.requires.nonzero,
      ap length (c.as_slice-divisor.ensures ∙ c.by.view_is),
    )

pub divide_row-requires-clause-empty : goal.divide_row-requires-clause-empty
divide_row-requires-clause-empty c k =
    ap (λ s. get_or s k 0) (c.as_mut_slice.ensures.value ∙ c.in_ok-quotient.ensures)
    ∙ zeros-read c.saturating_sub.result k

pub divide_row-requires-clause-room : goal.divide_row-requires-clause-room
divide_row-requires-clause-room c =
    omega (
      arith,
      ap length (c.as_mut_slice.ensures.value ∙ c.in_ok-quotient.ensures),
      length-replicate {A = ℕ} c.saturating_sub.result 0,
      c.saturating_sub.ensures,
      ap length c.as_mut_slice-2.ensures.value,
      c.len.ensures.value,
    )

pub returns-clause-quotient_trimmed : goal.returns-clause-quotient_trimmed
returns-clause-quotient_trimmed c = c.without_zeros_at_end.ensures.trimmed

pub returns-clause-remainder_trimmed : goal.returns-clause-remainder_trimmed
returns-clause-remainder_trimmed c = c.without_zeros_at_end-2.ensures.trimmed
