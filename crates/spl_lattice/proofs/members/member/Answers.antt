use Rattle.std.proofs.Common.{sym, ◌∙◌, ap, subst, arith, ◌≡◌, [], length, get_or}
use Rattle.std.proofs.lemmas.List.{get_or_default}
use Rattle.spl_field.specs.SmallField.{small_ops}
use Rattle.theory_rows.specs.Augmented.{zero_row}
use Rattle.theory_rows.specs.LeadingPositions.{HasLeadingPosition, HaveLeadingPositions, IsZeroUpTo}
use Rattle.theory_rows.specs.Rows.{IsPolynomialRow}
use Rattle.theory_rows.proofs.LiftedRows.{row_at}
use Rattle.spl_lattice.proofs.Division.{IsDividing, dividing_start, combination_of_none, outside}
use Rattle.spl_lattice.proofs.Division.{divisor_read, no_divisor_read, next}
use Rattle.spl_lattice.proofs.members.member.Goals as goal

pub steps-init : goal.steps-init
steps-init c =
    let o = small_ops c.args.f.now in
    let row = c.args.row.now in
    let rows = c.args.basis.now.basis in
    let z = c.in_ok-coordinates in
    let r = c.in_ok-rest in
    subst (λ x. IsDividing o (length row) rows row x r.rest)
    (sym (z.ensures ∙ ap (λ m. zero_row m) (c.len.ensures ∙ ap length c.basis-rows.ensures.value)))
    (subst (IsDividing o (length row) rows row (zero_row (length rows))) (sym (r.ensures ∙ c.as_slice.ensures))
    (dividing_start o c.know_laws.ensures (length row) rows c.requires.basis row c.requires.row))

pub divide_at-requires-clause-by : goal.divide_at-requires-clause-by
divide_at-requires-clause-by c =
    let o = small_ops c.args.f.now in
    let row = c.args.row.now in
    let rows = c.args.basis.now.basis in
    let places = c.in_ok-places.places.items in
    let s = c.steps in
    let i = c.in-Some.i in
    let d = divisor_read (length row) c.len-w.result rows c.as_slice-in-steps-2.result.now places
    c.as_slice-in-steps.result.now s.rest c.as_slice-in-steps-3.result.now i c.len-w.ensures
    (c.as_slice-in-steps-2.ensures ∙ c.basis-rows.ensures.value) c.as_slice-in-steps.ensures.value
    c.as_slice-in-steps-3.ensures c.in-Some.ensures in
    let x = c.index-as_slice-i in
    let e : x.result ≡ get_or rows i [] = x.is
    ∙ ap (λ xs. get_or xs i x.result) (c.as_slice-in-Some.ensures ∙ c.basis-rows.ensures.value)
    ∙ get_or_default rows i x.result [] d.within in
    let t = s.invariant.rest_row in
    subst (IsPolynomialRow o (length s.rest)) (sym e) (subst (λ m. IsPolynomialRow o m (get_or rows i [])) (sym t.width)
    (row_at o c.know_laws.ensures (length row) rows c.requires.basis i d.within))

pub steps-smaller : goal.steps-smaller
steps-smaller c =
    let o = small_ops c.args.f.now in
    let row = c.args.row.now in
    let rows = c.args.basis.now.basis in
    let places = c.in_ok-places.places.items in
    let s = c.steps in
    let i = c.in-Some.i in
    let d = divisor_read (length row) c.len-w.result rows c.as_slice-in-steps-2.result.now places
    c.as_slice-in-steps.result.now s.rest c.as_slice-in-steps-3.result.now i c.len-w.ensures
    (c.as_slice-in-steps-2.ensures ∙ c.basis-rows.ensures.value) c.as_slice-in-steps.ensures.value
    c.as_slice-in-steps-3.ensures c.in-Some.ensures in
    let h : HaveLeadingPositions (length row) rows places = subst (λ m. HaveLeadingPositions m rows places)
    c.len-w.ensures c.in_ok-places.ensures in
    let x = c.index-as_slice-i in
    let e : x.result ≡ get_or rows i [] = x.is
    ∙ ap (λ xs. get_or xs i x.result) (c.as_slice-in-Some.ensures ∙ c.basis-rows.ensures.value)
    ∙ get_or_default rows i x.result [] d.within in
    let p = c.index.result.now in
    let ep : p ≡ get_or places i 0 = c.index.ensures
    ∙ get_or_default places i p 0 (omega (arith, d.within, h.count)) in
    let r = c.in_ok-rest-2 in
    let n = next o c.know_laws.ensures (length row) rows c.requires.basis places h row c.requires.row s.coordinates
    s.rest
    c.divide_at.new.coordinates r.rest s.invariant i d p x.result ep e r.ensures.row r.ensures.value in
    n.lower

pub steps-preserved : goal.steps-preserved
steps-preserved c =
    let o = small_ops c.args.f.now in
    let row = c.args.row.now in
    let rows = c.args.basis.now.basis in
    let places = c.in_ok-places.places.items in
    let s = c.steps in
    let i = c.in-Some.i in
    let d = divisor_read (length row) c.len-w.result rows c.as_slice-in-steps-2.result.now places
    c.as_slice-in-steps.result.now s.rest c.as_slice-in-steps-3.result.now i c.len-w.ensures
    (c.as_slice-in-steps-2.ensures ∙ c.basis-rows.ensures.value) c.as_slice-in-steps.ensures.value
    c.as_slice-in-steps-3.ensures c.in-Some.ensures in
    let h : HaveLeadingPositions (length row) rows places = subst (λ m. HaveLeadingPositions m rows places)
    c.len-w.ensures c.in_ok-places.ensures in
    let x = c.index-as_slice-i in
    let e : x.result ≡ get_or rows i [] = x.is
    ∙ ap (λ xs. get_or xs i x.result) (c.as_slice-in-Some.ensures ∙ c.basis-rows.ensures.value)
    ∙ get_or_default rows i x.result [] d.within in
    let p = c.index.result.now in
    let ep : p ≡ get_or places i 0 = c.index.ensures
    ∙ get_or_default places i p 0 (omega (arith, d.within, h.count)) in
    let r = c.in_ok-rest-2 in
    let n = next o c.know_laws.ensures (length row) rows c.requires.basis places h row c.requires.row s.coordinates
    s.rest
    c.divide_at.new.coordinates r.rest s.invariant i d p x.result ep e r.ensures.row r.ensures.value in
    n.dividing

pub returns-in-None-clause-combination : goal.returns-in-None-clause-combination
returns-in-None-clause-combination c =
    let row = c.args.row.now in
    let s = c.steps in
    combination_of_none (small_ops c.args.f.now) c.know_laws.ensures (length row) c.args.basis.now.basis
    c.requires.basis
    row c.requires.row s.coordinates s.rest s.invariant
    (subst (λ m. IsZeroUpTo m s.rest) c.len-w.ensures
    (subst (IsZeroUpTo c.len-w.result) c.as_slice-2.ensures c.in-None.ensures))

pub returns-clause-none : goal.returns-clause-none
returns-clause-none c =
    let row = c.args.row.now in
    let rows = c.args.basis.now.basis in
    let places = c.in_ok-places.places.items in
    let s = c.steps in
    let p = c.in-Some-leading_position.field-0 in
    let h : HaveLeadingPositions (length row) rows places = subst (λ m. HaveLeadingPositions m rows places)
    c.len-w.ensures c.in_ok-places.ensures in
    let none = no_divisor_read (length row) c.len-w.result rows c.as_slice-in-steps-2.result.now places
    c.as_slice-in-steps.result.now s.rest c.as_slice-in-steps-3.result.now c.len-w.ensures
    (c.as_slice-in-steps-2.ensures ∙ c.basis-rows.ensures.value) c.as_slice-in-steps.ensures.value
    c.as_slice-in-steps-3.ensures c.in_default.ensures in
    λ _. outside (small_ops c.args.f.now) c.know_laws.ensures (length row) rows c.requires.basis row c.requires.row
    s.coordinates s.rest s.invariant places p h
    (subst (λ m. HasLeadingPosition m s.rest p) c.len-w.ensures
    (subst (λ x. HasLeadingPosition c.len-w.result x p) c.as_slice-2.ensures c.in-Some-leading_position.ensures)) none
