use Rattle.std.proofs.Common.{◌∙◌, [], false, List, ℕ, refl, length, get_or, subst, sym, Option, IfSome}
use Rattle.std.proofs.lemmas.Bool.{both_ways}
use Rattle.spl_field.specs.SmallField.{small_ops, small_laws}
use Rattle.theory_rows.specs.Rows.{IsPolynomialRow}
use Rattle.spl_order.specs.Values.{HasRow, multiple_over}
use Rattle.spl_order.proofs.Values.{row_is}
use Rattle.spl_order.proofs.Containments.{member_tells, no_row_none}
use Rattle.spl_order.proofs.within.has_row.Goals as goal

pub member-requires-clause-row : goal.member-requires-clause-row
member-requires-clause-row c =
    let o = small_ops c.args.f.now in
    let value = λ (j : ℕ). multiple_over o (small_laws c.args.f.now) c.args.d.now c.args.c.now
    (get_or c.args.row.now j []) in
    let h : HasRow o value (length c.args.row.now) c.in-Some.found =
    subst (λ (r : Option (List (List ℕ))). IfSome r (HasRow o value (length c.args.row.now))) c.in-Some.is
    c.in_ok-row_over.ensures.row in
    subst (λ n. IsPolynomialRow o n c.in-Some.found) (sym h.count)
    (row_is o value (length c.args.row.now) c.in-Some.found h)

pub returns-in-None : goal.returns-in-None
returns-in-None c = (
  λ t. absurd (both_ways false refl t),
  λ h. absurd (no_row_none (small_ops c.args.f.now) (small_laws c.args.f.now)
      c.args.d.now c.args.c.now c.requires.d c.requires.d_nonzero c.requires.c c.requires.c_nonzero c.args.row.now
      c.requires.row c.args.rows.now.basis c.requires.rows (c.in_ok-row_over.ensures.none c.in-None.is) h),
)

pub returns-in_ok-member-in-Some : goal.returns-in_ok-member-in-Some
returns-in_ok-member-in-Some c =
    let o = small_ops c.args.f.now in
    let L = small_laws c.args.f.now in
    let value = λ (j : ℕ). multiple_over o L c.args.d.now c.args.c.now (get_or c.args.row.now j []) in
    let h : HasRow o value (length c.args.row.now) c.in-Some.found =
    subst (λ (r : Option (List (List ℕ))). IfSome r (HasRow o value (length c.args.row.now))) c.in-Some.is
    c.in_ok-row_over.ensures.row in
    let m = c.in_ok-member-in-Some in
    let s = member_tells o L c.args.d.now c.args.c.now c.requires.d c.requires.d_nonzero c.requires.c
    c.requires.c_nonzero c.args.row.now c.requires.row c.args.rows.now.basis c.requires.rows c.in-Some.found h m.field-0
    m.ensures.none m.ensures.coordinates m.ensures.combination in
    (λ t. s.0 (sym c.is_some.ensures ∙ t), λ l. c.is_some.ensures ∙ s.1 l)
