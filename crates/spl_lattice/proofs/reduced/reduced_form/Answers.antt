use Rattle.std.proofs.Common.{sym, ◌∙◌, ap, subst, ◌+◌, ◌≤◌, length}
use Rattle.std.specs.List.{All}
use Rattle.theory_rows.specs.Augmented.{heads_of}
use Rattle.theory_rows.specs.LeadingPositions.{HaveLeadingPositions, HaveRowDegrees}
use Rattle.spl_field.specs.SmallField.{small_ops}
use Rattle.spl_poly.specs.Operations.{IsOver}
use Rattle.spl_lattice.proofs.RowLattices.{rows_over, rows_wide, heads_lead, heads_reduced}
use Rattle.spl_lattice.proofs.reduced.reduced_form.Goals as goal

pub heads-requires : goal.heads-requires
heads-requires c =
    let o = small_ops c.args.f.now in
    let B = c.args.split.now.basis.items in
    let h = c.requires.basis_rows in
    let e = sym c.as_slice.ensures.value in
    record {
      rows = subst (All (All (IsOver o))) e (rows_over o c.know_laws.ensures (c.args.w + c.args.n) B h);
      width = subst (All (λ row. c.args.w ≤ length row)) e (rows_wide o c.know_laws.ensures c.args.w c.args.n B h);
    }

pub tails-requires : goal.tails-requires
tails-requires c =
    let o = small_ops c.args.f.now in
    let B = c.args.split.now.basis.items in
    let h = c.requires.basis_rows in
    let e = sym c.as_slice-4.ensures.value in
    record {
      rows = subst (All (All (IsOver o))) e (rows_over o c.know_laws.ensures (c.args.w + c.args.n) B h);
      width = subst (All (λ row. c.args.w ≤ length row)) e (rows_wide o c.know_laws.ensures c.args.w c.args.n B h);
    }

pub degrees_of-requires : goal.degrees_of-requires
degrees_of-requires c =
    let s = c.args.split.now in
    let w = c.args.w in
    subst (HaveLeadingPositions w c.as_slice-2.result.now) (sym c.as_slice-3.ensures.value)
    (heads_lead (small_ops c.args.f.now) c.know_laws.ensures w c.args.n s.basis.items s.places.items s.zeros.items
    c.requires c.as_slice-2.result.now
    (c.as_slice-2.ensures ∙ c.in_ok-basis.ensures ∙ ap (heads_of w) c.as_slice.ensures.value))

pub invariant_of-result : goal.invariant_of-result
invariant_of-result c =
    let s = c.args.split.now in
    let w = c.args.w in
    let b = c.in_ok-basis.basis in
    let d = c.in_ok-degrees.degrees in
    heads_reduced (small_ops c.args.f.now) c.know_laws.ensures w c.args.n s.basis.items s.places.items s.zeros.items
    c.requires b (c.in_ok-basis.ensures ∙ ap (heads_of w) c.as_slice.ensures.value) d
    (subst (λ r. HaveRowDegrees r s.places.items d) c.as_slice-2.ensures
    (subst (λ p. HaveRowDegrees c.as_slice-2.result.now p d) c.as_slice-3.ensures.value c.in_ok-degrees.ensures))
