use Rattle.std.proofs.Common.{◌≡◌, ◌<◌, ◌≤◌, ℕ, [], false, refl, sym, ◌∙◌, ap, subst, arith, get_or, map, length, ⊎_elim}
use Rattle.std.proofs.lemmas.Bool.{both_ways, cases_lt}
use Rattle.spl_field.specs.SmallField.{small_ops, small_laws}
use Rattle.spl_fraction.specs.Fractions.{field_of}
use Rattle.spl_fraction.specs.FractionsOver.{fractions_over}
use Rattle.theory_rows.specs.Rows.{IsPolynomialMatrix}
use Rattle.theory_tables.specs.Matrix.{width_of}
use Rattle.theory_bases.specs.TupleLattices.{TupleLattice}
use Rattle.theory_bases.specs.Bases.{IsPolynomialFraction, fraction_over, tuples_of}
use Rattle.spl_order.proofs.Containments.{can_reduce, own_tuple, all_within}
use Rattle.spl_order.proofs.ContainedRows.{place_in, are_polynomials, is_matrix, d_is_polynomial, c_is_polynomial}
use Rattle.spl_order.proofs.ContainedRows.{d_is_nonzero, c_is_nonzero, test_tells}
use Rattle.spl_order.proofs.within.is_within.Goals as goal

pub loop-i-init : goal.loop-i-init
loop-i-init c = λ n ha hb j l. absurd (omega (arith, l))

pub reduce-requires : goal.reduce-requires
reduce-requires c =
    let F = field_of c.args.f.now in
    let r = c.numerators-2.result.now in
    subst (λ f. IsPolynomialMatrix (small_ops f) (width_of r) r) (sym c.field.ensures)
    (subst (λ r. IsPolynomialMatrix (small_ops F) (width_of r) r) (sym c.numerators-2.ensures)
    (can_reduce (small_ops F) (small_laws F) c.requires.0 c.args.a.now c.args.b.now c.requires.1 c.requires.2))

pub has_row-requires-clause-rows : goal.has_row-requires-clause-rows
has_row-requires-clause-rows c =
    is_matrix (field_of c.args.f.now) c.requires.0 c.args.a.now c.args.b.now c.requires.1 c.requires.2 c.field.result.now
    c.field.ensures c.numerators-2.result.now c.numerators-2.ensures c.in_ok-basis.basis.basis c.in_ok-basis.ensures.matrix
    c.in_ok-basis.ensures.lattice c.as_slice-rows.result.now (c.as_slice-rows.ensures ∙ c.numerators.ensures) c.loop-i.i
    c.loop-i-test.true c.index-rows-i.result c.as_slice-row.result.now c.index-rows-i.is c.as_slice-row.ensures
    c.field-in-loop-i.result.now c.field-in-loop-i.ensures c.denominator.result.now c.denominator-in-loop-i.result.now
    c.denominator.ensures.value c.denominator-in-loop-i.ensures.value

pub has_row-requires-clause-row : goal.has_row-requires-clause-row
has_row-requires-clause-row c =
    are_polynomials (field_of c.args.f.now) c.requires.0 c.args.a.now c.args.b.now c.requires.1 c.requires.2 c.field.result.now
    c.field.ensures c.numerators-2.result.now c.numerators-2.ensures c.in_ok-basis.basis.basis c.in_ok-basis.ensures.matrix
    c.in_ok-basis.ensures.lattice c.as_slice-rows.result.now (c.as_slice-rows.ensures ∙ c.numerators.ensures) c.loop-i.i
    c.loop-i-test.true c.index-rows-i.result c.as_slice-row.result.now c.index-rows-i.is c.as_slice-row.ensures
    c.field-in-loop-i.result.now c.field-in-loop-i.ensures c.denominator.result.now c.denominator-in-loop-i.result.now
    c.denominator.ensures.value c.denominator-in-loop-i.ensures.value

pub has_row-requires-clause-d : goal.has_row-requires-clause-d
has_row-requires-clause-d c =
    d_is_polynomial (field_of c.args.f.now) c.requires.0 c.args.a.now c.args.b.now c.requires.1 c.requires.2 c.field.result.now
    c.field.ensures c.numerators-2.result.now c.numerators-2.ensures c.in_ok-basis.basis.basis c.in_ok-basis.ensures.matrix
    c.in_ok-basis.ensures.lattice c.as_slice-rows.result.now (c.as_slice-rows.ensures ∙ c.numerators.ensures) c.loop-i.i
    c.loop-i-test.true c.index-rows-i.result c.as_slice-row.result.now c.index-rows-i.is c.as_slice-row.ensures
    c.field-in-loop-i.result.now c.field-in-loop-i.ensures c.denominator.result.now c.denominator-in-loop-i.result.now
    c.denominator.ensures.value c.denominator-in-loop-i.ensures.value

pub has_row-requires-clause-d_nonzero : goal.has_row-requires-clause-d_nonzero
has_row-requires-clause-d_nonzero c =
    d_is_nonzero (field_of c.args.f.now) c.requires.0 c.args.a.now c.args.b.now c.requires.1 c.requires.2 c.field.result.now
    c.field.ensures c.numerators-2.result.now c.numerators-2.ensures c.in_ok-basis.basis.basis c.in_ok-basis.ensures.matrix
    c.in_ok-basis.ensures.lattice c.as_slice-rows.result.now (c.as_slice-rows.ensures ∙ c.numerators.ensures) c.loop-i.i
    c.loop-i-test.true c.index-rows-i.result c.as_slice-row.result.now c.index-rows-i.is c.as_slice-row.ensures
    c.field-in-loop-i.result.now c.field-in-loop-i.ensures c.denominator.result.now c.denominator-in-loop-i.result.now
    c.denominator.ensures.value c.denominator-in-loop-i.ensures.value

pub has_row-requires-clause-c : goal.has_row-requires-clause-c
has_row-requires-clause-c c =
    c_is_polynomial (field_of c.args.f.now) c.requires.0 c.args.a.now c.args.b.now c.requires.1 c.requires.2 c.field.result.now
    c.field.ensures c.numerators-2.result.now c.numerators-2.ensures c.in_ok-basis.basis.basis c.in_ok-basis.ensures.matrix
    c.in_ok-basis.ensures.lattice c.as_slice-rows.result.now (c.as_slice-rows.ensures ∙ c.numerators.ensures) c.loop-i.i
    c.loop-i-test.true c.index-rows-i.result c.as_slice-row.result.now c.index-rows-i.is c.as_slice-row.ensures
    c.field-in-loop-i.result.now c.field-in-loop-i.ensures c.denominator.result.now c.denominator-in-loop-i.result.now
    c.denominator.ensures.value c.denominator-in-loop-i.ensures.value

pub has_row-requires-clause-c_nonzero : goal.has_row-requires-clause-c_nonzero
has_row-requires-clause-c_nonzero c =
    c_is_nonzero (field_of c.args.f.now) c.requires.0 c.args.a.now c.args.b.now c.requires.1 c.requires.2 c.field.result.now
    c.field.ensures c.numerators-2.result.now c.numerators-2.ensures c.in_ok-basis.basis.basis c.in_ok-basis.ensures.matrix
    c.in_ok-basis.ensures.lattice c.as_slice-rows.result.now (c.as_slice-rows.ensures ∙ c.numerators.ensures) c.loop-i.i
    c.loop-i-test.true c.index-rows-i.result c.as_slice-row.result.now c.index-rows-i.is c.as_slice-row.ensures
    c.field-in-loop-i.result.now c.field-in-loop-i.ensures c.denominator.result.now c.denominator-in-loop-i.result.now
    c.denominator.ensures.value c.denominator-in-loop-i.ensures.value

pub returns-then-not-branch : goal.returns-then-not-branch
returns-then-not-branch c = λ n ha hb.
    let F = field_of c.args.f.now in
    let r = c.in_ok-has_row.field-0 in
    let l = place_in (field_of c.args.f.now) n c.args.a.now c.args.b.now ha hb c.field.result.now
    c.field.ensures c.numerators-2.result.now c.numerators-2.ensures c.in_ok-basis.basis.basis c.in_ok-basis.ensures.matrix
    c.in_ok-basis.ensures.lattice c.as_slice-rows.result.now (c.as_slice-rows.ensures ∙ c.numerators.ensures) c.loop-i.i
    c.loop-i-test.true c.index-rows-i.result c.as_slice-row.result.now c.index-rows-i.is c.as_slice-row.ensures
    c.field-in-loop-i.result.now c.field-in-loop-i.ensures c.denominator.result.now c.denominator-in-loop-i.result.now
    c.denominator.ensures.value c.denominator-in-loop-i.ensures.value in
    let t = test_tells (field_of c.args.f.now) n c.args.a.now c.args.b.now ha hb c.field.result.now
    c.field.ensures c.numerators-2.result.now c.numerators-2.ensures c.in_ok-basis.basis.basis c.in_ok-basis.ensures.matrix
    c.in_ok-basis.ensures.lattice c.as_slice-rows.result.now (c.as_slice-rows.ensures ∙ c.numerators.ensures) c.loop-i.i
    c.loop-i-test.true c.index-rows-i.result c.as_slice-row.result.now c.index-rows-i.is c.as_slice-row.ensures
    c.field-in-loop-i.result.now c.field-in-loop-i.ensures c.denominator.result.now c.denominator-in-loop-i.result.now
    c.denominator.ensures.value c.denominator-in-loop-i.ensures.value r c.in_ok-has_row.ensures in
    let i = c.loop-i.i in (
      (λ y. absurd (both_ways false refl y)),
      (λ w. absurd (both_ways r c.if-not-branch.true (t.1 (w (map (fraction_over (small_ops F) (small_laws F) c.args.a.now.denominator)
          (get_or c.args.a.now.numerators i []))
          (own_tuple (small_ops F) (small_laws F) n c.args.a.now c.args.b.now ha hb i l))))),
    )

pub loop-i-preserved : goal.loop-i-preserved
loop-i-preserved c = λ n ha hb j l.
    let F = field_of c.args.f.now in
    let r = c.in_ok-has_row.field-0 in
    let t = test_tells (field_of c.args.f.now) n c.args.a.now c.args.b.now ha hb c.field.result.now
    c.field.ensures c.numerators-2.result.now c.numerators-2.ensures c.in_ok-basis.basis.basis c.in_ok-basis.ensures.matrix
    c.in_ok-basis.ensures.lattice c.as_slice-rows.result.now (c.as_slice-rows.ensures ∙ c.numerators.ensures) c.loop-i.i
    c.loop-i-test.true c.index-rows-i.result c.as_slice-row.result.now c.index-rows-i.is c.as_slice-row.ensures
    c.field-in-loop-i.result.now c.field-in-loop-i.ensures c.denominator.result.now c.denominator-in-loop-i.result.now
    c.denominator.ensures.value c.denominator-in-loop-i.ensures.value r c.in_ok-has_row.ensures in
    let i = c.loop-i.i in
    let Lat : ℕ → Type 0 = λ j. TupleLattice (fractions_over F) (IsPolynomialFraction (small_ops F)) n
    (tuples_of (small_ops F) (small_laws F) c.args.b.now)
    (map (fraction_over (small_ops F) (small_laws F) c.args.a.now.denominator) (get_or c.args.a.now.numerators j [])) in
    ⊎_elim (λ (h : j < i). c.loop-i.invariant n ha hb j h)
    (λ (h : i ≤ j). let e : i ≡ j = omega (arith, h, l) in subst Lat e (t.0 c.if-not-branch.false)) (cases_lt j i)

pub returns : goal.returns
returns c = λ n ha hb.
    let F = field_of c.args.f.now in
    let e : length c.as_slice-rows.result.now ≡ length c.args.a.now.numerators =
    ap length (c.as_slice-rows.ensures ∙ c.numerators.ensures) in (
      (λ _. all_within (small_ops F) (small_laws F) n c.args.a.now c.args.b.now ha hb
          (λ i l. c.loop-i.invariant n ha hb i (omega (arith, l, e)))),
      (λ _. refl),
    )
