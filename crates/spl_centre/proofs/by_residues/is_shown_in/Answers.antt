use Rattle.std.proofs.Common.{◌*◌, ◌≤◌, ℕ, [], length, get_or, sym, ◌∙◌, ap, subst, arith}
use Rattle.theory_rings.specs.Ops.{Ops}
use Rattle.theory_fractions.specs.PolynomialLists.{IsPolynomialList}
use Rattle.spl_field.specs.SmallField.{small_ops, small_laws}
use Rattle.spl_fraction.specs.Fractions.{field_of as fractions_field_of}
use Rattle.spl_fraction.specs.FractionsOver.{fractions_over}
use Rattle.spl_residue.specs.Residue.{field_of, polynomial_of}
use Rattle.spl_numerators.proofs.Triples.{has_polynomials}
use Rattle.spl_centre.specs.Shown.{Holds}
use Rattle.spl_centre.proofs.Reduced.{reduced_over, reduced_items, reduced_line, reduced_form}
use Rattle.spl_centre.proofs.AtPlaces.{small_centre_at, nondegenerate_at}
use Rattle.spl_centre.proofs.by_residues.is_shown_in.Goals as goal

pub algebra_at-requires-clause-count : goal.algebra_at-requires-clause-count
algebra_at-requires-clause-count c =
    let n = c.requires.numerators.multiples in
    ap length c.as_slice.ensures ∙ n.count ∙ ap (λ m. m * m * m) (sym c.dim.ensures.dim)

pub algebra_at-requires-clause-polynomials : goal.algebra_at-requires-clause-polynomials
algebra_at-requires-clause-polynomials c p l =
    let f = fractions_field_of c.args.f.now in
    let P : Ops ℕ → Type 0 = λ o. IsPolynomialList o (get_or c.as_slice.result.now p []) in
    subst P (sym c.requires.field)
    (has_polynomials (small_ops f) (small_laws f) c.args.n.now.denominator c.args.a.now.constants
    (c.args.a.now.dim * c.args.a.now.dim * c.args.a.now.dim) c.args.n.now.entries c.requires.numerators.multiples
    c.as_slice.result.now c.as_slice.ensures p l)

pub centre_is_on_line-requires : goal.centre_is_on_line-requires
centre_is_on_line-requires c =
    let S = c.in_ok-algebra in
    reduced_over c.args.k.now c.as_slice.result.now c.args.n.now.entries c.dim.result c.args.a.now.dim
    c.as_slice.ensures c.dim.ensures.dim S.algebra S.ensures.dim S.ensures.constants

pub form_is_regular-requires : goal.form_is_regular-requires
form_is_regular-requires c =
    let S = c.in_ok-algebra in
    reduced_over c.args.k.now c.as_slice.result.now c.args.n.now.entries c.dim.result c.args.a.now.dim
    c.as_slice.ensures c.dim.ensures.dim S.algebra S.ensures.dim S.ensures.constants

pub returns-in-SmallCentre : goal.returns-in-SmallCentre
returns-in-SmallCentre c t =
    let k = c.args.k.now in
    let f = fractions_field_of c.args.f.now in
    let n = c.args.n.now in
    let A = c.args.a.now in
    let S = c.in_ok-algebra in
    let r = reduced_items k c.as_slice.result.now n.entries c.dim.result A.dim c.as_slice.ensures c.dim.ensures.dim
    S.algebra S.ensures.dim S.ensures.constants in
    let h = reduced_line k c.as_slice.result.now n.entries c.dim.result A.dim c.as_slice.ensures c.dim.ensures.dim
    S.algebra S.ensures.dim S.ensures.constants (c.in_ok-centre_is_on_line-in-SmallCentre.ensures t) in
    let some : 1 ≤ A.dim = omega (arith, c.dim.ensures.dim, c.dim.ensures.positive) in
    subst (Holds (fractions_over f) A) (sym c.in-SmallCentre.is)
    (small_centre_at (small_ops (field_of k)) (small_laws (field_of k)) (polynomial_of k) k.irreducible A n.denominator
    n.entries S.algebra.constants r.tuple r.each some h (small_ops f) (small_laws f) c.requires.field c.requires.over
    c.requires.associative c.requires.numerators)

pub returns : goal.returns
returns c t =
    let k = c.args.k.now in
    let f = fractions_field_of c.args.f.now in
    let n = c.args.n.now in
    let A = c.args.a.now in
    let S = c.in_ok-algebra in
    let r = reduced_items k c.as_slice.result.now n.entries c.dim.result A.dim c.as_slice.ensures c.dim.ensures.dim
    S.algebra S.ensures.dim S.ensures.constants in
    let h = reduced_form k c.as_slice.result.now n.entries c.dim.result A.dim c.as_slice.ensures c.dim.ensures.dim
    S.algebra S.ensures.dim S.ensures.constants (c.in_ok-form_is_regular-in-Nondegenerate.ensures t) in
    subst (Holds (fractions_over f) A) (sym c.in-Nondegenerate.is)
    (nondegenerate_at (small_ops (field_of k)) (small_laws (field_of k)) (polynomial_of k) k.irreducible A
    n.denominator n.entries S.algebra.constants r.tuple r.each h (small_ops f) (small_laws f) c.requires.field
    c.requires.over c.requires.associative c.requires.numerators)
