use Rattle.std.proofs.Common.{◌≡◌, ◌*◌, ◌^◌, ◌<◌, ℕ, List, [], length, get_or, sym, ◌∙◌, ap, subst}
use Rattle.theory_rings.specs.Ops.{Ops}
use Rattle.theory_fractions.specs.PolynomialLists.{IsPolynomialList}
use Rattle.theory_constants.specs.Generated.{MiddlesAssociate}
use Rattle.spl_fraction.specs.FractionsOver.{fractions_over}
use Rattle.spl_fraction.specs.Fractions.{field_of as fractions_field_of}
use Rattle.spl_residue.specs.declared.field.ResidueField.{ResidueField}
use Rattle.spl_field.specs.SmallField.{small_ops, small_laws}
use Rattle.spl_residue.specs.Residue.{field_of, polynomial_of}
use Rattle.spl_numerators.specs.Residues.{GenerateResidues}
use Rattle.spl_numerators.proofs.Triples.{has_polynomials}
use Rattle.spl_numerators.proofs.ByResidues.{associative_at}
use Rattle.spl_numerators.proofs.triple.associates_by_generators.Goals as goal

pub generators_at-requires-clause-fits : goal.generators_at-requires-clause-fits
generators_at-requires-clause-fits c =
    subst (λ m. m * m * m < 2 ^ 64) (sym c.dim.ensures.dim) c.constants-count.ensures.fits

pub generators_at-requires-clause-count : goal.generators_at-requires-clause-count
generators_at-requires-clause-count c =
    let n = c.requires.numerators.multiples in
    ap length c.as_slice.ensures ∙ n.count ∙ ap (λ m. m * m * m) (sym c.dim.ensures.dim)

pub generators_at-requires-clause-polynomials : goal.generators_at-requires-clause-polynomials
generators_at-requires-clause-polynomials c p l =
    let f = fractions_field_of c.args.f.now in
    let P : Ops ℕ → Type 0 = λ o. IsPolynomialList o (get_or c.as_slice.result.now p []) in
    subst P (sym c.requires.field)
    (has_polynomials (small_ops f) (small_laws f) c.args.n.now.denominator c.args.a.now.constants
    (c.args.a.now.dim * c.args.a.now.dim * c.args.a.now.dim) c.args.n.now.entries c.requires.numerators.multiples
    c.as_slice.result.now c.as_slice.ensures p l)

-- what the call gave, of the polynomials and the dimension of the algebra
given : (k : ResidueField) (xs ys : List (List ℕ)) (d m : ℕ) (by : List ℕ) → xs ≡ ys → d ≡ m
    → GenerateResidues k xs d by → GenerateResidues k ys m by
given k xs ys d m by e q h =
    subst (λ m. GenerateResidues k ys m by) q (subst (λ zs. GenerateResidues k zs d by) e h)

pub middles_associate-requires-clause-within : goal.middles_associate-requires-clause-within
middles_associate-requires-clause-within c =
    let h = given c.args.k.now c.as_slice.result.now c.args.n.now.entries c.dim.result c.args.a.now.dim c.in_ok-by.by
    c.as_slice.ensures c.dim.ensures.dim c.in_ok-by.ensures in
    let g = h.generates in
    subst (λ (by : List ℕ). (s : ℕ) → s < length by → get_or by s 0 < c.args.a.now.dim) (sym c.as_slice-2.ensures)
    g.within

pub returns : goal.returns
returns c t =
    let k = c.args.k.now in
    let f = fractions_field_of c.args.f.now in
    let n = c.args.n.now in
    let A = c.args.a.now in
    let by = c.in_ok-by.by in
    let h = given k c.as_slice.result.now n.entries c.dim.result A.dim by c.as_slice.ensures c.dim.ensures.dim
    c.in_ok-by.ensures in
    let r = h.are_remainders in
    associative_at (small_ops (field_of k)) (small_ops f) (small_laws (field_of k)) (small_laws f) c.requires.field
    (polynomial_of k) k.irreducible A c.requires.over n.denominator n.entries c.requires.numerators h.residues r.tuple
    r.each by h.generates
    (subst (λ (by : List ℕ). MiddlesAssociate (fractions_over f) A by) c.as_slice-2.ensures
    (c.in_ok-middles_associate.ensures t))
