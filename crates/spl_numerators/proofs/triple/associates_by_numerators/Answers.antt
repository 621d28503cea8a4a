use Rattle.std.proofs.Common.{◌≡◌, ◌<◌, ◌*◌, ◌^◌, ◌↔◌, ℕ, List, length, IsTrue, sym, ◌∙◌, ap, subst}
use Rattle.spl_field.specs.SmallField.{small_ops, small_laws}
use Rattle.spl_numerators.specs.Sums.{left_item, right_item}
use Rattle.spl_numerators.proofs.Triples.{associates_iff, has_polynomials, nonzero_denominator}
use Rattle.spl_numerators.proofs.triple.associates_by_numerators.Goals as goal

pub associates-requires-clause-fits : goal.associates-requires-clause-fits
associates-requires-clause-fits c =
    subst (λ m. m * m * m < 2 ^ 64) (sym c.dim.ensures.dim) c.constants-count.ensures.fits

pub associates-requires-clause-count : goal.associates-requires-clause-count
associates-requires-clause-count c =
    let n = c.requires.numerators.multiples in
    ap length c.as_slice.ensures ∙ n.count ∙ ap (λ m. m * m * m) (sym c.dim.ensures.dim)

pub associates-requires-clause-polynomials : goal.associates-requires-clause-polynomials
associates-requires-clause-polynomials c =
    has_polynomials (small_ops c.args.f.now) (small_laws c.args.f.now) c.args.n.now.denominator
    c.args.a.now.constants (c.args.a.now.dim * c.args.a.now.dim * c.args.a.now.dim) c.args.n.now.entries
    c.requires.numerators.multiples c.as_slice.result.now c.as_slice.ensures

pub returns : goal.returns
returns c =
    let o = small_ops c.args.f.now in
    let L = small_laws c.args.f.now in
    let n = c.requires.numerators in
    let i = c.args.i in
    let j = c.args.j in
    let k = c.args.k in
    let iff = associates_iff o L c.args.a.now c.requires.over c.args.n.now.denominator n.over
    (nonzero_denominator o L c.args.a.now c.args.n.now.denominator c.args.n.now.entries n)
    c.args.n.now.entries n.multiples i j k c.requires.first c.requires.second c.requires.third in
    let by_items : IsTrue c.in_ok-associates.field-0 ↔ ((t : ℕ) → t < c.args.a.now.dim
    → left_item o L c.args.n.now.entries c.args.a.now.dim i j k t
    ≡ right_item o L c.args.n.now.entries c.args.a.now.dim i j k t) =
    subst (λ (xs : List (List ℕ)). IsTrue c.in_ok-associates.field-0 ↔ ((t : ℕ) → t < c.args.a.now.dim
    → left_item o L xs c.args.a.now.dim i j k t ≡ right_item o L xs c.args.a.now.dim i j k t)) c.as_slice.ensures
    (subst (λ (m : ℕ). IsTrue c.in_ok-associates.field-0 ↔ ((t : ℕ) → t < m
    → left_item o L c.as_slice.result.now m i j k t ≡ right_item o L c.as_slice.result.now m i j k t))
    c.dim.ensures.dim c.in_ok-associates.ensures) in
    (λ t. iff.0 (by_items.0 t), λ e. by_items.1 (iff.1 e))
