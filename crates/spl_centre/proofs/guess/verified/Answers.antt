use Rattle.std.proofs.Common.{◌≡◌, ◌≢◌, ◌<◌, ℕ, List, [], length, get_or, sym, ◌∙◌, ap, subst, arith}
use Rattle.std.proofs.lemmas.List.{get_or_default}
use Rattle.std.proofs.Math.Bool.{true≢false}
use Rattle.theory_fractions.specs.PolynomialLists.{IsOver, IsProduct}
use Rattle.spl_field.specs.SmallField.{small_ops, small_laws}
use Rattle.spl_fraction.specs.Fractions.{field_of}
use Rattle.spl_numerators.proofs.Triples.{nonzero_denominator}
use Rattle.spl_centre.specs.Guess.{SolvesAt, AreQuotients}
use Rattle.spl_centre.proofs.Guesses.{verified_identity}
use Rattle.spl_centre.proofs.guess.verified.Goals as goal

pub returns : goal.returns
returns c =
    let f = field_of c.args.f.now in
    let o = small_ops f in
    let L = small_laws f in
    let a = c.args.a.now in
    let n = c.requires.numerators in
    let weights = c.args.weights.now in
    let m = c.dim-m.result in
    let dim : m ≡ a.dim = c.dim-m.ensures.dim in
    let wide = c.requires.weights.width in
    let m_in : m < length weights = omega (arith, wide, dim) in
    let y : c.index-weights-m.result ≡ get_or weights a.dim [] =
    c.index-weights-m.is ∙ get_or_default weights m c.index-weights-m.result [] m_in
    ∙ ap (λ (k : ℕ). get_or weights k []) dim in
    let y_ne : get_or weights a.dim [] ≢ [] =
    λ e. true≢false (sym (c.is_zero.ensures.1 (y ∙ e)) ∙ c.if-is_zero.false) in
    let scale = c.in_ok-scale.scale in
    let d = c.args.n.now.denominator in
    let entries = c.args.n.now.entries in
    let over = subst (λ k. IsOver (small_ops k) scale) c.field.ensures c.in_ok-scale.ensures.over in
    let product : IsProduct o (get_or weights a.dim []) d scale =
    subst (λ (x : List ℕ). IsProduct o x d scale) y
    (subst (λ k. IsProduct (small_ops k) c.index-weights-m.result d scale) c.field.ensures
    c.in_ok-scale.ensures.value) in
    let found = c.in_ok-solves.ensures c.if-not-branch.false in
    let here = subst
    (λ k. (i j : ℕ) → i < m → j < m
    → SolvesAt (small_ops k) (small_laws k) weights c.as_slice.result.now m scale i j) c.field-2.ensures found in
    let of_entries = subst (λ (xs : List (List ℕ)). (i j : ℕ) → i < m → j < m → SolvesAt o L weights xs m scale i j)
    c.as_slice.ensures here in
    let solves = subst (λ (k : ℕ). (i j : ℕ) → i < k → j < k → SolvesAt o L weights entries k scale i j) dim
    of_entries in
    let items = c.in_ok-quotients.field-0 in
    verified_identity o L a c.requires.over d n.over (nonzero_denominator o L a d entries n) entries n.multiples weights
    c.requires.weights items
    (subst (λ (k : ℕ). AreQuotients o L weights k items) dim c.in_ok-quotients.ensures) y_ne scale
    (record { over = over; trimmed = c.in_ok-scale.ensures.trimmed }) product solves
