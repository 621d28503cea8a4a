use Rattle.std.proofs.Common.{◌≡◌, ◌++◌, ℕ, List, All, subst, sym, ap, ◌∙◌}
use Rattle.spl_field.specs.SmallField.{small_ops, small_laws}
use Rattle.theory_fractions.specs.PolynomialLists.{IsOver}
use Rattle.theory_fractions.specs.Fraction.{Pair}
use Rattle.theory_fractions.specs.FractionOps.{fraction_ops}
use Rattle.theory_fractions.specs.CommonDenominator.{as_fraction}
use Rattle.theory_spaces.specs.Tuples.{IsTuple}
use Rattle.theory_tables.specs.Matrix.{width_of}
use Rattle.theory_tables.specs.Subspace.{InSpan}
use Rattle.theory_rows.specs.Rows.{IsPolynomialMatrix}
use Rattle.theory_bases.specs.TupleLattices.{SameTupleLattice}
use Rattle.theory_bases.specs.Bases.{IsBasis, IsPolynomialFraction, tuples_of}
use Rattle.spl_order.specs.Values.{fraction_entry}
use Rattle.spl_order.proofs.Values.{matrix_is}
use Rattle.spl_order.proofs.LiftedLattices.{weighted-matrix, multiplied-matrix, all-matrix, all-width, all-tuples, all_span}
use Rattle.spl_order.proofs.lifts.basis_of_lifts.Goals as goal

pub with_rows-requires : goal.with_rows-requires
with_rows-requires c =
    let o = small_ops c.args.f.now in
    let L = small_laws c.args.f.now in
    let K = fraction_ops o L in
    let n = c.args.n in
    let b = c.args.order.now in
    let m = c.args.m.now in
    let Q = c.in_ok-multiples.multiples in
    let HQ = multiplied-matrix o L n b c.requires.order c.as_slice-3.result.now
    (c.as_slice-3.ensures ∙ c.numerators-2.ensures) m Q c.in_ok-multiples.ensures in
    let h = matrix_is o (λ i j. K.mul (as_fraction o m) (fraction_entry o b.numerators i j)) n n Q HQ in
    subst (All (All (IsOver o))) (sym c.as_slice-4.ensures) (λ k d l. let r = h k d l in r.over)

pub basis_of_lattice-requires-clause-rows : goal.basis_of_lattice-requires-clause-rows
basis_of_lattice-requires-clause-rows c =
    let o = small_ops c.args.f.now in
    let L = small_laws c.args.f.now in
    let n = c.args.n in
    let W = c.args.weights.now in
    let b = c.args.order.now in
    let P = c.in_ok-products.products in
    let Q = c.in_ok-multiples.multiples in
    let HP = weighted-matrix o L n b c.requires.order c.as_slice-2.result.now
    (c.as_slice-2.ensures ∙ c.numerators.ensures) c.as_slice.result.now W P c.as_slice.ensures c.in_ok-products.ensures in
    let HQ = multiplied-matrix o L n b c.requires.order c.as_slice-3.result.now
    (c.as_slice-3.ensures ∙ c.numerators-2.ensures) c.args.m.now Q c.in_ok-multiples.ensures in
    subst (λ rs. IsPolynomialMatrix o (width_of rs) rs)
    (sym (c.in_ok-rows.ensures ∙ ap (λ q. P ++ q) c.as_slice-4.ensures))
    (subst (λ w. IsPolynomialMatrix o w (P ++ Q))
    (sym (all-width o L n c.args.c.now c.requires.c c.requires.c_nonzero c.args.m.now c.requires.m c.requires.m_nonzero b
    c.requires.order W P Q HP HQ))
    (all-matrix o L n c.args.c.now c.requires.c c.requires.c_nonzero c.args.m.now c.requires.m c.requires.m_nonzero b
    c.requires.order W P Q HP HQ))

pub basis_of_lattice-requires-clause-spans : goal.basis_of_lattice-requires-clause-spans
basis_of_lattice-requires-clause-spans c =
    let o = small_ops c.args.f.now in
    let L = small_laws c.args.f.now in
    let K = fraction_ops o L in
    let n = c.args.n in
    let W = c.args.weights.now in
    let b = c.args.order.now in
    let P = c.in_ok-products.products in
    let Q = c.in_ok-multiples.multiples in
    let HP = weighted-matrix o L n b c.requires.order c.as_slice-2.result.now
    (c.as_slice-2.ensures ∙ c.numerators.ensures) c.as_slice.result.now W P c.as_slice.ensures c.in_ok-products.ensures in
    let HQ = multiplied-matrix o L n b c.requires.order c.as_slice-3.result.now
    (c.as_slice-3.ensures ∙ c.numerators-2.ensures) c.args.m.now Q c.in_ok-multiples.ensures in
    subst (λ rs. (v : List (Pair ℕ)) → IsTuple K (width_of rs) v
    → InSpan K (width_of rs) (tuples_of o L (record { denominator = c.args.c.now; numerators = rs })) v)
    (sym (c.in_ok-rows.ensures ∙ ap (λ q. P ++ q) c.as_slice-4.ensures))
    (subst (λ w. (v : List (Pair ℕ)) → IsTuple K w v
    → InSpan K w (tuples_of o L (record { denominator = c.args.c.now; numerators = P ++ Q })) v)
    (sym (all-width o L n c.args.c.now c.requires.c c.requires.c_nonzero c.args.m.now c.requires.m c.requires.m_nonzero b
    c.requires.order W P Q HP HQ))
    (all_span o L n c.args.c.now c.requires.c c.requires.c_nonzero c.args.m.now c.requires.m c.requires.m_nonzero b
    c.requires.order W P Q HP HQ))

pub returns : goal.returns
returns c =
    let o = small_ops c.args.f.now in
    let L = small_laws c.args.f.now in
    let K = fraction_ops o L in
    let n = c.args.n in
    let W = c.args.weights.now in
    let b = c.args.order.now in
    let P = c.in_ok-products.products in
    let Q = c.in_ok-multiples.multiples in
    let HP = weighted-matrix o L n b c.requires.order c.as_slice-2.result.now
    (c.as_slice-2.ensures ∙ c.numerators.ensures) c.as_slice.result.now W P c.as_slice.ensures c.in_ok-products.ensures in
    let HQ = multiplied-matrix o L n b c.requires.order c.as_slice-3.result.now
    (c.as_slice-3.ensures ∙ c.numerators-2.ensures) c.args.m.now Q c.in_ok-multiples.ensures in
    let out = c.in_ok-found.found in
    let is : c.in_ok-rows.rows ≡ P ++ Q = c.in_ok-rows.ensures ∙ ap (λ q. P ++ q) c.as_slice-4.ensures in
    let e : width_of c.in_ok-rows.rows ≡ n = ap width_of is
    ∙ all-width o L n c.args.c.now c.requires.c c.requires.c_nonzero c.args.m.now c.requires.m c.requires.m_nonzero b
    c.requires.order W P Q HP HQ in
    record {
      basis = subst (λ w. IsBasis o L w out) e c.in_ok-found.ensures.basis;
      lattice = subst (λ ts. SameTupleLattice K (IsPolynomialFraction o) n ts (tuples_of o L out))
          (all-tuples o L n c.args.c.now c.requires.c c.requires.c_nonzero c.args.m.now c.requires.m c.requires.m_nonzero
          b c.requires.order W P Q HP HQ)
          (subst (λ w. SameTupleLattice K (IsPolynomialFraction o) w
          (tuples_of o L (record { denominator = c.args.c.now; numerators = P ++ Q })) (tuples_of o L out)) e
          (subst (λ rs. SameTupleLattice K (IsPolynomialFraction o) (width_of c.in_ok-rows.rows)
          (tuples_of o L (record { denominator = c.args.c.now; numerators = rs })) (tuples_of o L out)) is
          c.in_ok-found.ensures.lattice));
    }
