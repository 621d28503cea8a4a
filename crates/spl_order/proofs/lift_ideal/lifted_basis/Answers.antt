use Rattle.std.proofs.Common.{◌++◌, subst, sym, ◌∙◌, All}
use Rattle.theory_rings.specs.Ops.{IsElem}
use Rattle.spl_field.specs.SmallField.{small_ops, small_laws}
use Rattle.spl_residue.specs.Residue.{polynomial_of, residue_ops}
use Rattle.theory_fractions.specs.PolynomialLists.{IsPolynomialList}
use Rattle.theory_fractions.specs.FractionOps.{fraction_ops}
use Rattle.theory_fractions.proofs.CommonDenominators.{nonzero_of_monic}
use Rattle.theory_rows.specs.Rows.{IsPolynomialMatrix}
use Rattle.theory_bases.specs.TupleLattices.{SameTupleLattice}
use Rattle.theory_bases.specs.Bases.{IsBasis, IsPolynomialFraction, tuples_of}
use Rattle.spl_order.specs.Lifts.{combined_tuples, multiple_tuples}
use Rattle.spl_order.proofs.LiftedIdeals.{residue_rows_matrix, lifts_ideal}
use Rattle.spl_order.proofs.lift_ideal.lifted_basis.Goals as goal

pub lifted_rows-requires : goal.lifted_rows-requires
lifted_rows-requires c =
    subst (All (All (IsElem (residue_ops c.args.residue.now.field)))) (sym (c.as_slice.ensures ∙ c.rows.ensures))
    (λ i d l. let J = c.requires.ideal in let t = J.shape i d l in t.of_elements)

pub basis_of_lifts-requires-clause-c : goal.basis_of_lifts-requires-clause-c
basis_of_lifts-requires-clause-c c =
    subst (IsPolynomialList (small_ops c.args.f.now)) (sym c.denominator.ensures.value)
    (let B = c.requires.basis in B.polynomial)

pub basis_of_lifts-requires-clause-c_nonzero : goal.basis_of_lifts-requires-clause-c_nonzero
basis_of_lifts-requires-clause-c_nonzero c = λ z.
    nonzero_of_monic (small_ops c.args.f.now) (small_laws c.args.f.now) c.args.order.now.denominator
    (let B = c.requires.basis in let l = B.least in l.monic) (sym c.denominator.ensures.value ∙ z)

pub basis_of_lifts-requires-clause-m : goal.basis_of_lifts-requires-clause-m
basis_of_lifts-requires-clause-m c =
    subst (IsPolynomialList (small_ops c.args.f.now)) (sym c.modulus.ensures.value)
    (let s = c.requires.place in s.polynomial)

pub basis_of_lifts-requires-clause-m_nonzero : goal.basis_of_lifts-requires-clause-m_nonzero
basis_of_lifts-requires-clause-m_nonzero c = λ z.
    nonzero_of_monic (small_ops c.args.f.now) (small_laws c.args.f.now) (polynomial_of c.args.residue.now.field)
    (let s = c.requires.place in s.monic) (sym c.modulus.ensures.value ∙ z)

pub basis_of_lifts-requires-clause-weights : goal.basis_of_lifts-requires-clause-weights
basis_of_lifts-requires-clause-weights c =
    let o = small_ops c.args.f.now in
    let k = c.args.residue.now.field in
    let rows = c.args.ideal.now.rows in
    let n = c.args.residue.now.algebra.dim in
    subst (λ w. IsPolynomialMatrix o w c.in_ok-lifts.lifts) (sym c.dim-n.ensures.dim)
    (subst (IsPolynomialMatrix o n) (sym (c.in_ok-lifts.ensures ∙ c.as_slice.ensures ∙ c.rows.ensures))
    (residue_rows_matrix c.args.f.now c.args.order.now k rows c.requires.field c.requires.place n c.requires.basis
    (let J = c.requires.ideal in J.shape)))

pub basis_of_lifts-requires-clause-order : goal.basis_of_lifts-requires-clause-order
basis_of_lifts-requires-clause-order c =
    subst (λ n. IsBasis (small_ops c.args.f.now) (small_laws c.args.f.now) n c.args.order.now)
    (sym c.dim-n.ensures.dim) c.requires.basis

pub returns : goal.returns
returns c =
    let f = c.args.f.now in
    let o = small_ops f in
    let L = small_laws f in
    let K = fraction_ops o L in
    let k = c.args.residue.now.field in
    let B = c.args.residue.now.algebra in
    let b = c.args.order.now in
    let N = b.numerators in
    let rows = c.args.ideal.now.rows in
    let found = c.in_ok-found.found in
    let basis = subst (λ n. IsBasis o L n found) c.dim-n.ensures.dim c.in_ok-found.ensures.basis in
    let lattice =
    subst (λ n. SameTupleLattice K (IsPolynomialFraction o) n (combined_tuples o L n b.denominator rows N
    ++ multiple_tuples o L n b.denominator (polynomial_of k) N) (tuples_of o L found)) c.dim-n.ensures.dim
    (subst (λ x. SameTupleLattice K (IsPolynomialFraction o) c.dim-n.result (combined_tuples o L c.dim-n.result
    b.denominator x N ++ multiple_tuples o L c.dim-n.result b.denominator (polynomial_of k) N) (tuples_of o L found))
    (c.in_ok-lifts.ensures ∙ c.as_slice.ensures ∙ c.rows.ensures)
    (subst (λ m. SameTupleLattice K (IsPolynomialFraction o) c.dim-n.result (combined_tuples o L c.dim-n.result
    b.denominator c.in_ok-lifts.lifts N ++ multiple_tuples o L c.dim-n.result b.denominator m N) (tuples_of o L found))
    c.modulus.ensures.value
    (subst (λ d. SameTupleLattice K (IsPolynomialFraction o) c.dim-n.result (combined_tuples o L c.dim-n.result
    d c.in_ok-lifts.lifts N ++ multiple_tuples o L c.dim-n.result d c.modulus.result.now N) (tuples_of o L found))
    c.denominator.ensures.value c.in_ok-found.ensures.lattice))) in
    record {
      basis = basis;
      preimage = lifts_ideal f b k rows c.requires.field c.requires.place B c.requires.basis c.requires.ideal found
          basis lattice;
    }
