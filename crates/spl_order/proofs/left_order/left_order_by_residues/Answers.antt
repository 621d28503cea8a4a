use Rattle.std.proofs.Common.{subst, sym}
use Rattle.spl_field.specs.SmallField.{small_ops, small_laws}
use Rattle.theory_fractions.specs.PolynomialLists.{IsOver, IsPolynomialList}
use Rattle.theory_fractions.proofs.CommonDenominators.{nonzero_of_monic}
use Rattle.spl_order.proofs.GrownTuples.{c-nonzero}
use Rattle.spl_order.proofs.LeftOrderBases.{lifts-matrix, product-is, gives_left_orders}
use Rattle.spl_order.proofs.left_order.left_order_by_residues.Goals as goal

pub mul-requires-clause-self_over : goal.mul-requires-clause-self_over
mul-requires-clause-self_over c = let i = c.requires.place.irreducible in let p = i.polynomial in p.over

pub mul-requires-clause-b_over : goal.mul-requires-clause-b_over
mul-requires-clause-b_over c =
    let p = c.requires.ideal.polynomial in
    subst (IsOver (small_ops c.args.f.now)) (sym c.denominator.ensures.value) p.over

pub basis_of_lifts-requires-clause-c : goal.basis_of_lifts-requires-clause-c
basis_of_lifts-requires-clause-c c = record { over = c.in_ok-c.ensures.over; trimmed = c.in_ok-c.ensures.trimmed }

pub basis_of_lifts-requires-clause-c_nonzero : goal.basis_of_lifts-requires-clause-c_nonzero
basis_of_lifts-requires-clause-c_nonzero c =
    let f = c.args.f.now in
    let o = small_ops f in
    let L = small_laws f in
    let m = c.args.place.now in
    let s = c.requires.place in
    let b = c.args.ideal.now in
    let q = c.in_ok-c.c in
    let hc : IsPolynomialList o q = record { over = c.in_ok-c.ensures.over; trimmed = c.in_ok-c.ensures.trimmed } in
    c-nonzero o L c.args.n m (let i = s.irreducible in i.polynomial) (nonzero_of_monic o L m s.monic) b c.requires.ideal q
    hc (product-is f m s c.args.k.now c.requires.field b.denominator c.denominator.result.now q c.denominator.ensures.value
    c.requires.ideal.polynomial hc c.in_ok-c.ensures.value)

pub basis_of_lifts-requires-clause-m : goal.basis_of_lifts-requires-clause-m
basis_of_lifts-requires-clause-m c = let i = c.requires.place.irreducible in i.polynomial

pub basis_of_lifts-requires-clause-m_nonzero : goal.basis_of_lifts-requires-clause-m_nonzero
basis_of_lifts-requires-clause-m_nonzero c =
    nonzero_of_monic (small_ops c.args.f.now) (small_laws c.args.f.now) c.args.place.now c.requires.place.monic

pub basis_of_lifts-requires-clause-weights : goal.basis_of_lifts-requires-clause-weights
basis_of_lifts-requires-clause-weights c =
    lifts-matrix c.args.f.now c.args.place.now c.requires.place c.args.k.now c.requires.field c.args.n c.in_ok-lifts.lifts
    c.in_ok-lifts.ensures.matrix

pub returns : goal.returns
returns c =
    let f = c.args.f.now in
    let m = c.args.place.now in
    let s = c.requires.place in
    let k = c.args.k.now in
    let b = c.args.ideal.now in
    let q = c.in_ok-c.c in
    let out = c.in_ok-found.found in
    let hc : IsPolynomialList (small_ops f) q = record {
      over = c.in_ok-c.ensures.over;
      trimmed = c.in_ok-c.ensures.trimmed;
    } in
    record {
      basis = c.in_ok-found.ensures.basis;
      left = gives_left_orders f m s k c.requires.field b c.args.residues.now c.in_ok-lifts.lifts q out c.args.n (record {
        basis = c.requires.ideal;
        shape = c.in_ok-lifts.ensures.matrix;
        spans = c.in_ok-lifts.ensures.kernel;
        polynomial = hc;
        product = product-is f m s k c.requires.field b.denominator c.denominator.result.now q c.denominator.ensures.value
            c.requires.ideal.polynomial hc c.in_ok-c.ensures.value;
        out_basis = c.in_ok-found.ensures.basis;
        same = c.in_ok-found.ensures.lattice;
      });
    }
