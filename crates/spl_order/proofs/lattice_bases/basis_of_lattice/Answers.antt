use Rattle.std.proofs.Common.{◌≡◌, length, subst, sym}
use Rattle.spl_field.specs.SmallField.{small_ops, small_laws}
use Rattle.theory_fractions.specs.FractionOps.{fraction_ops}
use Rattle.theory_tables.specs.Matrix.{width_of}
use Rattle.theory_tables.specs.Subspace.{AreIndependent}
use Rattle.theory_rows.specs.Rows.{IsPolynomialMatrix}
use Rattle.theory_bases.specs.Bases.{IsBasis, tuples_of}
use Rattle.spl_order.proofs.LatticeBases.{basis_square, basis_independent, basis_is, basis_lattice}
use Rattle.spl_order.proofs.lattice_bases.basis_of_lattice.Goals as goal

pub basis_from_rows-requires-clause-rows : goal.basis_from_rows-requires-clause-rows
basis_from_rows-requires-clause-rows c =
    let o = small_ops c.args.f.now in
    let L = small_laws c.args.f.now in
    let p = c.in_ok-reduced.ensures in
    subst (λ b. IsPolynomialMatrix o (length b) b) (sym c.basis.ensures.value)
    (basis_square o L (width_of c.args.rows.now) c.args.c.now c.args.rows.now c.requires.c c.requires.nonzero
    c.requires.rows c.in_ok-reduced.reduced.basis p.matrix p.lattice p.reduced.places p.reduced.positions
    c.requires.spans)

pub basis_from_rows-requires-clause-independent : goal.basis_from_rows-requires-clause-independent
basis_from_rows-requires-clause-independent c =
    let o = small_ops c.args.f.now in
    let L = small_laws c.args.f.now in
    let K = fraction_ops o L in
    let p = c.in_ok-reduced.ensures in
    subst (λ b. AreIndependent K (length b)
    (tuples_of o L (record { denominator = c.args.c.now; numerators = b }))) (sym c.basis.ensures.value)
    (basis_independent o L (width_of c.args.rows.now) c.args.c.now c.args.rows.now c.requires.c c.requires.nonzero
    c.requires.rows c.in_ok-reduced.reduced.basis p.matrix p.lattice p.reduced.places p.reduced.positions
    c.requires.spans)

pub returns : goal.returns
returns c =
    let o = small_ops c.args.f.now in
    let L = small_laws c.args.f.now in
    let p = c.in_ok-reduced.ensures in
    let b = c.in_ok-found.found in
    let B = subst (λ xs. IsBasis o L (length xs) b) c.basis.ensures.value c.in_ok-found.ensures.basis in
    let T = subst (λ xs. tuples_of o L b ≡ tuples_of o L (record { denominator = c.args.c.now; numerators = xs }))
    c.basis.ensures.value c.in_ok-found.ensures.tuples in
    record {
      basis = basis_is o L (width_of c.args.rows.now) c.args.c.now c.args.rows.now c.requires.c c.requires.nonzero
          c.requires.rows c.in_ok-reduced.reduced.basis p.matrix p.lattice p.reduced.places p.reduced.positions
          c.requires.spans b B T;
      lattice = basis_lattice o L (width_of c.args.rows.now) c.args.c.now c.args.rows.now c.requires.c
          c.requires.nonzero c.requires.rows c.in_ok-reduced.reduced.basis p.matrix p.lattice p.reduced.places
          p.reduced.positions c.requires.spans b B T;
    }
