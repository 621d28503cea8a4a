use Rattle.std.proofs.Common.{◌≡◌, ℕ, List, subst, sym, ap, ◌∙◌}
use Rattle.spl_field.specs.SmallField.{small_ops, small_laws}
use Rattle.theory_fractions.specs.Fraction.{Pair}
use Rattle.theory_fractions.specs.FractionOps.{fraction_ops}
use Rattle.theory_fractions.proofs.PolynomialFractions.{as_fraction-mul}
use Rattle.theory_tables.specs.Matrix.{width_of}
use Rattle.theory_tables.specs.Subspace.{InSpan}
use Rattle.theory_spaces.specs.Tuples.{IsTuple}
use Rattle.theory_rows.specs.Rows.{IsPolynomialMatrix}
use Rattle.theory_bases.specs.TupleLattices.{SameTupleLattice}
use Rattle.theory_bases.specs.Bases.{IsBasis, IsPolynomialFraction, tuples_of}
use Rattle.spl_order.proofs.StartRows.{rows, rows-matrix, rows-width, rows-tuples, rows_span}
use Rattle.theory_fractions.specs.PolynomialLists.{IsPolynomialList}
use Rattle.spl_order.proofs.start.start_basis.Goals as goal

pub basis_of_lattice-requires-clause-rows : goal.basis_of_lattice-requires-clause-rows
basis_of_lattice-requires-clause-rows c =
    let o = small_ops c.args.f.now in
    let L = small_laws c.args.f.now in
    let K = fraction_ops o L in
    let n = c.args.n in
    let s = c.in_ok-scale.scale in
    let hs : IsPolynomialList o s = record { over = c.in_ok-scale.ensures.over; trimmed = c.in_ok-scale.ensures.trimmed } in
    let is = as_fraction-mul o L c.args.c.now c.args.d.now s c.requires.c c.requires.d hs c.in_ok-scale.ensures.value in
    subst (λ rs. IsPolynomialMatrix o (width_of rs) rs) (sym c.in_ok-rows.ensures)
    (subst (λ w. IsPolynomialMatrix o w (rows o L n c.args.c.now c.args.d.now s c.requires.c c.requires.c_nonzero
    c.requires.d c.requires.d_nonzero hs is c.args.one.now c.requires.one c.in_ok-line.line c.in_ok-line.ensures))
    (sym (rows-width o L n c.args.c.now c.args.d.now s c.requires.c c.requires.c_nonzero c.requires.d
    c.requires.d_nonzero hs is c.args.one.now c.requires.one c.in_ok-line.line c.in_ok-line.ensures))
    (rows-matrix o L n c.args.c.now c.args.d.now s c.requires.c c.requires.c_nonzero c.requires.d
    c.requires.d_nonzero hs is c.args.one.now c.requires.one c.in_ok-line.line c.in_ok-line.ensures))

pub basis_of_lattice-requires-clause-spans : goal.basis_of_lattice-requires-clause-spans
basis_of_lattice-requires-clause-spans c =
    let o = small_ops c.args.f.now in
    let L = small_laws c.args.f.now in
    let K = fraction_ops o L in
    let n = c.args.n in
    let s = c.in_ok-scale.scale in
    let hs : IsPolynomialList o s = record { over = c.in_ok-scale.ensures.over; trimmed = c.in_ok-scale.ensures.trimmed } in
    let is = as_fraction-mul o L c.args.c.now c.args.d.now s c.requires.c c.requires.d hs c.in_ok-scale.ensures.value in
    subst (λ rs. (v : List (Pair ℕ)) → IsTuple K (width_of rs) v
    → InSpan K (width_of rs) (tuples_of o L (record { denominator = c.args.d.now; numerators = rs })) v)
    (sym c.in_ok-rows.ensures) (rows_span o L n c.args.c.now c.args.d.now s c.requires.c c.requires.c_nonzero c.requires.d
    c.requires.d_nonzero hs is c.args.one.now c.requires.one c.in_ok-line.line c.in_ok-line.ensures)

pub returns : goal.returns
returns c =
    let o = small_ops c.args.f.now in
    let L = small_laws c.args.f.now in
    let K = fraction_ops o L in
    let n = c.args.n in
    let s = c.in_ok-scale.scale in
    let hs : IsPolynomialList o s = record { over = c.in_ok-scale.ensures.over; trimmed = c.in_ok-scale.ensures.trimmed } in
    let is = as_fraction-mul o L c.args.c.now c.args.d.now s c.requires.c c.requires.d hs c.in_ok-scale.ensures.value in
    let b = c.in_ok-found.found in
    let e : width_of c.in_ok-rows.rows ≡ n = ap width_of c.in_ok-rows.ensures ∙ rows-width o L n c.args.c.now c.args.d.now s c.requires.c c.requires.c_nonzero c.requires.d
    c.requires.d_nonzero hs is c.args.one.now c.requires.one c.in_ok-line.line c.in_ok-line.ensures in
    record {
      basis = subst (λ w. IsBasis o L w b) e c.in_ok-found.ensures.basis;
      lattice = subst (λ ts. SameTupleLattice K (IsPolynomialFraction o) n ts (tuples_of o L b))
          (rows-tuples o L n c.args.c.now c.args.d.now s c.requires.c c.requires.c_nonzero c.requires.d
          c.requires.d_nonzero hs is c.args.one.now c.requires.one c.in_ok-line.line c.in_ok-line.ensures)
          (subst (λ w. SameTupleLattice K (IsPolynomialFraction o) w (tuples_of o L (record {
            denominator = c.args.d.now;
            numerators = rows o L n c.args.c.now c.args.d.now s c.requires.c c.requires.c_nonzero c.requires.d
                c.requires.d_nonzero hs is c.args.one.now c.requires.one c.in_ok-line.line c.in_ok-line.ensures;
          })) (tuples_of o L b)) e
          (subst (λ rs. SameTupleLattice K (IsPolynomialFraction o) (width_of c.in_ok-rows.rows)
          (tuples_of o L (record { denominator = c.args.d.now; numerators = rs })) (tuples_of o L b))
          c.in_ok-rows.ensures c.in_ok-found.ensures.lattice));
    }
