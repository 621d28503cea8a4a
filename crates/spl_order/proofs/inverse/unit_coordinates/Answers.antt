use Rattle.std.proofs.Common.{length, subst, sym, IfSome}
use Rattle.spl_field.specs.SmallField.{small_ops, small_laws}
use Rattle.theory_rows.specs.Rows.{IsPolynomialRow, IsPolynomialMatrix, InRowLattice, IsRowCombination}
use Rattle.spl_order.specs.Values.{scaled_unit}
use Rattle.spl_order.proofs.MappedRows.{some_of_no_none}
use Rattle.spl_order.proofs.StartRows.{unit-row}
use Rattle.spl_order.proofs.inverse.unit_coordinates.Goals as goal

pub member-requires-clause-basis : goal.member-requires-clause-basis
member-requires-clause-basis c =
    let o = small_ops c.args.f.now in
    let basis = c.args.reduced.now.basis in
    let u = unit-row o (small_laws c.args.f.now) c.args.n c.args.d.now c.args.i c.requires.d in
    subst (λ x. IsPolynomialMatrix o (length x) basis) (sym c.in_ok-unit.ensures)
    (subst (λ m. IsPolynomialMatrix o m basis) (sym u.width) c.requires.basis)

pub member-requires-clause-row : goal.member-requires-clause-row
member-requires-clause-row c =
    let o = small_ops c.args.f.now in
    let u = unit-row o (small_laws c.args.f.now) c.args.n c.args.d.now c.args.i c.requires.d in
    subst (λ x. IsPolynomialRow o (length x) x) (sym c.in_ok-unit.ensures)
    (subst (λ m. IsPolynomialRow o m (scaled_unit c.args.d.now c.args.n c.args.i)) (sym u.width) u)

pub unwrap-requires : goal.unwrap-requires
unwrap-requires c =
    some_of_no_none c.in_ok-found.found (λ e. c.in_ok-found.ensures.none e
    (subst (InRowLattice (small_ops c.args.f.now) c.args.reduced.now.basis) (sym c.in_ok-unit.ensures) c.requires.member))

pub returns : goal.returns
returns c =
    let o = small_ops c.args.f.now in
    let basis = c.args.reduced.now.basis in
    record {
      row = subst (λ r. IfSome r (IsPolynomialRow o (length basis))) c.unwrap.ensures
          c.in_ok-found.ensures.coordinates;
      value = subst (IsRowCombination o c.unwrap.result basis) c.in_ok-unit.ensures
          (subst (λ r. IfSome r (λ w. IsRowCombination o w basis c.in_ok-unit.unit)) c.unwrap.ensures
          c.in_ok-found.ensures.combination);
    }
