use Rattle.spl_field.specs.SmallField.{small_ops, small_laws}
use Rattle.spl_order.specs.Values.{IsScaledInverse}
use Rattle.spl_order.proofs.CoordinateColumns.{coordinate_columns, rows_matrix, rows_free, inverse_is, columns_are}
use Rattle.spl_order.proofs.columns.coordinate_columns.Goals as goal

pub inverse_rows-requires : goal.inverse_rows-requires
inverse_rows-requires c =
    let o = small_ops c.args.f.now in
    let L = small_laws c.args.f.now in
    let b = c.args.basis.now in
    record {
      rows = rows_matrix o L c.args.n b c.requires.basis c.numerators.result.now c.numerators.ensures;
      independent = rows_free o L c.args.n b c.requires.basis c.numerators.result.now c.numerators.ensures;
    }

pub returns : goal.returns
returns c =
    let o = small_ops c.args.f.now in
    let L = small_laws c.args.f.now in
    let v = c.in_ok-inverse.inverse in
    let s = c.in_ok-scale in
    let h = c.requires.denominator in
    let I : IsScaledInverse o L c.args.n c.args.basis.now.numerators v.rows v.scale =
    inverse_is o L c.args.n c.args.basis.now c.requires.basis c.numerators.result.now c.numerators.ensures v.rows
    v.scale c.in_ok-inverse.ensures in
    coordinate_columns o L c.args.n c.args.basis.now c.requires.basis v.rows v.scale I c.in_ok-columns.columns
    (columns_are o L c.args.n c.args.basis.now c.requires.basis v.rows c.as_slice.result.now c.denominator.result.now
    c.in_ok-columns.columns c.as_slice.ensures I.count c.denominator.ensures.value c.in_ok-columns.ensures)
    c.args.denominator.now h c.requires.nonzero s.scale record { over = s.ensures.over; trimmed = s.ensures.trimmed }
    s.ensures.value
