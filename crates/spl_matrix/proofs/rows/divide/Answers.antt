use Rattle.std.proofs.Common.{◌≡◌, refl, ap, ◌∙◌}
use Rattle.theory_rings.specs.Sum.{at}
use Rattle.spl_matrix.proofs.Changes.{read_slice}
use Rattle.spl_matrix.proofs.Pivots.{divided_by}
use Rattle.spl_matrix.proofs.rows.divide.Goals as goal

pub returns : goal.returns
returns g c =
    let o = g.F.Field.ops c.args.f.now in
    let row = c.args.row.now in
    let col = c.args.col in
    let x = c.index-as_slice-col.result in
    let read : x ≡ at o row col =
    read_slice o row c.as_slice.result.now col x c.as_slice.ensures c.requires.column c.index-as_slice-col.is in
    let found = rw c.in-Some.is at c.in_ok-factor.ensures.value in
    divided_by o row row c.scale.new.row col c.in-Some.factor refl (found.1 ∙ ap o.inv read) c.in_ok-scale.ensures
