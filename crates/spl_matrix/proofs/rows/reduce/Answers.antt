use Rattle.std.proofs.Common.{◌≡◌, refl, sym, ap, ◌∙◌}
use Rattle.theory_rings.specs.Sum.{at}
use Rattle.spl_matrix.proofs.Changes.{read_slice}
use Rattle.spl_matrix.proofs.Pivots.{reduced_by-multiple, reduced_by-zero}
use Rattle.spl_matrix.proofs.rows.reduce.Goals as goal

pub returns-then-eq : goal.returns-then-eq
returns-then-eq g c =
    let o = g.F.Field.ops c.args.f.now in
    let L = g.met.F.Field.laws c.args.f.now in
    let row = c.args.row.now in
    let col = c.args.col in
    let x = c.index-as_slice-col.result in
    let read : x ≡ at o row col =
    read_slice o row c.as_slice.result.now col x c.as_slice.ensures c.requires.column c.index-as_slice-col.is in
    reduced_by-zero o L row col c.args.lead.now c.requires.row c.requires.lead.of_elements
    (sym read ∙ c.eq.ensures.0 c.if-eq.true ∙ c.requires.zero)

pub returns : goal.returns
returns g c =
    let o = g.F.Field.ops c.args.f.now in
    let row = c.args.row.now in
    let col = c.args.col in
    let x = c.index-as_slice-col.result in
    let read : x ≡ at o row col =
    read_slice o row c.as_slice.result.now col x c.as_slice.ensures c.requires.column c.index-as_slice-col.is in
    reduced_by-multiple o row row c.add_multiple.new.row col c.args.lead.now c.in_ok-c.c refl
    (c.in_ok-c.ensures.value ∙ ap o.neg read) c.in_ok-add_multiple.ensures
