use Rattle.std.proofs.Common.{refl, length, ◌*◌, ◌+◌}
use Rattle.spl_algebra.proofs.BasisRows.{row-product, row_within, IsTuple-row}
use Rattle.spl_algebra.proofs.basis.row_of.Goals as goal

pub returns-clause-elem : goal.returns-clause-elem
returns-clause-elem g c =
    let m = c.args.m in
    let cs = c.args.constants.now in
    let over = c.requires.over in
    let start = (c.args.i * m + c.args.j) * m in
    IsTuple-row (g.F.Field.ops c.args.f.now) (g.met.F.Field.laws c.args.f.now) m cs over.of_elements start
    (row_within c.args.i c.args.j start m (length cs) refl c.requires.left c.requires.right over.right_length)

pub returns-clause-value : goal.returns-clause-value
returns-clause-value g c =
    let m = c.args.m in
    let over = c.requires.over in
    row-product (g.F.Field.ops c.args.f.now) (g.met.F.Field.laws c.args.f.now) m c.args.constants.now over.of_elements
    c.args.i c.args.j ((c.args.i * m + c.args.j) * m) refl c.requires.left c.requires.right over.right_length
