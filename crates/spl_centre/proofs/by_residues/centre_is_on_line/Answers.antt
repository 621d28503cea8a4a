use Rattle.std.proofs.Common.{◌<◌, length, arith}
use Rattle.std.proofs.lemmas.Bool.{ltb-true}
use Rattle.spl_centre.proofs.Lines.{centre_on_line}
use Rattle.spl_centre.proofs.by_residues.centre_is_on_line.Goals as goal

pub returns : goal.returns
returns g c = λ t.
    let rows = c.in_ok-centre.centre.rows in
    let few = ltb-true c.dim.result 2 t in
    let small : length rows < 2 = omega (arith, few, c.dim.ensures) in
    let basis = rw c.in_ok-centre.ensures.width at c.in_ok-centre.ensures.basis in
    centre_on_line (g.F.Field.ops c.args.f.now) (g.met.F.Field.laws c.args.f.now) c.args.a.now rows basis
    c.in_ok-centre.ensures.members small
