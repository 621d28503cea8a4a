use Rattle.std.proofs.Common.{◌<◌, ◌≤◌, length, arith}
use Rattle.spl_centre.proofs.Multiples.{small_centre}
use Rattle.spl_centre.proofs.identity.fault_of.Goals as goal

pub returns-then-dim-lt2 : goal.returns-then-dim-lt2
returns-then-dim-lt2 g c =
    let a = c.args.a.now in
    let rows = c.in_ok-centre.centre.rows in
    let some : 1 ≤ a.dim = omega (arith, c.dim.ensures.dim, c.dim.ensures.positive) in
    let small : length rows < 2 = omega (arith, c.dim-2.ensures) in
    let basis = rw c.in_ok-centre.ensures.width at c.in_ok-centre.ensures.basis in
    small_centre (g.F.Field.ops c.args.f.now)
    (g.met.F.Field.laws c.args.f.now) a c.requires.over.of_elements c.requires.associative
    c.args.one.now c.requires.one rows some basis c.in_ok-centre.ensures.members small
