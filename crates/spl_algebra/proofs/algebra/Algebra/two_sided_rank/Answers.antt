use Rattle.spl_algebra.proofs.TwoSided.{rank_is}
use Rattle.spl_algebra.proofs.algebra.Algebra.two_sided_rank.Goals as goal

pub returns : goal.returns
returns g c =
    let maps = c.in_ok-maps in
    let span = c.in_ok-span in
    rank_is (g.F.Field.ops c.args.f.now) (g.met.F.Field.laws c.args.f.now) c.args.self.now c.dim-m.result
    c.constants.result.now span.span maps.maps c.dim.result c.dim-m.ensures.dim c.constants.ensures.value
    maps.ensures.value span.ensures.basis span.ensures.width span.ensures.members c.dim.ensures
