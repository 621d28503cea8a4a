use Rattle.spl_field.specs.SmallField.{small_ops, small_laws}
use Rattle.theory_places.specs.Places.{Finite}
use Rattle.theory_places.specs.FractionPlaces.{IsIntegralAt}
use Rattle.theory_bases.specs.Bases.{tuples_of}
use Rattle.spl_order.proofs.MemberTests.{divided_tells}
use Rattle.spl_order.proofs.members_at.member_test.Goals as goal

pub returns-clause-tells : goal.returns-clause-tells
returns-clause-tells c row h =
    let o = small_ops c.args.f.now in
    let L = small_laws c.args.f.now in
    let B = c.requires.basis in
    divided_tells o L c.args.n (tuples_of o L c.args.basis.now) B.independent c.args.denominator.now
    c.requires.denominator c.requires.nonzero c.in_ok-found.found.scale c.in_ok-found.found.columns
    c.in_ok-found.ensures row h c.in_ok-part.part (IsIntegralAt o (Finite c.args.place.now)) c.in_ok-part.ensures.tells
