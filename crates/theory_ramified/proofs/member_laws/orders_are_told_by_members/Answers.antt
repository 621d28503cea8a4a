use Rattle.theory_ramified.proofs.MemberConditions.{orders_by_members}
use Rattle.theory_ramified.proofs.member_laws.orders_are_told_by_members.Goals as goal

pub returns : goal.returns
returns g c = let f = g.F.ProgramField in orders_by_members f.ops f.laws
