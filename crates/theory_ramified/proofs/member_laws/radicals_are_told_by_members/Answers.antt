use Rattle.theory_ramified.proofs.MemberConditions.{radicals_by_members}
use Rattle.theory_ramified.proofs.member_laws.radicals_are_told_by_members.Goals as goal

pub returns : goal.returns
returns g c = let f = g.F.ProgramField in radicals_by_members f.ops f.laws
