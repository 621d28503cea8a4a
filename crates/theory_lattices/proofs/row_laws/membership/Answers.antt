use Rattle.theory_lattices.proofs.Rows.RowSpans.{InRows-less_multiple, InRows_of_less_multiple}
use Rattle.theory_lattices.proofs.Rows.Membership.{member_or_not, member_leads}
use Rattle.theory_lattices.proofs.row_laws.membership.Goals as goal

pub returns-clause-decided : goal.returns-clause-decided
returns-clause-decided g c = let e = g.E.EuclideanRing in member_or_not e.degree e.euclidean

pub returns-clause-leads : goal.returns-clause-leads
returns-clause-leads g c = let e = g.E.EuclideanRing in member_leads e.degree e.euclidean

pub returns-clause-less : goal.returns-clause-less
returns-clause-less g c = InRows-less_multiple g.E.EuclideanRing.ring

pub returns-clause-more : goal.returns-clause-more
returns-clause-more g c = InRows_of_less_multiple g.E.EuclideanRing.ring
