use Rattle.theory_pairs.proofs.DualSpans.{gram_inverse, entries_of_own_dual, own_dual_of_entries}
use Rattle.theory_pairs.proofs.dual_laws.own_dual_by_gram.Goals as goal

pub returns-clause-inverse : goal.returns-clause-inverse
returns-clause-inverse g c = let b = g.B.FormOverRing in
    gram_inverse b.field b.space b.form b.bilinear b.dimension b.basis

pub returns-clause-entries : goal.returns-clause-entries
returns-clause-entries g c = λ N i. let b = g.B.FormOverRing in
    entries_of_own_dual b.field b.space b.form b.bilinear b.dimension b.basis b.Weight b.subring N i

pub returns-clause-own_dual : goal.returns-clause-own_dual
returns-clause-own_dual g c = λ N i. let b = g.B.FormOverRing in
    own_dual_of_entries b.field b.space b.form b.bilinear b.dimension b.basis b.Weight b.subring N i
