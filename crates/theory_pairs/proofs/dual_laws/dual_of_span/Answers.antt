use Rattle.theory_pairs.proofs.DualSpans.{dual_span}
use Rattle.theory_pairs.proofs.dual_laws.dual_of_span.Goals as goal

pub returns : goal.returns
returns g c = λ D. let b = g.B.FormOverRing in
    dual_span b.field b.space b.form b.bilinear b.dimension b.basis b.Weight b.subring D
