use Rattle.theory_spaces.specs.Linear.{InSpan}
use Rattle.theory_spaces.proofs.Linear.IndependentVectors.{BasisOf-span}
use Rattle.theory_spaces.proofs.Forms.Forms.{orthogonal_dimension, orthogonal_orthogonal}
use Rattle.theory_spaces.proofs.form_laws.dimension_of_orthogonal.Goals as goal

pub returns-clause-dimension : goal.returns-clause-dimension
returns-clause-dimension g c = λ non k u h.
    let b = g.B.FormOn in
    orthogonal_dimension b.field b.space b.form b.bilinear b.dimension b.basis non (InSpan b.space k u) k
    (BasisOf-span b.space k u h)

pub returns-clause-twice : goal.returns-clause-twice
returns-clause-twice g c = λ non k u h.
    let b = g.B.FormOn in
    orthogonal_orthogonal b.field b.space b.form b.bilinear b.dimension b.basis non (InSpan b.space k u) k
    (BasisOf-span b.space k u h)
