use Rattle.theory_spaces.proofs.Forms.Forms as forms
use Rattle.theory_spaces.proofs.form_laws.dual_basis.Goals as goal

pub returns-clause-exists : goal.returns-clause-exists
returns-clause-exists g c = let b = g.B.FormOn in forms.dual_basis b.field b.space b.form b.bilinear b.dimension b.basis

pub returns-clause-unique : goal.returns-clause-unique
returns-clause-unique g c = λ D E.
    let b = g.B.FormOn in
    forms.dual_unique b.field b.space b.form b.bilinear b.dimension b.basis E D.basis.vec D.pairing

pub returns-clause-coordinates : goal.returns-clause-coordinates
returns-clause-coordinates g c = let b = g.B.FormOn in
    forms.expand-dual b.field b.space b.form b.bilinear b.dimension b.basis

pub returns-clause-dual_coordinates : goal.returns-clause-dual_coordinates
returns-clause-dual_coordinates g c = let b = g.B.FormOn in
    forms.dual-expand b.field b.space b.form b.bilinear b.dimension b.basis

pub returns-clause-gram : goal.returns-clause-gram
returns-clause-gram g c = let b = g.B.FormOn in
    forms.gram_mul-gram_dual b.field b.space b.form b.bilinear b.dimension b.basis

pub returns-clause-only_nondegenerate : goal.returns-clause-only_nondegenerate
returns-clause-only_nondegenerate g c = let b = g.B.FormOn in
    forms.nondegenerate_of_dual b.field b.space b.form b.bilinear b.dimension b.basis
