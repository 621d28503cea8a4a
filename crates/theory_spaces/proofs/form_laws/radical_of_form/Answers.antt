use Rattle.theory_spaces.proofs.Forms.Forms as forms
use Rattle.theory_spaces.proofs.form_laws.radical_of_form.Goals as goal

pub returns-clause-decided : goal.returns-clause-decided
returns-clause-decided g c = let b = g.B.FormOn in
    forms.nondegenerate_or_not b.field b.space b.form b.bilinear b.dimension b.basis

pub returns-clause-both_sides : goal.returns-clause-both_sides
returns-clause-both_sides g c = let b = g.B.FormOn in
    forms.flip_nondegenerate b.field b.space b.form b.bilinear b.dimension b.basis

pub returns-clause-basis : goal.returns-clause-basis
returns-clause-basis g c = let b = g.B.FormOn in
    forms.radical_basis b.field b.space b.form b.bilinear b.dimension b.basis
