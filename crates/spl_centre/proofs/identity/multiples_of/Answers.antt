use Rattle.std.proofs.Common.{◌++◌, ◌∷◌, [], ◌∙◌, ap₂, subst}
use Rattle.theory_tables.specs.Subspace.{SameSpan}
use Rattle.spl_centre.proofs.Multiples.{span_of_one}
use Rattle.spl_centre.proofs.identity.multiples_of.Goals as goal

pub returns-clause-members : goal.returns-clause-members
returns-clause-members g c =
    let o = g.F.Field.ops c.args.f.now in
    let a = c.args.a.now in
    let element = c.args.element.now in
    let rows = c.in_ok-multiples.multiples.rows in
    let of_dim = subst (λ w. SameSpan o w rows c.push.new.self) c.dim.ensures.dim c.in_ok-multiples.ensures.members in
    let same = subst (λ r. SameSpan o a.dim rows r)
    (c.in_ok-push.ensures.ok ∙ ap₂ (λ xs x. xs ++ x ∷ []) c.new-rows.ensures c.in_ok-copy.ensures) of_dim in
    λ v hv.
    let s = same v hv in
    let q = span_of_one o (g.met.F.Field.laws c.args.f.now) a element c.requires v hv in
    (λ h. q.0 (s.0 h), λ h. s.1 (q.1 h))
