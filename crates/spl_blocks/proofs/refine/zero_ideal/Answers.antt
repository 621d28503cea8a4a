use Rattle.std.proofs.Common.{◌≤◌, ◌++◌, ◌∷◌, [], ℕ, List, ◌∙◌, ap, subst, arith}
use Rattle.theory_tables.specs.Subspace.{SameSpan}
use Rattle.spl_blocks.proofs.ListSteps.{zero_split}
use Rattle.spl_blocks.proofs.refine.zero_ideal.Goals as goal

pub returns : goal.returns
returns g c =
    let o = g.F.Field.ops c.args.f.now in
    let L = g.met.F.Field.laws c.args.f.now in
    let A = c.args.a.now in
    let s = c.in_ok-zero in
    let some : 1 ≤ A.dim = omega (arith, c.dim.ensures.dim, c.dim.ensures.positive) in
    let P : ℕ → Type 0 = λ w. SameSpan o w s.zero.rows c.new.result in
    let Q : List (List g.row.F-Elem.Denot) → Type 0 = λ r. SameSpan o A.dim s.zero.rows r in
    zero_split o L A c.requires.unital some s.zero s.ensures.basis (s.ensures.width ∙ c.dim.ensures.dim)
    (subst Q c.new.ensures (subst P c.dim.ensures.dim s.ensures.members)) c.push.new.self
    (c.in_ok-push.ensures.ok ∙ ap (λ xs. xs ++ s.zero ∷ []) c.new-items.ensures)
