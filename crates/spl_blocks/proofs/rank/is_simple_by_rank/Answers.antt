use Rattle.std.proofs.Common.{◌*◌, ◌≤◌, false, refl, sym, ◌∙◌, ap, arith}
use Rattle.std.proofs.lemmas.Bool.{both_ways}
use Rattle.spl_blocks.proofs.RankResidue.{simple_residue_by_rank, simple_residue_field}
use Rattle.spl_blocks.proofs.rank.is_simple_by_rank.Goals as goal

pub returns-then-not-branch : goal.returns-then-not-branch
returns-then-not-branch c = (
  λ t. absurd (both_ways false refl t),
  λ s. absurd (both_ways c.in_ok-has_field_centre.field-0 c.if-not-branch.true
      (c.in_ok-has_field_centre.ensures.1 (simple_residue_field c.args.k.now c.args.b.now c.requires.unital s))),
)

pub returns : goal.returns
returns c =
    let T = c.args.b.now in
    let centre = c.in_ok-centre in
    let r = c.in_ok-r in
    let some : 1 ≤ T.dim = omega (arith, c.dim-m.ensures.dim, c.dim-m.ensures.positive) in
    let field = c.in_ok-has_field_centre.ensures.0 c.if-not-branch.false in
    let s = simple_residue_by_rank c.args.k.now T c.requires.unital centre.centre.rows centre.centre.width
    centre.ensures.width centre.ensures.basis centre.ensures.members some field r.r r.ensures in
    let t = c.is_square.ensures in
    let z = c.dim.ensures in
    let m = c.dim-m.ensures.dim in (
      λ h. s.0 (ap (λ n. r.r * n) (sym z) ∙ t.0 h ∙ ap (λ n. n * n) m),
      λ i. t.1 (ap (λ n. r.r * n) z ∙ s.1 i ∙ ap (λ n. n * n) (sym m)),
    )
