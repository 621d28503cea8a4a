use Rattle.std.proofs.Common.{ℕ, List, length, subst, arith}
use Rattle.theory_tables.specs.Matrix.{IsMatrix}
use Rattle.spl_algebra.specs.Multiples.{HoldsMultiples}
use Rattle.spl_algebra.proofs.Multiples.{HoldsMultiples-same}
use Rattle.spl_algebra.proofs.ideal.enlarged.Goals as goal

pub returns-clause-multiples : goal.returns-clause-multiples
returns-clause-multiples g c =
    let o = g.F.Field.ops c.args.f.now in
    let L = g.met.F.Field.laws c.args.f.now in
    let m = c.args.m in
    let cs = c.args.constants.now in
    let rows = c.args.subspace.now.rows in
    let made = c.in_ok-rows in
    let next = c.in_ok-spanned in
    let W : ℕ → Type 0 = λ w. IsMatrix o w next.spanned.rows in
    let P : List (List g.row.F-Elem.Denot) → Type 0 = λ x. HoldsMultiples o m cs (length x) x made.rows in
    HoldsMultiples-same o L m cs c.requires.over.of_elements (length rows) rows made.rows next.spanned.rows
    (omega arith) c.requires.subspace.shape
    (subst W next.ensures.width next.ensures.basis.shape) next.ensures.members (subst P c.rows.ensures made.ensures)
