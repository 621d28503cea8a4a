use Rattle.std.proofs.Common.{◌≤◌, ◌^◌, ℕ, length, ◌∙◌, ap, sym, subst, arith}
use Rattle.theory_tables.specs.Subspace.{IsReducedBasis, SpansKernel}
use Rattle.spl_algebra.proofs.Inclusions.{dimension-le}
use Rattle.spl_algebra.proofs.QuotientRows.{annihilator-some, made_quotient}
use Rattle.spl_algebra.proofs.PowerSpans.{rows_fit}
use Rattle.spl_algebra.proofs.algebra.Algebra.quotient.Goals as goal

pub image_rows-requires-clause-few : goal.image_rows-requires-clause-few
image_rows-requires-clause-few g c =
    let o = g.F.Field.ops c.args.f.now in
    let L = g.met.F.Field.laws c.args.f.now in
    let project = c.in_ok-project in
    let m = c.args.self.now.dim in
    let places = c.as_slice-places.result.now in
    let low = dimension-le o L project.project.width project.project.rows project.ensures.basis in
    let wide = project.ensures.width ∙ c.requires.width in
    let long = ap length c.as_slice-places.ensures ∙ c.in_ok-pivots.ensures.each in
    let n_low : length places ≤ m = omega arith in
    let dim = c.dim-m.ensures.dim in
    let positive = c.dim-m.ensures.positive in
    rows_fit (length places) (length places) m (2 ^ 64) n_low n_low (omega arith) c.constants.ensures.fits

pub new-requires-clause-positive : goal.new-requires-clause-positive
new-requires-clause-positive g c =
    let o = g.F.Field.ops c.args.f.now in
    let L = g.met.F.Field.laws c.args.f.now in
    let A = c.args.self.now in
    let ideal = c.args.ideal.now.rows in
    let project = c.in_ok-project in
    let rows = project.project.rows in
    let I : ℕ → Type 0 = λ k. IsReducedBasis o k ideal in
    let J : ℕ → Type 0 = λ k. IsReducedBasis o k rows in
    let S : ℕ → Type 0 = λ k. SpansKernel o (length ideal) k ideal rows in
    let some = annihilator-some o L A ideal rows (subst I c.requires.width c.requires.basis)
    (subst J (project.ensures.width ∙ c.requires.width) project.ensures.basis)
    (subst S c.requires.width project.ensures.members) c.requires.proper in
    let long = ap length c.as_slice-places.ensures ∙ c.in_ok-pivots.ensures.each in
    subst (λ k. 1 ≤ k) (sym long) some

pub returns : goal.returns
returns g c =
    let o = g.F.Field.ops c.args.f.now in
    let L = g.met.F.Field.laws c.args.f.now in
    let A = c.args.self.now in
    let ideal = c.args.ideal.now in
    let project = c.in_ok-project in
    let pivots = c.in_ok-pivots in
    let algebra = c.in_ok-algebra in
    let lifts = c.in_ok-lifts in
    made_quotient o L A c.requires.over ideal.rows ideal.width c.requires.width c.requires.ideal c.requires.basis
    project.project.rows project.project.width project.ensures.width project.ensures.basis project.ensures.members
    pivots.pivots pivots.ensures.each pivots.ensures.reduced c.dim-m.result c.dim-m.ensures.dim
    c.constants.result.now c.constants.ensures.value c.as_slice-places.result.now c.as_slice-places.ensures
    c.as_slice.result.now (c.as_slice.ensures ∙ c.rows.ensures) c.in_ok-constants.constants
    c.in_ok-constants.ensures algebra.algebra algebra.ensures.dim algebra.ensures.constants lifts.lifts
    lifts.ensures.value c.into_rows.result c.into_rows.ensures
