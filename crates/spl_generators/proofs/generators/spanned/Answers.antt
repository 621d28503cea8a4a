use Rattle.std.proofs.Common.{◌≡◌, ℕ, sym, ◌∙◌, subst}
use Rattle.theory_tables.specs.Matrix.{IsMatrix}
use Rattle.theory_tables.specs.Subspace.{IsReducedBasis, SameSpan}
use Rattle.spl_generators.proofs.Subalgebras.{same_span}
use Rattle.spl_generators.proofs.generators.spanned.Goals as goal

pub span-requires : goal.span-requires
span-requires g c =
    let P : ℕ → Type 0 = λ w. IsMatrix (g.F.Field.ops c.args.f.now) w c.args.rows.now in
    record { shape = subst P (sym c.dim.ensures.dim) c.requires.rows.shape }

pub returns : goal.returns
returns g c =
    let o = g.F.Field.ops c.args.f.now in
    let L = g.met.F.Field.laws c.args.f.now in
    let A = c.args.a.now in
    let s = c.in_ok-span in
    let rows = s.field-0.rows in
    let width : s.field-0.width ≡ A.dim = s.ensures.width ∙ c.dim.ensures.dim in
    let B : ℕ → Type 0 = λ w. IsReducedBasis o w rows in
    let basis : IsReducedBasis o A.dim rows = subst B width s.ensures.basis in
    let S : ℕ → Type 0 = λ w. SameSpan o w rows c.args.rows.now in
    record {
      width = width;
      basis = basis;
      generated = same_span o L A c.args.by.now c.args.rows.now rows c.requires.rows basis.shape
          (subst S c.dim.ensures.dim s.ensures.members);
    }
