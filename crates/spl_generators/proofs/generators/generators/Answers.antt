use Rattle.std.proofs.Common.{◌≡◌, ℕ, length, ap, ◌∙◌, subst, arith}
use Rattle.theory_tables.specs.Subspace.{IsReducedBasis, SameSpan}
use Rattle.spl_generators.proofs.Subalgebras.{none, same_span}
use Rattle.spl_generators.proofs.generators.generators.Goals as goal

pub loop-j-init : goal.loop-j-init
loop-j-init g c =
    let o = g.F.Field.ops c.args.f.now in
    let L = g.met.F.Field.laws c.args.f.now in
    let A = c.args.a.now in
    let by = c.new.result in
    let s = c.in_ok-span in
    let rows = s.field-0.rows in
    let width : s.field-0.width ≡ A.dim = s.ensures.width ∙ c.dim.ensures.dim in
    let B : ℕ → Type 0 = λ w. IsReducedBasis o w rows in
    let basis : IsReducedBasis o A.dim rows = subst B width s.ensures.basis in
    let S : ℕ → Type 0 = λ w. SameSpan o w rows c.new-2.result in
    let empty : length by ≡ 0 = ap length c.new.ensures in
    record {
      within = λ s l. absurd (omega arith);
      lies = record {
        width = width;
        basis = basis;
        generated = same_span o L A by c.new-2.result rows (none o L A by c.new-2.result c.new-2.ensures) basis.shape
            (subst S c.dim.ensures.dim s.ensures.members);
      };
      before = λ i l. absurd (omega arith);
    }
