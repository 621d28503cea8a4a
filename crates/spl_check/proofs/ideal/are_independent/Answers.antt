use Rattle.std.proofs.Common.{length, sym, ◌∙◌}
use Rattle.std.proofs.lemmas.Bool.{eqb-true, eq-eqb}
use Rattle.spl_check.proofs.Counts.{independent_of_count, count_of_independent}
use Rattle.spl_check.proofs.ideal.are_independent.Goals as goal

pub returns : goal.returns
returns g c =
    let o = g.F.Field.ops c.args.f.now in
    let L = g.met.F.Field.laws c.args.f.now in
    let s = c.args.space.now in
    let tuples = c.args.tuples.now in (
      (λ t. independent_of_count o L s.width s.rows tuples c.requires.subspace c.requires.tuples c.requires.span
          (sym c.dim.ensures ∙ eqb-true c.dim.result (length tuples) t)),
      (λ h. eq-eqb c.dim.result (length tuples)
          (c.dim.ensures ∙ count_of_independent o L s.width s.rows tuples c.requires.subspace c.requires.tuples
          c.requires.span h)),
    )
