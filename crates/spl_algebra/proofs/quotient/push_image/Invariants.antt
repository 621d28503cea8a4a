use Rattle.std.proofs.Common.{◌≡◌, ◌++◌, length}
use Rattle.theory_rings.specs.Sum.{table, sum_of, at}
use Rattle.theory_tables.specs.Matrix.{entry}
use Rattle.spl_algebra.proofs.quotient.push_image.Given as goal

abbrev pub invariant-loop-i : goal.invariant-loop-i
invariant-loop-i g l = let o = g.F.Field.ops l.f in l.items ≡ l.initial.items ++ table l.i
    (λ i. sum_of o (length l.v) (λ k. o.mul (entry o l.project i k) (at o l.v k)))
