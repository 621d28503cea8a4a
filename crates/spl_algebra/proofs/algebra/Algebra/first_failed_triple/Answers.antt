use Rattle.std.proofs.Common.{ℕ, ◌<◌, arith, below_more}
use Rattle.spl_algebra.specs.Triple.{AssociatesAtPair}
use Rattle.spl_algebra.proofs.algebra.Algebra.first_failed_triple.Goals as goal

pub loop-i-preserved : goal.loop-i-preserved
loop-i-preserved g c =
    let P : ℕ → Type 0 = λ i. (j : ℕ) → j < c.args.self.now.dim
    → AssociatesAtPair (g.F.Field.ops c.args.f.now) c.args.self.now i j in
    λ i j l m. below_more P c.loop-i.i (λ x lx y ly. c.loop-i.invariant x y lx ly)
    (rw c.in-None.is at c.in_ok-j.ensures) i l j m

pub from_places-requires-clause-second : goal.from_places-requires-clause-second
from_places-requires-clause-second g c = let pair = rw c.in-Some.is at c.in_ok-j.ensures in let within =
    pair.within in omega arith

pub from_places-requires-clause-third : goal.from_places-requires-clause-third
from_places-requires-clause-third g c =
    let pair = rw c.in-Some.is at c.in_ok-j.ensures in let third = pair.third in let within = third.within in
    omega arith
