use Rattle.std.proofs.Common.{◌≡◌, ◌∷◌, get_or, []}
use Rattle.theory_bases.specs.Joined.{joined}
use Rattle.spl_order.proofs.denominators.joined_polynomials.Given as goal

abbrev pub invariant-loop-i : goal.invariant-loop-i
invariant-loop-i l = l.list ≡ l.c ∷ joined l.i (λ i. get_or l.rows i [])
