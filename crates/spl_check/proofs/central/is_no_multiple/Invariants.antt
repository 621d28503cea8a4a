use Rattle.std.proofs.Common.{◌≡◌, ◌<◌, ℕ}
use Rattle.theory_spaces.specs.Tuples.{tuple_scale}
use Rattle.theory_tables.specs.Structure.{basis_of, product_of}
use Rattle.spl_check.proofs.central.is_no_multiple.Given as goal

abbrev pub invariant-loop-i : goal.invariant-loop-i
invariant-loop-i g l = let o = g.F.Field.ops l.f in
    (i : ℕ) → i < l.i → product_of o l.algebra l.a (basis_of o l.algebra i)
    ≡ tuple_scale o l.algebra.dim l.c (basis_of o l.algebra i)
