use Rattle.std.proofs.Common.{◌≡◌, ◌<◌, ℕ}
use Rattle.theory_tables.specs.Structure.{basis_of, product_of}
use Rattle.spl_check.proofs.central.commutes_with_basis.Given as goal

abbrev pub invariant-loop-i : goal.invariant-loop-i
invariant-loop-i g l = let o = g.F.Field.ops l.f in
    (i : ℕ) → i < l.i → product_of o l.algebra l.a (basis_of o l.algebra i)
    ≡ product_of o l.algebra (basis_of o l.algebra i) l.a
