-- The natural numbers with their sum: a count is a sum.
use Rattle.std.specs.Prelude.{ℕ, ◌+◌}
use Rattle.std.proofs.Math.Nat as nat
use Rattle.theory_rings.specs.Ring.{AddCommMonoidOn}

abbrev pub nat_monoid : AddCommMonoidOn ℕ
nat_monoid = record {
  zero = 0;
  ◌⊕◌ = λ a b. a + b;
  add_assoc = nat.add_assoc;
  add_comm = nat.add_comm;
  zero-add = nat.zero-add;
}
