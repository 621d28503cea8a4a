use Rattle.std.proofs.Common.{length}
use Rattle.theory_remainders.proofs.CoprimeLists.{HasSameDivisors}
use Rattle.theory_remainders.proofs.Cofactors.{IsCofactor}
use Rattle.spl_field.specs.SmallField.{small_ops, small_laws}
use Rattle.spl_residue.proofs.inverse.inverse_of.Given as goal

abbrev pub invariant-steps : goal.invariant-steps
invariant-steps l = record {
  divisors : HasSameDivisors (small_ops l.f) (small_laws l.f) l.modulus l.a l.first l.second;
  first : IsCofactor (small_ops l.f) (small_laws l.f) l.modulus l.a l.first l.first_factor;
  second : IsCofactor (small_ops l.f) (small_laws l.f) l.modulus l.a l.second l.second_factor;
}

abbrev pub decreases-steps : goal.decreases-steps
decreases-steps l = length l.second
