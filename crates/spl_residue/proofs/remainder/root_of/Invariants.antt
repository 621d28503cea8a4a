use Rattle.std.proofs.Common.{ℕ, ◌≡◌, ◌+◌, ◌^◌}
use Rattle.theory_rings.specs.Power.{power_of}
use Rattle.theory_remainders.specs.Irreducible.{IsIrreducible}
use Rattle.theory_remainders.specs.RemainderLaws.{IsRemainder}
use Rattle.spl_field.specs.SmallField.{small_ops}
use Rattle.spl_residue.specs.ResidueOver.{residues_over}
use Rattle.spl_residue.proofs.Numbers.{small_numbers}
use Rattle.spl_residue.proofs.remainder.root_of.Given as goal

abbrev pub invariant-loop : goal.invariant-loop
invariant-loop l = record {
  remainder : IsRemainder (small_ops l.f) l.modulus l.power;
  value : (i : IsIrreducible (small_ops l.f) l.modulus) (n : ℕ) → l.counter ≡ n + 2
      → l.power ≡ power_of (residues_over l.f l.modulus i) l.a ((let N = small_numbers l.f in N.size) ^ n);
}
