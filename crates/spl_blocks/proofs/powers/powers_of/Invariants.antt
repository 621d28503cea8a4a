use Rattle.std.proofs.Common.{◌≡◌, ◌^◌, [], get_or}
use Rattle.theory_rings.specs.Sum.{table}
use Rattle.theory_tables.specs.Matrix.{IsMatrix}
use Rattle.spl_blocks.specs.Fixed.{power_in}
use Rattle.spl_blocks.proofs.powers.powers_of.Given as goal

abbrev pub invariant-loop-i : goal.invariant-loop-i
invariant-loop-i g l = let o = g.F.Field.ops l.f in record {
  shape : IsMatrix o l.a.dim l.out;
  value : l.out ≡ table l.i (λ i. power_in o l.a (get_or l.rows i []) (l.q ^ l.d));
}
