use Rattle.std.proofs.Common.{◌≡◌, ℕ, ◌/◌, ◌%◌, ◌<◌, length, get_or}
use Rattle.theory_rings.specs.FieldByDigits.{IsSumByDigits}
use Rattle.spl_field.proofs.tables.sum_table.Given as goal

abbrev pub invariant-loop-i : goal.invariant-loop-i
invariant-loop-i l = record {
  full : length l.table.items ≡ l.i;
  entries : (k : ℕ) → k < l.i → IsSumByDigits l.p l.modulus (k / l.size) (k % l.size) (get_or l.table.items k 0);
}
