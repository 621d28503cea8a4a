use Rattle.std.proofs.Common.{◌≡◌, ℕ, ◌<◌, length, get_or}
use Rattle.theory_rings.specs.FieldByDigits.{IsProductByDigits}
use Rattle.spl_field.proofs.tables.inverse_table.Given as goal

abbrev pub invariant-loop-a : goal.invariant-loop-a
invariant-loop-a l = record {
  full : length l.table.items ≡ l.a;
  elements : (k : ℕ) → k < l.a → get_or l.table.items k 0 < l.size;
  zero : (k : ℕ) → k < l.a → k ≡ 0 → get_or l.table.items k 0 ≡ 0;
  entries : (k : ℕ) → k < l.a → 0 < k → IsProductByDigits l.p l.modulus k (get_or l.table.items k 0) 1;
}
