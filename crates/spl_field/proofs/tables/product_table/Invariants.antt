use Rattle.std.proofs.Common.{◌≡◌, ℕ, ◌*◌, ◌<◌, length}
use Rattle.theory_rings.specs.FieldByDigits.{IsProductByDigits}
use Rattle.spl_field.specs.Tables.{entry_at}
use Rattle.spl_field.proofs.tables.product_table.Given as goal

abbrev pub invariant-loop-a : goal.invariant-loop-a
invariant-loop-a l = record {
  full : length l.table.items ≡ l.a * l.size;
  entries : (x y : ℕ) → x < l.a → y < l.size → IsProductByDigits l.p l.modulus x y (entry_at l.size l.table.items x y);
}
