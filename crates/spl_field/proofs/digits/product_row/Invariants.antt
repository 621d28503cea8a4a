use Rattle.std.proofs.Common.{ℕ, ◌<◌, get_or}
use Rattle.theory_rings.specs.FieldByDigits.{IsProductByDigits}
use Rattle.spl_field.proofs.digits.product_row.Given as goal

abbrev pub invariant-loop-b : goal.invariant-loop-b
invariant-loop-b l = (k : ℕ) → k < l.b → IsProductByDigits l.p l.modulus l.a k (get_or l.row k 0)
