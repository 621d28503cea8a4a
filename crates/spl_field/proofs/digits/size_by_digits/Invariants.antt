use Rattle.std.proofs.Common.{◌≡◌, ℕ, ◌^◌, ◌<◌, ◌≤◌, get_or}
use Rattle.spl_field.proofs.digits.size_by_digits.Given as goal

abbrev pub invariant-loop-k : goal.invariant-loop-k
invariant-loop-k l = record {
  power : l.size ≡ l.p ^ l.k;
  small : l.size ≤ 256;
  below : (i : ℕ) → i < l.k → get_or l.modulus i 0 < l.p;
}
