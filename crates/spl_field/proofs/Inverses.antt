-- The search for an inverse.
use Rattle.std.specs.Prelude.{◌≡◌, ℕ, List, Option, Some, None, MatchOption, true, is_some}
use Rattle.spl_field.specs.FieldByDigits.{HasInverse, IsInverse}

-- where the search found a number there is an inverse
pub HasInverse-some : (p : ℕ) (modulus : List ℕ) (a : ℕ) (r : Option ℕ) → is_some r ≡ true
    → MatchOption r (HasInverse p modulus a → ⊥) (IsInverse p modulus a) → HasInverse p modulus a
HasInverse-some p modulus a None e h = cc
HasInverse-some p modulus a (Some b) e h = (b, h)
