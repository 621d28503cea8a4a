-- What the loops of a product do to lists of elements of a field.
use Rattle.std.specs.Prelude.{◌≡◌, ℕ, ◌+◌, ◌*◌, ◌<◌, List, length, All}
use Rattle.theory_rings.specs.Ops.{Ops, IsElem}
use Rattle.theory_rings.specs.Sum.{at, sum_of}

-- new is as long as old, and each of its items is an element: the one of old plus f of its place
pub record AddsEach {E : Type 0} (o : Ops E) (old new : List E) (f : ℕ → E) : Type 0 where
  pub same_length : length new ≡ length old
  pub of_elements : All (IsElem o) new
  pub item : (k : ℕ) → k < length old → at o new k ≡ o.add (at o old k) (f k)

-- at k the sum over l of x·b_l times item k of row l, where a row begins each stride items
abbrev pub scaled_rows : {E : Type 0} → Ops E → ℕ → E → List E → List E → ℕ → ℕ → E
scaled_rows o m x b rows stride k = sum_of o m (λ l. o.mul (o.mul x (at o b l)) (at o rows (l * stride + k)))

-- at k the sum over l of b_l times item k of row l
abbrev pub sum_of_rows : {E : Type 0} → Ops E → ℕ → List E → List E → ℕ → ℕ → E
sum_of_rows o m b rows stride k = sum_of o m (λ l. o.mul (at o b l) (at o rows (l * stride + k)))
