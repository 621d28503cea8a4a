-- Products with basis elements, from the left or from the right.
use Rattle.std.specs.Prelude.{ℕ, Bool, cond, List}
use Rattle.theory_rings.specs.Ops.{Ops}
use Rattle.theory_tables.specs.Structure.{Structure, product_of, basis_of}

-- b_i·v, or v·b_i where the side is the right one
abbrev pub side_product_of : {E : Type 0} (o : Ops E) (A : Structure E) → Bool → List E → ℕ → List E
side_product_of o A is_left v i = cond is_left (product_of o A (basis_of o A i) v) (product_of o A v (basis_of o A i))
