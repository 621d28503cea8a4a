-- Powers of elements, and the equations of the solutions of z^q = z, and of z^q = 0, among the combinations of some
-- elements.
use Rattle.std.specs.Prelude.{ℕ, ◌-◌, List, [], length, get_or}
use Rattle.theory_rings.specs.Ops.{Ops}
use Rattle.theory_rings.specs.Power.{power_by_ops}
use Rattle.theory_rings.specs.Sum.{table, at}
use Rattle.theory_spaces.specs.Tuples.{tuple_add, tuple_neg}
use Rattle.theory_tables.specs.Structure.{Structure, product_of}

module _ {E : Type 0} (o : Ops E) (A : Structure E) where
  -- z · .. · z, n factors, for n at least 1
  abbrev pub power_in : List E → ℕ → List E
  power_in z n = power_by_ops z (product_of o A) z (n - 1)

  -- x − y
  abbrev pub difference_of : List E → List E → List E
  difference_of x y = tuple_add o A.dim x (tuple_neg o A.dim y)

  -- z^n − z
  abbrev pub less_self : ℕ → List E → List E
  less_self n z = difference_of (power_in z n) z

  -- for each coordinate the row of that coordinate of g 0, .., g (r − 1)
  abbrev pub coordinate_equations : ℕ → (ℕ → List E) → List (List E)
  coordinate_equations r g = table A.dim (λ j. table r (λ i. at o (g i) j))

  -- for each coordinate the row of that coordinate of z^n − z, for all the elements z
  abbrev pub power_equations : ℕ → List (List E) → List (List E)
  power_equations n rows = coordinate_equations (length rows) (λ i. less_self n (get_or rows i []))

  -- the same of the powers z^n themselves
  abbrev pub nilpotent_equations : ℕ → List (List E) → List (List E)
  nilpotent_equations n rows = coordinate_equations (length rows) (λ i. power_in (get_or rows i []) n)
