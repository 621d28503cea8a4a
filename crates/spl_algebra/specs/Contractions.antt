-- Sums of structure constants by the items of a tuple, and the rows by which an element has to commute.
use Rattle.std.specs.Prelude.{ℕ, ◌+◌, ◌*◌, ◌/◌, ◌%◌, List}
use Rattle.theory_rings.specs.Ops.{Ops}
use Rattle.theory_rings.specs.Sum.{sum_of, table, at}
use Rattle.theory_spaces.specs.Tuples.{constant}

module _ {E : Type 0} (o : Ops E) (m : ℕ) where
  -- the sum over l of a_l times the constant at the place start + l·stride
  abbrev pub contracted : List E → List E → ℕ → ℕ → E
  contracted a cs start stride = sum_of o m (λ l. o.mul (at o a l) (at o cs (start + l * stride)))

  -- the items of a row begin `along` places apart
  abbrev pub contracted_row : List E → List E → ℕ → ℕ → ℕ → List E
  contracted_row a cs start along stride = table m (λ j. contracted a cs (start + j * along) stride)

  -- the rows begin `down` places apart
  abbrev pub contraction : List E → List E → ℕ → ℕ → ℕ → List (List E)
  contraction a cs down along stride = table m (λ r. contracted_row a cs (r * down) along stride)

  module _ (cs : List E) where
    -- the trace of the multiplication by the basis element i from the left
    abbrev pub basis_trace : ℕ → E
    basis_trace i = sum_of o m (λ j. constant o m cs i j j)

    -- the coefficient of b_k in b_j·b_i − b_i·b_j
    abbrev pub commutator_item : ℕ → ℕ → ℕ → E
    commutator_item i k j = o.add (constant o m cs j i k) (o.neg (constant o m cs i j k))

    -- a row for each pair (i, k)
    abbrev pub commutator_rows : List (List E)
    commutator_rows = table (m * m) (λ r. table m (commutator_item (r / m) (r % m)))
