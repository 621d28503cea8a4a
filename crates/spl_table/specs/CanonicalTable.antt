-- The canonical text of a table: its field and its degree, and each constant other than 0 by its canonical text, in
-- increasing lexicographic order of the triples.
use Rattle.std.specs.Prelude.{ℕ, ◌+◌, ◌*◌, ◌≤◌, Bool, nat_lt, List, [], length, slice_index_or, map}
use Rattle.std.specs.List.{All, flat_map, filter}
use Rattle.theory_rings.specs.Sum.{table}
use Rattle.theory_fractions.specs.Fraction.{Pair}
use Rattle.spl_field.specs.SmallField.{characteristic, modulus_of}
use Rattle.spl_fraction.specs.CanonicalWords.{words_of}
use Rattle.theory_tables.specs.Structure.{Structure}
use Rattle.spl_table.specs.TableText.{Entry, TableText, spelling}
use Rattle.spl_table.specs.Table.{field_of, degree_of, algebra_of}
use Rattle.spl_table.specs.declared.table.Table.{Table}

-- ---- the triples of m basis elements, counted from 0, in increasing lexicographic order

-- 0, .., m − 1
abbrev pub first_numbers : ℕ → List ℕ
first_numbers m = table m (λ i. i)

-- those that begin with i and j
abbrev pub triples_from_pair : ℕ → ℕ → ℕ → List (ℕ × ℕ × ℕ)
triples_from_pair m i j = table m (λ k. (i, j, k))

-- those that begin with i
abbrev pub triples_from : ℕ → ℕ → List (ℕ × ℕ × ℕ)
triples_from m i = flat_map (triples_from_pair m i) (first_numbers m)

abbrev pub triples : ℕ → List (ℕ × ℕ × ℕ)
triples m = flat_map (triples_from m) (first_numbers m)

-- ---- the entries

abbrev pub constant_of : Structure (Pair ℕ) → ℕ → ℕ → ℕ → Pair ℕ
constant_of A i j k = slice_index_or A.constants ((i * A.dim + j) * A.dim + k) ([], [])

-- in lowest terms, 0 alone has a numerator without coefficients
abbrev pub is_nonzero : Pair ℕ → Bool
is_nonzero w = nat_lt 0 (length w.0)

-- the entry of a triple, which the text counts from 1
abbrev pub canonical_entry : Structure (Pair ℕ) → ℕ → ℕ → ℕ → Entry
canonical_entry A i j k = record { i = i + 1; j = j + 1; k = k + 1; value = words_of (constant_of A i j k) }

-- the entries of those triples whose constant is not 0
abbrev pub nonzero_entries : Structure (Pair ℕ) → List (ℕ × ℕ × ℕ) → List Entry
nonzero_entries A ts =
    map (λ t. canonical_entry A t.0 t.1 t.2) (filter (λ t. is_nonzero (constant_of A t.0 t.1 t.2)) ts)

-- ---- the text

-- what it says
abbrev pub canonical_of : Table → TableText
canonical_of t = record {
  head = record {
    characteristic = characteristic (field_of t);
    modulus = modulus_of (field_of t);
    degree = degree_of t;
  };
  entries = nonzero_entries (algebra_of t) (triples (algebra_of t).dim);
}

abbrev pub canonical_table_text : Table → List ℕ
canonical_table_text t = spelling (canonical_of t)

-- ---- which tables have such a text

-- the numerators and denominators are of degree at most 32
abbrev pub IsWritable : Table → Type 0
IsWritable t = All (λ w. (length w.0 ≤ 33) × (length w.1 ≤ 33)) (algebra_of t).constants
