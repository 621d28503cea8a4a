-- The linear system that tells whether there is an identity: its solutions refute that there is one, and what refutes
-- it is an identity with the opposite sign.
use Rattle.std.specs.Prelude.{◌≡◌, ◌+◌, ◌-◌, ◌*◌, ◌/◌, ◌%◌, ◌<◌, ℕ, List, length, cond, nat_eq, nat_lt}
use Rattle.theory_rings.specs.Ops.{Ops}
use Rattle.theory_rings.specs.Sum.{table, at}
use Rattle.theory_tables.specs.Matrix.{entry, IsMatrix}
use Rattle.theory_tables.specs.Conditions.{multiplier_at}
use Rattle.theory_tables.specs.Claims.{AreMultipliers}

-- the place among the m³ constants of γ_ijk where the column c is j·m + k, and of γ_jik where it is m² + j·m + k
abbrev pub constant_place : ℕ → ℕ → ℕ → ℕ
constant_place m i c = cond (nat_lt c (m * m)) (i * (m * m) + c) (((c - m * m) / m * m + i) * m + (c - m * m) % m)

module _ {E : Type 0} (o : Ops E) (m : ℕ) where
  -- 1 where the column is j·m + j or m² + j·m + j for some j, and else 0
  abbrev pub unit_item : ℕ → E
  unit_item c = cond (nat_eq (c % (m * m) % m) (c % (m * m) / m)) o.one o.zero

  -- the 2·m² items of row i, of those before the last
  abbrev pub constant_row : List E → ℕ → List E
  constant_row cs i = table (m * m + m * m) (λ c. at o cs (constant_place m i c))

  -- the last row
  abbrev pub unit_row : List E
  unit_row = table (m * m + m * m) unit_item

  -- m + 1 rows, of which row i has the constants γ_ijk and then γ_jik, and the last has δ_jk twice
  pub record IsIdentitySystem (cs : List E) (rows : List (List E)) : Type 0 where
    pub shape : IsMatrix o (m * m + m * m) rows
    pub height : length rows ≡ m + 1
    pub constants_at : (i c : ℕ) → i < m → c < m * m + m * m → entry o rows i c ≡ at o cs (constant_place m i c)
    pub units_at : (c : ℕ) → c < m * m + m * m → entry o rows m c ≡ unit_item c

  -- the multipliers other than 0 among m² items, each with the row and the column that it has in m rows of m, counted
  -- from 1
  pub record ListsMultipliers (items : List E) (list : List (ℕ × ℕ × E)) : Type 0 where
    pub multipliers : AreMultipliers o m list
    pub multiplier : (j k : ℕ) → j < m → k < m → multiplier_at o list (j + 1) (k + 1) ≡ at o items (j * m + k)
