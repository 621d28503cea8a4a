-- What contracts see of a table, and of which text it is the table.
use Rattle.std.specs.Prelude.{◌≡◌, ℕ, ◌+◌, ◌*◌, ◌<◌, List, [], ◌∷◌, length, slice_index_or, Option, Some, None}
use Rattle.theory_rings.specs.Ops.{Ops}
use Rattle.spl_field.specs.SmallField.{characteristic, modulus_of, small_ops}
use Rattle.spl_field.specs.declared.small.SmallField.{SmallField}
use Rattle.spl_text.specs.Text.{FractionText}
use Rattle.theory_fractions.specs.Fraction.{Pair, IsLowestTerms, IsFraction}
use Rattle.spl_fraction.specs.Fractions.{field_of as base_of}
use Rattle.spl_fraction.specs.FractionsOver.{fractions_over}
use Rattle.spl_fraction.specs.declared.field.Fractions.{Fractions}
use Rattle.theory_tables.specs.Structure.{Structure}
use Rattle.spl_table.specs.TableText.{Entry, TableText, constant_at}
use Rattle.spl_table.specs.declared.table.Table.{Table}

-- the field of fractions
abbrev pub fractions_of : Table → Fractions
fractions_of t = t.fractions

-- the field that the coefficients of the fractions are elements of
abbrev pub field_of : Table → SmallField
field_of t = base_of t.fractions

abbrev pub degree_of : Table → ℕ
degree_of t = t.degree

abbrev pub algebra_of : Table → Structure (Pair ℕ)
algebra_of t = t.algebra

-- the operations of the field of fractions
abbrev pub ops_of : Table → Ops (Pair ℕ)
ops_of t = fractions_over (field_of t)

-- ---- the constants that a text gives

-- the numbers of the denominator, 1 where there is none
abbrev pub denominator_of : Option (List ℕ) → List ℕ
denominator_of None = 1 ∷ []
denominator_of (Some d) = d

-- the pair is the fraction of the text in lowest terms, and 0 where there is none
abbrev pub IsConstant : Ops ℕ → Option FractionText → Pair ℕ → Type 0
IsConstant o None w = w ≡ ([], 1 ∷ [])
IsConstant o (Some t) w = IsLowestTerms o w.0 w.1 × IsFraction o w t.numerator (denominator_of t.denominator)

-- at each triple of m basis elements stands the constant that the entries give
pub record AreConstants (o : Ops ℕ) (m : ℕ) (entries : List Entry) (constants : List (Pair ℕ)) : Type 0 where
  pub count : length constants ≡ m * m * m
  pub at : (i j k : ℕ) → i < m → j < m → k < m
      → IsConstant o (constant_at entries (i + 1) (j + 1) (k + 1))
      (slice_index_or constants ((i * m + j) * m + k) ([], []))

-- the table that a text stands for
pub record IsTableOf (text : TableText) (table : Table) : Type 0 where
  pub characteristic : characteristic (base_of table.fractions) ≡ text.head.characteristic
  pub modulus : modulus_of (base_of table.fractions) ≡ text.head.modulus
  pub degree : table.degree ≡ text.head.degree
  pub dimension : table.algebra.dim ≡ text.head.degree * text.head.degree
  pub constants : AreConstants
      (small_ops (base_of table.fractions)) table.algebra.dim text.entries table.algebra.constants

-- ---- two tables

-- the tables have the same field, with the same operations of its fractions, the same degree and the same constants
pub record HasSameAlgebra (t u : Table) : Type 0 where
  pub characteristic : characteristic (field_of t) ≡ characteristic (field_of u)
  pub modulus : modulus_of (field_of t) ≡ modulus_of (field_of u)
  pub operations : ops_of t ≡ ops_of u
  pub degree : degree_of t ≡ degree_of u
  pub algebra : algebra_of t ≡ algebra_of u
