-- What the parts of the reader answer. Contracts of private functions alone cite it; what a text says to a caller is in
-- TableText and Refusal.
use Rattle.std.specs.Prelude.{◌≡◌, ◌≢◌, ◌⊎◌, ℕ, ◌+◌, ◌-◌, ◌*◌, ◌%◌, ◌<◌, ◌≤◌, Bool, true, false, List, ◌++◌, length}
use Rattle.std.specs.Prelude.{[], slice_index, slice_index_or, codes, decimal, Option, Some, None, IfSome}
use Rattle.std.specs.List.{flat_map}
use Rattle.theory_rings.specs.Ops.{Ops}
use Rattle.theory_fractions.specs.Fraction.{Pair}
use Rattle.spl_field.specs.FieldByDigits.{FitsField, IsAdmitted, IsFirstWithoutInverse}
use Rattle.spl_field.specs.SmallField.{characteristic, modulus_of}
use Rattle.spl_field.specs.declared.small.SmallField.{SmallField}
use Rattle.spl_text.specs.FractionWords.{text_of}
use Rattle.spl_text.specs.Text.{IsNumber, AreNumbers, numbers_text, fraction_text}
use Rattle.spl_table.specs.TableText.{Entry, Head, entry_line, end_line, dimension_of, AreRightEntries, IsInRange}
use Rattle.spl_table.specs.TableText.{IsAfter, IsOverZero, HasSmallDegrees, constant_at}
use Rattle.spl_table.specs.Refusal.{LineFault, last_of}
use Rattle.spl_table.specs.Table.{IsConstant, AreConstants}
use Rattle.spl_table.specs.declared.reader.entry.EntryWords.{EntryWords}
use Rattle.spl_table.specs.declared.refusal.Kind.{Kind}
use Rattle.spl_table.specs.declared.refusal.Kind.TheVariants.{Header, FieldSize, FieldLaw, Degree, Characteristic}
use Rattle.spl_table.specs.declared.refusal.Kind.TheVariants.{EntryRange, EntryOrder, ZeroDenominator, PolyDegree}
use Rattle.spl_table.specs.declared.refusal.TableFault.{TableFault}
use Rattle.spl_table.specs.declared.refusal.TableFault.TheVariants.{Refused, Memory}

-- what holds of the line and the kind, unless memory ran out
abbrev pub IfRefused : TableFault → (ℕ → Kind → Type 0) → Type 0
IfRefused (Refused refusal) P = P refusal.line refusal.kind
IfRefused Memory P = Unit {0}

-- ---- what stands on a line

abbrev pub field_text : ℕ → List ℕ → List ℕ
field_text p m = codes "field " ++ decimal p ++ codes " " ++ numbers_text m

abbrev pub degree_text : ℕ → List ℕ
degree_text n = codes "degree " ++ decimal n

abbrev pub entry_text : Entry → List ℕ
entry_text e = decimal e.i ++ codes " " ++ decimal e.j ++ codes " " ++ decimal e.k ++ codes " " ++ fraction_text e.value

-- ---- faults of a line

-- the numbers are these bytes; or they are too many or too high for a field
abbrev pub AreBytes : List ℕ → Bool → List ℕ → Type 0
AreBytes m true bytes = bytes ≡ m
AreBytes m false bytes = (8 < length m) ⊎ ((k : ℕ) × (k < length m) × (256 ≤ slice_index m k))

-- the line says P and M, and these are the bytes of M
pub record AreFieldWords (text : List ℕ) (p : ℕ) (small : Bool) (bytes : List ℕ) : Type 0 where
  pub m : List ℕ
  pub characteristic : IsNumber p
  pub modulus : AreNumbers m
  pub spelled : text ≡ field_text p m
  pub are_bytes : AreBytes m small bytes

-- the line says P and M, which give a field
pub record SaysAdmitted (text : List ℕ) : Type 0 where
  pub p : ℕ
  pub m : List ℕ
  pub spelled : text ≡ field_text p m
  pub admitted : IsAdmitted p m

-- these numbers give no field
abbrev pub IsNoField : ℕ → List ℕ → Kind → Type 0
IsNoField p m FieldSize = FitsField p m → ⊥
IsNoField p m (FieldLaw element) = IsFirstWithoutInverse p m element
IsNoField p m _ = ⊥

-- the line says P and M, which give no field
pub record SaysNoField (text : List ℕ) (kind : Kind) : Type 0 where
  pub p : ℕ
  pub m : List ℕ
  pub characteristic : IsNumber p
  pub modulus : AreNumbers m
  pub spelled : text ≡ field_text p m
  pub fault : IsNoField p m kind

-- the fault of the line of the field
abbrev pub IsFieldFault : List ℕ → Kind → Type 0
IsFieldFault text Header = (p : ℕ) (m : List ℕ) → IsNumber p → AreNumbers m → text ≢ field_text p m
IsFieldFault text kind = SaysNoField text kind

-- a degree that no table of characteristic p has
abbrev pub IsNoDegree : ℕ → ℕ → Kind → Type 0
IsNoDegree p n Degree = (2 ≤ n) × (n ≤ 5) → ⊥
IsNoDegree p n Characteristic = (2 ≤ n) × (n ≤ 5) × (n % p ≡ 0)
IsNoDegree p n _ = ⊥

-- the line says such a degree
pub record SaysNoDegree (p : ℕ) (text : List ℕ) (kind : Kind) : Type 0 where
  pub n : ℕ
  pub number : IsNumber n
  pub spelled : text ≡ degree_text n
  pub fault : IsNoDegree p n kind

-- the fault of the line of the degree
abbrev pub IsDegreeFault : ℕ → List ℕ → Kind → Type 0
IsDegreeFault p text Header = (n : ℕ) → IsNumber n → text ≢ degree_text n
IsDegreeFault p text kind = SaysNoDegree p text kind

-- ---- an entry

-- the entry, as the program has it
abbrev pub entry_of : EntryWords → Entry
entry_of w = record { i = w.i; j = w.j; k = w.k; value = text_of w.value }

-- what the first three lines say, as the program has it
abbrev pub head_of : SmallField → ℕ → Head
head_of f n = record { characteristic = characteristic f; modulus = modulus_of f; degree = n }

-- where the constant of the triple (i, j, k), counted from 0, stands among the m³
abbrev pub place : ℕ → ℕ → ℕ → ℕ → ℕ
place m i j k = (i * m + j) * m + k

-- where that of an entry stands
abbrev pub place_of : ℕ → Entry → ℕ
place_of m e = ((e.i - 1) * m + (e.j - 1)) * m + (e.k - 1)

-- the place after that of the entry before, where there is one
abbrev pub next_of : ℕ → Option Entry → ℕ
next_of m None = 0
next_of m (Some e) = place_of m e + 1

-- the constants of the entry before, where there is one, and of those before it fill the places below next
pub record IsPrevious (h : Head) (next : ℕ) (previous : Option Entry) : Type 0 where
  pub range : IfSome previous (IsInRange h)
  pub place : next ≡ next_of (dimension_of h) previous

-- why the entry may not follow the one before
abbrev pub IsEntryFaultOf : Head → Option Entry → Entry → Kind → Type 0
IsEntryFaultOf h previous e EntryRange = IsInRange h e → ⊥
IsEntryFaultOf h previous e EntryOrder = IsInRange h e × (IsAfter previous e → ⊥)
IsEntryFaultOf h previous e ZeroDenominator = IsInRange h e × IsAfter previous e × IsOverZero e.value
IsEntryFaultOf h previous e PolyDegree = IsInRange h e × IsAfter previous e × (IsOverZero e.value → ⊥)
    × (HasSmallDegrees e.value → ⊥)
IsEntryFaultOf h previous e _ = ⊥

-- ---- the entries

-- the first places have the constants of the entries, and no entry has a later place
pub record Fills (o : Ops ℕ) (h : Head) (entries : List Entry) (constants : List (Pair ℕ)) : Type 0 where
  pub at : (i j k : ℕ) → i < dimension_of h → j < dimension_of h → k < dimension_of h
      → place (dimension_of h) i j k < length constants
      → IsConstant o (constant_at entries (i + 1) (j + 1) (k + 1))
      (slice_index_or constants (place (dimension_of h) i j k) ([], []))
  pub later : (i j k : ℕ) → i < dimension_of h → j < dimension_of h → k < dimension_of h
      → length constants ≤ place (dimension_of h) i j k
      → constant_at entries (i + 1) (j + 1) (k + 1) ≡ None

-- right entries stand before the rest, which begins at the line of this number, and have their constants
pub record SoFar (o : Ops ℕ) (h : Head) (bytes rest : List ℕ) (number : ℕ) (constants : List (Pair ℕ))
    : Type 0 where
  pub entries : List Entry
  pub right : AreRightEntries h None entries
  pub spelled : bytes ≡ flat_map entry_line entries ++ rest
  pub line_number : number ≡ 4 + length entries
  pub previous : IsPrevious h (length constants) (last_of None entries)
  pub few : length entries ≤ length constants
  pub within : length constants ≤ dimension_of h * dimension_of h * dimension_of h
  pub fills : Fills o h entries constants

-- the bytes are right entries and the line `end`, and the rest follows; the constants are those of the entries
pub record AreEntries (o : Ops ℕ) (h : Head) (bytes rest : List ℕ) (number : ℕ)
    (constants : List (Pair ℕ)) : Type 0 where
  pub entries : List Entry
  pub right : AreRightEntries h None entries
  pub spelled : bytes ≡ flat_map entry_line entries ++ (end_line ++ rest)
  pub line_number : number ≡ 4 + length entries
  pub values : AreConstants o (dimension_of h) entries constants

-- after right entries, which begin at line 4, the next line is at fault
pub record IsFaultAfter (h : Head) (bytes : List ℕ) (at : ℕ) (kind : Kind) : Type 0 where
  pub entries : List Entry
  pub rest : List ℕ
  pub right : AreRightEntries h None entries
  pub spelled : bytes ≡ flat_map entry_line entries ++ rest
  pub at_line : at ≡ 4 + length entries
  pub fault : LineFault h (last_of None entries) rest kind
