-- Which bytes are the text of a table, and what the first fault of all others is. The bytes are a whole input, or an
-- input in whose front a table text stands.
use Rattle.std.specs.Prelude.{◌≡◌, ◌≢◌, ◌⊎◌, ℕ, ◌+◌, ◌%◌, ◌<◌, ◌≤◌, List, [], ◌∷◌, ◌++◌, length, take, codes, Option}
use Rattle.std.specs.Prelude.{Some, None}
use Rattle.spl_field.specs.FieldByDigits.{FitsField, IsAdmitted, IsFirstWithoutInverse}
use Rattle.spl_text.specs.Text.{IsNumber, AreNumbers, line, Lacks, IsText, IsFirstNoText, newlines}
use Rattle.spl_table.specs.TableText.{Entry, Head, TableText, first_line, field_line, degree_line, head_lines}
use Rattle.spl_table.specs.TableText.{entry_line, end_line, lines_before_end, spelling, IsRightHead, IsEntry, IsInRange}
use Rattle.spl_table.specs.TableText.{IsAfter, IsOverZero, HasSmallDegrees, AreRightEntries, IsWellFormed}
use Rattle.spl_table.specs.declared.refusal.Refusal.{Refusal}
use Rattle.spl_table.specs.declared.refusal.Kind.{Kind}
use Rattle.spl_table.specs.declared.refusal.Kind.TheVariants.{TooLong, NotText, Header, FieldSize, FieldLaw, Degree}
use Rattle.spl_table.specs.declared.refusal.Kind.TheVariants.{Characteristic, EntryForm, EntryRange, EntryOrder}
use Rattle.spl_table.specs.declared.refusal.Kind.TheVariants.{ZeroDenominator, PolyDegree, NoEnd, AfterEnd}

-- the most bytes of a table text
abbrev pub table_limit : ℕ
table_limit = 8388608

-- the most bytes of an input in whose front a table text stands
abbrev pub front_limit : ℕ
front_limit = 67108864

-- a table text is the whole input, or stands in front of other text
pub data Extent : Type 0 where
  whole : Extent
  front : Extent

-- the input is within the limit, which the front form doesn't have
abbrev pub IsWithinLimit : Extent → List ℕ → Type 0
IsWithinLimit whole bytes = length bytes ≤ table_limit
IsWithinLimit front bytes = Unit {0}

-- the input has more bytes than the limit, which the front form doesn't have
abbrev pub IsTooLong : Extent → List ℕ → Type 0
IsTooLong whole bytes = table_limit < length bytes
IsTooLong front bytes = ⊥

-- what may follow the line `end`
abbrev pub MayFollow : Extent → List ℕ → Type 0
MayFollow whole rest = rest ≡ []
MayFollow front rest = Unit {0}

-- the bytes are a table text that says this, and the rest follows it
pub record IsTableText (extent : Extent) (bytes : List ℕ) (t : TableText) (rest : List ℕ) : Type 0 where
  pub within : IsWithinLimit extent bytes
  pub text : IsText bytes
  pub well_formed : IsWellFormed t
  pub spelled : bytes ≡ spelling t ++ rest
  pub follows : MayFollow extent rest

-- ---- the lines before the entries

-- the first line is missing, unfinished or not of its form
abbrev pub LacksFirst : List ℕ → Type 0
LacksFirst bytes = (rest : List ℕ) → bytes ≢ first_line ++ rest

-- so is the second, after the first
pub record LacksField (bytes : List ℕ) : Type 0 where
  pub rest : List ℕ
  pub spelled : bytes ≡ first_line ++ rest
  pub lacks : (p : ℕ) (m after : List ℕ) → IsNumber p → AreNumbers m → rest ≢ field_line p m ++ after

-- the second line says this
pub record HasField (bytes : List ℕ) (p : ℕ) (m : List ℕ) : Type 0 where
  pub rest : List ℕ
  pub characteristic : IsNumber p
  pub modulus : AreNumbers m
  pub spelled : bytes ≡ first_line ++ field_line p m ++ rest

-- the third is missing, unfinished or not of its form, after a line of a field
pub record LacksDegree (bytes : List ℕ) : Type 0 where
  pub p : ℕ
  pub m : List ℕ
  pub rest : List ℕ
  pub admitted : IsAdmitted p m
  pub spelled : bytes ≡ first_line ++ field_line p m ++ rest
  pub lacks : (n : ℕ) (after : List ℕ) → IsNumber n → rest ≢ degree_line n ++ after

-- the first three lines say this, with an admitted field
pub record HasHead (bytes : List ℕ) (h : Head) : Type 0 where
  pub rest : List ℕ
  pub admitted : IsAdmitted h.characteristic h.modulus
  pub degree : IsNumber h.degree
  pub spelled : bytes ≡ head_lines h ++ rest

-- the line that is at fault first, of the first three
abbrev pub LacksLine : List ℕ → ℕ → Type 0
LacksLine bytes at = ((at ≡ 1) × LacksFirst bytes) ⊎ ((at ≡ 2) × LacksField bytes) ⊎ ((at ≡ 3) × LacksDegree bytes)

-- ---- the lines of the entries

-- the bytes begin with a right head and right entries, and the rest follows
pub record Begins (bytes : List ℕ) (h : Head) (es : List Entry) (rest : List ℕ) : Type 0 where
  pub head : IsRightHead h
  pub entries : AreRightEntries h None es
  pub spelled : bytes ≡ lines_before_end h es ++ rest

-- the last of the entries, where there is one
abbrev pub last_of : Option Entry → List Entry → Option Entry
last_of previous [] = previous
last_of previous (e ∷ es) = last_of (Some e) es

-- a finished line that is neither `end` nor an entry
pub record IsNoEntry (rest : List ℕ) : Type 0 where
  pub text : List ℕ
  pub after : List ℕ
  pub one_line : Lacks 10 text
  pub next : rest ≡ line text ++ after
  pub no_end : text ≢ codes "end"
  pub no_entry : (e : Entry) → IsEntry e → line text ≢ entry_line e

-- a line that is an entry with a fault
pub record IsEntryWith (Fault : Entry → Type 0) (rest : List ℕ) : Type 0 where
  pub entry : Entry
  pub after : List ℕ
  pub form : IsEntry entry
  pub next : rest ≡ entry_line entry ++ after
  pub fault : Fault entry

-- the fault of the line that follows an entry, or the third line
abbrev pub LineFault : Head → Option Entry → List ℕ → Kind → Type 0
LineFault h previous rest EntryForm = IsNoEntry rest
LineFault h previous rest EntryRange = IsEntryWith (λ e. IsInRange h e → ⊥) rest
LineFault h previous rest EntryOrder = IsEntryWith (λ e. IsInRange h e × (IsAfter previous e → ⊥)) rest
LineFault h previous rest ZeroDenominator =
    IsEntryWith (λ e. IsInRange h e × IsAfter previous e × IsOverZero e.value) rest
LineFault h previous rest PolyDegree =
    IsEntryWith (λ e. IsInRange h e × IsAfter previous e × (IsOverZero e.value → ⊥)
    × (HasSmallDegrees e.value → ⊥)) rest
LineFault h previous rest NoEnd = Lacks 10 rest
LineFault h previous rest _ = ⊥

-- after right lines, the next one is at fault
pub record IsEntryFault (bytes : List ℕ) (at : ℕ) (kind : Kind) : Type 0 where
  pub head : Head
  pub entries : List Entry
  pub rest : List ℕ
  pub begins : Begins bytes head entries rest
  pub at_line : at ≡ 4 + length entries
  pub fault : LineFault head (last_of None entries) rest kind

-- a byte follows the line `end`
pub record IsAfterEnd (bytes : List ℕ) (at : ℕ) : Type 0 where
  pub head : Head
  pub entries : List Entry
  pub byte : ℕ
  pub rest : List ℕ
  pub begins : Begins bytes head entries (end_line ++ byte ∷ rest)
  pub at_line : at ≡ 5 + length entries

-- ---- the first fault

-- the byte at this line is none of a text
pub record IsNoTextAt (bytes : List ℕ) (at : ℕ) : Type 0 where
  pub place : ℕ
  pub first : IsFirstNoText bytes place
  pub at_line : at ≡ 1 + newlines (take place bytes)

-- of an input within the limit that is text, the first fault in the order of its lines
abbrev pub IsFaultOfLines : Extent → List ℕ → ℕ → Kind → Type 0
IsFaultOfLines extent bytes at Header = LacksLine bytes at
IsFaultOfLines extent bytes at FieldSize = (at ≡ 2)
    × ((p : ℕ) × (m : List ℕ) × HasField bytes p m × (FitsField p m → ⊥))
IsFaultOfLines extent bytes at (FieldLaw element) = (at ≡ 2)
    × ((p : ℕ) × (m : List ℕ) × HasField bytes p m × IsFirstWithoutInverse p m element)
IsFaultOfLines extent bytes at Degree = (at ≡ 3)
    × ((h : Head) × HasHead bytes h × ((2 ≤ h.degree) × (h.degree ≤ 5) → ⊥))
IsFaultOfLines extent bytes at Characteristic = (at ≡ 3)
    × ((h : Head) × HasHead bytes h × (2 ≤ h.degree) × (h.degree ≤ 5) × (h.degree % h.characteristic ≡ 0))
IsFaultOfLines whole bytes at AfterEnd = IsAfterEnd bytes at
IsFaultOfLines extent bytes at kind = IsEntryFault bytes at kind

-- the first fault: too many bytes, a byte that is none of a text, or a line
abbrev pub IsFirstFault : Extent → List ℕ → ℕ → Kind → Type 0
IsFirstFault extent bytes at TooLong = (at ≡ 0) × IsTooLong extent bytes
IsFirstFault extent bytes at NotText = IsWithinLimit extent bytes × IsNoTextAt bytes at
IsFirstFault extent bytes at kind = IsWithinLimit extent bytes × IsText bytes × IsFaultOfLines extent bytes at kind

abbrev pub IsRefusal : Extent → List ℕ → Refusal → Type 0
IsRefusal extent bytes r = IsFirstFault extent bytes r.line r.kind

-- nothing is wrong with the input up to its second line, and its numbers give a field: no memory is taken before that
pub record IsRightToField (extent : Extent) (bytes : List ℕ) : Type 0 where
  pub within : IsWithinLimit extent bytes
  pub text : IsText bytes
  pub p : ℕ
  pub m : List ℕ
  pub field : HasField bytes p m
  pub admitted : IsAdmitted p m

-- ---- each text has one or the other

-- the bytes are the text of this table and of no other, and have no refusal
pub record IsOnlyTableText (extent : Extent) (bytes : List ℕ) (t : TableText) (rest : List ℕ) : Type 0 where
  pub is_text : IsTableText extent bytes t rest
  pub only : (u : TableText) (s : List ℕ) → IsTableText extent bytes u s → (t ≡ u) × (rest ≡ s)
  pub no_refusal : (r : Refusal) → IsRefusal extent bytes r → ⊥

-- the bytes have this refusal and no other, and are the text of no table
pub record IsOnlyRefusal (extent : Extent) (bytes : List ℕ) (r : Refusal) : Type 0 where
  pub is_refusal : IsRefusal extent bytes r
  pub only : (f : Refusal) → IsRefusal extent bytes f → r ≡ f
  pub no_table : (t : TableText) (rest : List ℕ) → IsTableText extent bytes t rest → ⊥

-- each byte string is the text of exactly one table, or has exactly one refusal
abbrev pub EachIsTextOrRefused : Extent → Type 0
EachIsTextOrRefused extent =
    (bytes : List ℕ) → ((t : TableText) × (rest : List ℕ) × IsOnlyTableText extent bytes t rest)
    ⊎ ((r : Refusal) × IsOnlyRefusal extent bytes r)
