-- The text of a table: what such a text says, how it is spelled, and which texts are well formed. Each text says one
-- thing, since a number has one spelling.
use Rattle.std.specs.Prelude.{◌≡◌, ◌≢◌, ℕ, ◌+◌, ◌*◌, ◌^◌, ◌%◌, ◌<◌, ◌≤◌, ◌==◌, ◌&&◌, if◌then◌else◌, List, [], ◌∷◌, ◌++◌}
use Rattle.std.specs.Prelude.{length, codes, decimal, Option, Some, None}
use Rattle.std.specs.List.{flat_map, AllByRecursion}
use Rattle.theory_rings.specs.Triples.{ComesBefore}
use Rattle.spl_field.specs.FieldByDigits.{IsAdmitted}
use Rattle.spl_text.specs.Text.{FractionText, IsFractionText, IsNumber, fraction_text, numbers_text, lists_of, line}

-- the line `I J K F`: the constant at (I, J, K), counted from 1, is the fraction F
pub record Entry : Type 0 where
  pub i : ℕ
  pub j : ℕ
  pub k : ℕ
  pub value : FractionText

-- the lines `field P M` and `degree N`
pub record Head : Type 0 where
  pub characteristic : ℕ
  pub modulus : List ℕ
  pub degree : ℕ

-- all that a text says
pub record TableText : Type 0 where
  pub head : Head
  pub entries : List Entry

-- ---- how it is spelled

abbrev pub first_line : List ℕ
first_line = line (codes "spl-table 1")

abbrev pub field_line : ℕ → List ℕ → List ℕ
field_line p m = line (codes "field " ++ decimal p ++ codes " " ++ numbers_text m)

abbrev pub degree_line : ℕ → List ℕ
degree_line n = line (codes "degree " ++ decimal n)

abbrev pub head_lines : Head → List ℕ
head_lines h = first_line ++ field_line h.characteristic h.modulus ++ degree_line h.degree

abbrev pub entry_line : Entry → List ℕ
entry_line e = line (decimal e.i ++ codes " " ++ decimal e.j ++ codes " " ++ decimal e.k ++ codes " "
    ++ fraction_text e.value)

abbrev pub end_line : List ℕ
end_line = line (codes "end")

-- the lines before the line `end`
abbrev pub lines_before_end : Head → List Entry → List ℕ
lines_before_end h es = head_lines h ++ flat_map entry_line es

abbrev pub spelling : TableText → List ℕ
spelling t = lines_before_end t.head t.entries ++ end_line

-- the line `end`, counted from 1
abbrev pub line_of_end : TableText → ℕ
line_of_end t = 4 + length t.entries

-- ---- which heads and entries are right

-- the numbers give a field, the degree is 2 to 5, and the characteristic doesn't divide it
pub record IsRightHead (h : Head) : Type 0 where
  pub admitted : IsAdmitted h.characteristic h.modulus
  pub degree_low : 2 ≤ h.degree
  pub degree_high : h.degree ≤ 5
  pub apart : h.degree % h.characteristic ≢ 0

-- the number of elements of the field
abbrev pub size_of : Head → ℕ
size_of h = h.characteristic ^ length h.modulus

-- the number of basis elements
abbrev pub dimension_of : Head → ℕ
dimension_of h = h.degree * h.degree

-- three numbers of at most nine digits, and a fraction
pub record IsEntry (e : Entry) : Type 0 where
  pub first : IsNumber e.i
  pub second : IsNumber e.j
  pub third : IsNumber e.k
  pub fraction : IsFractionText e.value

-- the triple is one of basis elements, and each number of a list is an element of the field
pub record IsInRange (h : Head) (e : Entry) : Type 0 where
  pub i_low : 1 ≤ e.i
  pub i_high : e.i ≤ dimension_of h
  pub j_low : 1 ≤ e.j
  pub j_high : e.j ≤ dimension_of h
  pub k_low : 1 ≤ e.k
  pub k_high : e.k ≤ dimension_of h
  pub elements : AllByRecursion (AllByRecursion (λ c. c < size_of h)) (lists_of e.value)

-- the triple is greater than that of the entry before, where there is one
abbrev pub IsAfter : Option Entry → Entry → Type 0
IsAfter None e = Unit {0}
IsAfter (Some d) e = ComesBefore d.i d.j d.k e.i e.j e.k

-- the denominator is the list `0`
abbrev pub IsOverZero : FractionText → Type 0
IsOverZero t = t.denominator ≡ Some (0 ∷ [])

-- the polynomials are of degree at most 32
abbrev pub HasSmallDegrees : FractionText → Type 0
HasSmallDegrees t = AllByRecursion (λ c. length c ≤ 33) (lists_of t)

-- the entry may follow the one before
pub record IsRightEntry (h : Head) (previous : Option Entry) (e : Entry) : Type 0 where
  pub form : IsEntry e
  pub range : IsInRange h e
  pub order : IsAfter previous e
  pub denominator : IsOverZero e.value → ⊥
  pub degrees : HasSmallDegrees e.value

-- each of the entries may follow the one before it
abbrev pub AreRightEntries : Head → Option Entry → List Entry → Type 0
AreRightEntries h previous [] = Unit {0}
AreRightEntries h previous (e ∷ es) = IsRightEntry h previous e × AreRightEntries h (Some e) es

pub record IsWellFormed (t : TableText) : Type 0 where
  pub head : IsRightHead t.head
  pub entries : AreRightEntries t.head None t.entries

-- ---- what a text gives at a triple

-- the fraction that the entries give the triple, where one names it
abbrev pub constant_at : List Entry → ℕ → ℕ → ℕ → Option FractionText
constant_at [] i j k = None
constant_at (e ∷ es) i j k = if (e.i == i) && (e.j == j) && (e.k == k) then Some e.value else constant_at es i j k
