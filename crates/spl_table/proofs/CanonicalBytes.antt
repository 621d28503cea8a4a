-- The canonical text of a table is text, within the limit of a table text.
use Rattle.std.proofs.Common.{◌≡◌, ℕ, zero, suc, ◌+◌, ◌-◌, ◌*◌, ◌^◌, ◌<◌, ◌≤◌, ◌&&◌, ◌||◌, Bool, true, leb, eqb, List}
use Rattle.std.proofs.Common.{[], ◌∷◌, ◌++◌, length, Option, Some, None, refl, inl, inr, lit<, arith}
use Rattle.std.proofs.Common.{length-append}
use Rattle.std.specs.Prelude.{codes, decimal}
use Rattle.std.specs.List.{flat_map, list_all, AllByRecursion}
use Rattle.std.specs.Str.Parse.{AllDigits, digits_value}
use Rattle.std.proofs.lemmas.Bool.{cases_lt, and_parts, or_cases, leb-true, eqb-true}
use Rattle.std.proofs.lemmas.List.{get_or_append_left, get_or-append_right}
use Rattle.std.proofs.lemmas.Fmt.{digits_decimal, length-decimal-le}
use Rattle.std.proofs.lemmas.Str.Parse.{IsNumeralModel, digit_at}
use Rattle.spl_text.specs.Text.{IsTextByte, IsText, FractionText, numbers_text, fraction_text, lists_of}
use Rattle.spl_table.specs.TableText.{Entry, Head, first_line, field_line, degree_line, head_lines, entry_line}
use Rattle.spl_table.specs.TableText.{end_line, spelling, TableText}

-- text of at most so many bytes
pub record IsPiece (most : ℕ) (bytes : List ℕ) : Type 0 where
  pub text : IsText bytes
  pub short : length bytes ≤ most

pub IsText-append : (xs ys : List ℕ) → IsText xs → IsText ys → IsText (xs ++ ys)
IsText-append xs ys left right i below =
    elim (cases_lt i (length xs)) [
      | inl within ↦ rw (get_or_append_left xs ys 0 i within) (left i within)
      | inr past ↦ rw (get_or-append_right xs ys (length xs) i 0 refl past)
          (right (i - length xs) (omega (arith, length-append xs ys)))
    ]

pub IsPiece-append : (a b : ℕ) (xs ys : List ℕ) → IsPiece a xs → IsPiece b ys → IsPiece (a + b) (xs ++ ys)
IsPiece-append a b xs ys left right = record {
  text = IsText-append xs ys left.text right.text;
  short = omega (arith, length-append xs ys, left.short, right.short);
}

pub IsPiece-more : (a b : ℕ) (xs : List ℕ) → a ≤ b → IsPiece a xs → IsPiece b xs
IsPiece-more a b xs le piece = record { text = piece.text; short = omega (arith, le, piece.short) }

-- a literal word, by computation
abbrev is_text_byte : ℕ → Bool
is_text_byte b = (leb 32 b && leb b 126) || eqb b 10

byte_from_test : (b : ℕ) → is_text_byte b ≡ true → IsTextByte b
byte_from_test b test =
    elim (or_cases (leb 32 b && leb b 126) (eqb b 10) test) [
      | inl printed ↦ let both = and_parts (leb 32 b) (leb b 126) printed in
          inl (leb-true 32 b both.0, leb-true b 126 both.1)
      | inr newline ↦ inr (eqb-true b 10 newline)
    ]

text_from_test : (word : List ℕ) → list_all is_text_byte word ≡ true → IsText word
text_from_test [] test i below = absurd (omega arith)
text_from_test (b ∷ word) test zero below =
    byte_from_test b (and_parts (is_text_byte b) (list_all is_text_byte word) test).0
text_from_test (b ∷ word) test (suc i) below =
    text_from_test word (and_parts (is_text_byte b) (list_all is_text_byte word) test).1 i (omega arith)

literal : (word : List ℕ) → list_all is_text_byte word ≡ true → IsPiece (length word) word
literal word test = record { text = text_from_test word test; short = omega arith }

-- ---- numbers

digits : IsNumeralModel (AllDigits 10) (digits_value 10)
digits = record { to = λ ds all. all; from = λ ds all. all; same = λ ds all. refl }

IsPiece-decimal : (n : ℕ) → n < 1000 → IsPiece 3 (decimal n)
IsPiece-decimal n below =
    let small : n < 2 ^ 64 = omega arith in
    let three : n < 10 ^ 3 = omega arith in
    record {
      text = λ i within. let range = digit_at (decimal n) i (digits_decimal digits n small) within in
          inl (omega (arith, range.0, range.1), omega (arith, range.0, range.1));
      short = length-decimal-le 3 n (lit< tt) three small;
    }

IsPiece-numbers : (ns : List ℕ) → AllByRecursion (λ n. n < 1000) ns → IsPiece (4 * length ns) (numbers_text ns)
IsPiece-numbers [] each = record { text = λ i below. absurd (omega arith); short = omega arith }
IsPiece-numbers (n ∷ []) each = IsPiece-more 3 4 (decimal n) (omega arith) (IsPiece-decimal n each.0)
IsPiece-numbers (n ∷ m ∷ ms) each =
    let rest = IsPiece-numbers (m ∷ ms) each.1 in
    let first = IsPiece-append 3 1 (decimal n) (codes ",") (IsPiece-decimal n each.0) (literal (codes ",") refl) in
    IsPiece-more (4 + 4 * length (m ∷ ms)) (4 * length (n ∷ m ∷ ms)) (decimal n ++ codes "," ++ numbers_text (m ∷ ms))
    (omega arith)
    (IsPiece-append 4 (4 * length (m ∷ ms)) (decimal n ++ codes ",") (numbers_text (m ∷ ms)) first rest)

-- ---- an entry

-- numbers below 1000, at most 33 of them
pub record IsShortList (ns : List ℕ) : Type 0 where
  pub few : length ns ≤ 33
  pub each : AllByRecursion (λ n. n < 1000) ns

short_list : (ns : List ℕ) → IsShortList ns → IsPiece 132 (numbers_text ns)
short_list ns is =
    IsPiece-more (4 * length ns) 132 (numbers_text ns) (omega (arith, is.few)) (IsPiece-numbers ns is.each)

IsPiece-fraction : (u : List ℕ) (d : Option (List ℕ))
    → AllByRecursion IsShortList (lists_of (record { numerator = u; denominator = d }))
    → IsPiece 265 (fraction_text (record { numerator = u; denominator = d }))
IsPiece-fraction u None short =
    IsPiece-append 132 133 (numbers_text u) [] (short_list u short.0)
    (record { text = λ i below. absurd (omega arith); short = omega arith })
IsPiece-fraction u (Some v) short =
    IsPiece-append 132 133 (numbers_text u) (codes "/" ++ numbers_text v) (short_list u short.0)
    (IsPiece-append 1 132 (codes "/") (numbers_text v) (literal (codes "/") refl) (short_list v short.1.0))

-- the numbers of an entry are short
pub record IsShortEntry (e : Entry) : Type 0 where
  pub i : e.i < 1000
  pub j : e.j < 1000
  pub k : e.k < 1000
  pub lists : AllByRecursion IsShortList (lists_of e.value)

index_word : (n : ℕ) → n < 1000 → IsPiece 4 (decimal n ++ codes " ")
index_word n below =
    IsPiece-append 3 1 (decimal n) (codes " ") (IsPiece-decimal n below) (literal (codes " ") refl)

pub IsPiece-entry : (e : Entry) → IsShortEntry e → IsPiece 278 (entry_line e)
IsPiece-entry e is =
    let f : FractionText = e.value in
    let one = index_word e.i is.i in
    let two = IsPiece-append 7 1 (decimal e.i ++ codes " " ++ decimal e.j) (codes " ")
    (IsPiece-append 4 3 (decimal e.i ++ codes " ") (decimal e.j) one (IsPiece-decimal e.j is.j))
    (literal (codes " ") refl) in
    let three = IsPiece-append 11 1 (decimal e.i ++ codes " " ++ decimal e.j ++ codes " " ++ decimal e.k) (codes " ")
    (IsPiece-append 8 3 (decimal e.i ++ codes " " ++ decimal e.j ++ codes " ") (decimal e.k) two
    (IsPiece-decimal e.k is.k)) (literal (codes " ") refl) in
    IsPiece-append 277 1
    (decimal e.i ++ codes " " ++ decimal e.j ++ codes " " ++ decimal e.k ++ codes " " ++ fraction_text f) (10 ∷ [])
    (IsPiece-append 12 265 (decimal e.i ++ codes " " ++ decimal e.j ++ codes " " ++ decimal e.k ++ codes " ")
    (fraction_text f) three (IsPiece-fraction f.numerator f.denominator is.lists))
    (literal (10 ∷ []) refl)

IsPiece-entries : (es : List Entry) → AllByRecursion IsShortEntry es
    → IsPiece (278 * length es) (flat_map entry_line es)
IsPiece-entries [] each = record { text = λ i below. absurd (omega arith); short = omega arith }
IsPiece-entries (e ∷ es) each =
    IsPiece-more (278 + 278 * length es) (278 * length (e ∷ es)) (entry_line e ++ flat_map entry_line es) (omega arith)
    (IsPiece-append 278 (278 * length es) (entry_line e) (flat_map entry_line es) (IsPiece-entry e each.0)
    (IsPiece-entries es each.1))

-- ---- the whole

-- the numbers of a head are short
pub record IsShortHead (h : Head) : Type 0 where
  pub characteristic : h.characteristic < 1000
  pub modulus : AllByRecursion (λ n. n < 1000) h.modulus
  pub few : length h.modulus ≤ 256
  pub degree : h.degree < 1000

field_piece : (p : ℕ) (m : List ℕ) → p < 1000 → AllByRecursion (λ n. n < 1000) m → length m ≤ 256
    → IsPiece 1035 (field_line p m)
field_piece p m small each few =
    IsPiece-append 1034 1 (codes "field " ++ decimal p ++ codes " " ++ numbers_text m) (10 ∷ [])
    (IsPiece-append 10 1024 (codes "field " ++ decimal p ++ codes " ") (numbers_text m)
    (IsPiece-append 9 1 (codes "field " ++ decimal p) (codes " ")
    (IsPiece-append 6 3 (codes "field ") (decimal p) (literal (codes "field ") refl) (IsPiece-decimal p small))
    (literal (codes " ") refl))
    (IsPiece-more (4 * length m) 1024 (numbers_text m) (omega (arith, few)) (IsPiece-numbers m each)))
    (literal (10 ∷ []) refl)

degree_piece : (n : ℕ) → n < 1000 → IsPiece 11 (degree_line n)
degree_piece n small =
    IsPiece-append 10 1 (codes "degree " ++ decimal n) (10 ∷ [])
    (IsPiece-append 7 3 (codes "degree ") (decimal n) (literal (codes "degree ") refl) (IsPiece-decimal n small))
    (literal (10 ∷ []) refl)

head_piece : (h : Head) → IsShortHead h → IsPiece 1058 (head_lines h)
head_piece h is =
    IsPiece-append 1047 11 (first_line ++ field_line h.characteristic h.modulus) (degree_line h.degree)
    (IsPiece-append 12 1035 first_line (field_line h.characteristic h.modulus) (literal first_line refl)
    (field_piece h.characteristic h.modulus is.characteristic is.modulus is.few))
    (degree_piece h.degree is.degree)

pub IsPiece-spelling : (t : TableText) → IsShortHead t.head → AllByRecursion IsShortEntry t.entries
    → IsPiece (1062 + 278 * length t.entries) (spelling t)
IsPiece-spelling t head entries =
    IsPiece-more (1058 + 278 * length t.entries + 4) (1062 + 278 * length t.entries) (spelling t) (omega arith)
    (IsPiece-append (1058 + 278 * length t.entries) 4 (head_lines t.head ++ flat_map entry_line t.entries) end_line
    (IsPiece-append 1058 (278 * length t.entries) (head_lines t.head) (flat_map entry_line t.entries)
    (head_piece t.head head) (IsPiece-entries t.entries entries))
    (literal end_line refl))
