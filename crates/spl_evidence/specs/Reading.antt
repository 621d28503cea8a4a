-- What the parts of the reader answer. Contracts of private functions alone cite it.
use Rattle.std.specs.Prelude.{◌≡◌, ◌⊎◌, ◌↔◌, ◌+◌, ◌*◌, ◌<◌, ◌≤◌, ℕ, IsTrue, List, [], ◌∷◌, ◌++◌, length, Option, Some}
use Rattle.std.specs.List.{AllByRecursion}
use Rattle.spl_text.specs.Text.{FractionText, lists_of}
use Rattle.spl_field.specs.SmallField.{size_of}
use Rattle.spl_field.specs.declared.small.SmallField.{SmallField}
use Rattle.spl_fraction.specs.FractionsOver.{fractions_over}
use Rattle.spl_evidence.specs.Line.{Line, HasForm, fraction_count, fractions_text, line_text, lines_text}
use Rattle.spl_evidence.specs.Evidence.{Fits, kind_line, body_lines, end_line}
use Rattle.spl_evidence.specs.Refusal.{due_words, IsDue, IsInRange, IsInOrder, IsAllowed, AreRight, behind_all}
use Rattle.spl_evidence.specs.Refusal.{IsFaultBehind}
use Rattle.spl_evidence.specs.declared.evidence.Evidence.{Evidence}
use Rattle.spl_evidence.specs.declared.word.Word.{Word}
use Rattle.spl_evidence.specs.declared.word.Before.{Before}
use Rattle.spl_evidence.specs.declared.refusal.EvidenceKind.{EvidenceKind}
use Rattle.spl_evidence.specs.declared.refusal.EvidenceFault.{EvidenceFault}
use Rattle.spl_evidence.specs.declared.refusal.EvidenceFault.TheVariants.{Refused, Memory}
use Rattle.spl_evidence.specs.declared.line.LineWords.{LineWords}
use Rattle.spl_evidence.specs.declared.reader.Reader.{Reader}

-- a word of a line ends where the line does, or at a space
abbrev pub EndsWord : List ℕ → Type 0
EndsWord rest = (rest ≡ []) ⊎ ((after : List ℕ) × (rest ≡ 32 ∷ after))

-- these are the words of the line, and it is told whether each number of a list is below q
pub record IsLineOf (q : ℕ) (l : Line) (w : LineWords) : Type 0 where
  pub word : w.word ≡ l.word
  pub numbers : w.numbers ≡ l.numbers
  pub fractions : w.fractions.now ≡ fractions_text l.fractions
  pub elements : IsTrue w.elements
      ↔ AllByRecursion (λ t. AllByRecursion (AllByRecursion (λ c. c < q)) (lists_of t)) l.fractions

-- what holds of the line and the kind, unless memory ran out
abbrev pub IfRefused : EvidenceFault → (ℕ → EvidenceKind → Type 0) → Type 0
IfRefused (Refused refusal) P = P refusal.line refusal.kind
IfRefused Memory P = Unit {0}

-- the text is a line that may stand there, but for the terms of its fractions, and these are its words
pub record IsReadAt (f : SmallField) (n : ℕ) (before : Option Before) (text : List ℕ) (w : LineWords) : Type 0 where
  pub line : Line
  pub form : HasForm (n * n) line
  pub due : IsDue (n * n) before line.word
  pub range : IsInRange (size_of f) n line
  pub order : IsInOrder n before line
  pub spelled : text ≡ line_text line
  pub words : IsLineOf (size_of f) line w

-- ---- a reader among the lines

-- the reader has read these lines, which are right where they stand
pub record Reads (f : SmallField) (n : ℕ) (old : Reader) (lines : List Line) (new : Reader) : Type 0 where
  pub right : AreRight f n old.before lines
  pub spelled : old.rest.now ≡ lines_text lines ++ new.rest.now
  pub number : new.number ≡ old.number + length lines
  pub before : new.before ≡ behind_all f n old.before lines

-- right lines, the first of which the reader stands at, and then a fault
abbrev pub IsFaultFrom : SmallField → ℕ → Reader → ℕ → EvidenceKind → Type 0
IsFaultFrom f n r at kind = IsFaultBehind f n r.before r.number r.rest.now at kind

-- so many lines stand behind the line of this kind, which announces so many tuples
pub record StandsBehind (kind : Word) (tuples count : ℕ) (before : Option Before) : Type 0 where
  pub last : Word
  pub j : ℕ
  pub k : ℕ
  pub is : before ≡ Some (record { kind = kind; tuples = tuples; count = count; last = last; j = j; k = k })

-- so many lines more can be counted
pub record HasRoomFor (lines : ℕ) (r : Reader) : Type 0 where
  pub number : r.number + lines ≤ 4294967295
  pub count : (b : Before) → r.before ≡ Some b → b.count + lines ≤ 4294967295

-- one line more can be counted
pub record HasRoom (r : Reader) : Type 0 where
  pub number : r.number < 4294967295
  pub count : (b : Before) → r.before ≡ Some b → b.count < 4294967295

-- ---- lines of tuples

-- m fractions follow the word, of which each may be any
pub record TakesTuple (m : ℕ) (word : Word) : Type 0 where
  pub count : fraction_count m word ≡ m
  pub allowed : (ts : List FractionText) → IsAllowed word ts

-- so many lines of this word are due
abbrev pub AreDue : SmallField → ℕ → Word → ℕ → Option Before → Type 0
AreDue f n word count before = (lines : List Line) → length lines < count
    → due_words (n * n) (behind_all f n before lines) ≡ word ∷ []

-- ---- evidence behind the line of its kind

-- the evidence fits and has the line of this kind, and its other lines are the rest of the text
pub record IsBehindKind (f : SmallField) (n : ℕ) (first : Line) (rest : List ℕ) (e : Evidence) : Type 0 where
  pub fits : Fits (fractions_over f) n e
  pub kind : kind_line e ≡ first
  pub spelled : rest ≡ lines_text (body_lines n e ++ end_line ∷ [])
