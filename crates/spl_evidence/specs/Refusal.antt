-- What the first fault of a text is that is no evidence. The lines before it are right, so each prefix of a text of
-- evidence, and each line that may stand behind it, is told by them.
use Rattle.std.specs.Prelude.{◌≡◌, ◌≢◌, ℕ, suc, ◌+◌, ◌-◌, ◌*◌, ◌<◌, ◌≤◌, ◌==◌, if◌then◌else◌, nat_lt, List, []}
use Rattle.std.specs.Prelude.{◌∷◌, ◌++◌, length, get_or, Option, Some, None, Contains}
use Rattle.std.specs.List.{AllByRecursion}
use Rattle.theory_rings.specs.Ops.{IsElem}
use Rattle.theory_tables.specs.Claims.{PairBefore}
use Rattle.spl_field.specs.SmallField.{size_of}
use Rattle.spl_field.specs.declared.small.SmallField.{SmallField}
use Rattle.spl_text.specs.Text.{FractionText, lists_of, line, Lacks}
use Rattle.theory_fractions.specs.Fraction.{Pair}
use Rattle.spl_fraction.specs.FractionsOver.{fractions_over}
use Rattle.spl_fraction.specs.CanonicalWords.{words_of}
use Rattle.spl_evidence.specs.Line.{Line, HasForm, line_text, lines_text}
use Rattle.spl_evidence.specs.Evidence.{first_line, IsMonicOfPositiveDegree}
use Rattle.spl_evidence.specs.declared.word.Word.{Word}
use Rattle.spl_evidence.specs.declared.word.Word.TheVariants.{Triple, NoIdentity, Central, Ideal, Split, Left, Right}
use Rattle.spl_evidence.specs.declared.word.Word.TheVariants.{Tuple, Map, Unit as UnitTuple, End}
use Rattle.spl_evidence.specs.declared.word.Word.TheVariants.{Ramified, RamifiedInfinity, Order, Radical}
use Rattle.spl_evidence.specs.declared.word.Before.{Before}
use Rattle.spl_evidence.specs.declared.refusal.EvidenceRefusal.{EvidenceRefusal}
use Rattle.spl_evidence.specs.declared.refusal.EvidenceKind.{EvidenceKind}
use Rattle.spl_evidence.specs.declared.refusal.EvidenceKind.TheVariants.{EvHeader, EvNoEnd, EvForm, EvRange, EvOrder}
use Rattle.spl_evidence.specs.declared.refusal.EvidenceKind.TheVariants.{EvTerms, EvAfterEnd}

-- ---- what stands before a line

-- the number at a place of a line
abbrev pub number_at : Line → ℕ → ℕ
number_at l i = get_or l.numbers i 0

-- how many tuples the line of a kind announces
abbrev pub announced : Line → ℕ
announced l = go l.word
  where
    go : Word → ℕ
    go Central = 1
    go Ideal = number_at l 0
    go _ = 0

-- what stands before a line, where this one stands behind these; before the line of a kind nothing does
abbrev pub behind : Option Before → Line → Option Before
behind None l = Some (record { kind = l.word; tuples = announced l; count = 0; last = l.word; j = 0; k = 0 })
behind (Some b) l = Some (record {
  kind = b.kind;
  tuples = b.tuples;
  count = suc b.count;
  last = l.word;
  j = number_at l 0;
  k = number_at l 1;
})

-- ---- which lines may stand there

-- so many lines of one word, and then those of the next
abbrev pub up_to : ℕ → ℕ → Word → List Word → List Word
up_to count most word next = if nat_lt count most then word ∷ [] else next

-- the line `end` behind so many lines, and then nothing
abbrev pub end_at : ℕ → ℕ → List Word
end_at count most = if count == most then End ∷ [] else []

-- among multipliers: no left one stands behind a right one
abbrev pub due_sides : Word → List Word
due_sides NoIdentity = Left ∷ Right ∷ End ∷ []
due_sides Left = Left ∷ Right ∷ End ∷ []
due_sides Right = Right ∷ End ∷ []
due_sides _ = []

-- the m tuples of an order, then those of its radical, then `end`
abbrev pub due_at_place : ℕ → ℕ → List Word
due_at_place m count = up_to count m Order (up_to count (m + m) Radical (end_at count (m + m)))

-- the words of the lines that may come next, over an algebra of dimension m
abbrev pub due_words : ℕ → Option Before → List Word
due_words m None = Triple ∷ NoIdentity ∷ Central ∷ Ideal ∷ Split ∷ Ramified ∷ RamifiedInfinity ∷ []
due_words m (Some b) = go b.kind
  where
    go : Word → List Word
    go NoIdentity = due_sides b.last
    go Split = up_to b.count m Map (up_to b.count (m + m) UnitTuple (end_at b.count (m + m)))
    go Ramified = due_at_place m b.count
    go RamifiedInfinity = due_at_place m b.count
    go _ = up_to b.count b.tuples Tuple (end_at b.count b.tuples)

abbrev pub IsDue : ℕ → Option Before → Word → Type 0
IsDue m before word = Contains (due_words m before) word

abbrev pub NothingIsDue : ℕ → Option Before → Type 0
NothingIsDue m before = (word : Word) → IsDue m before word → ⊥

-- ---- the numbers of a line

-- the greatest number that may follow the word, over an algebra of degree n
abbrev pub greatest : ℕ → Word → ℕ
greatest n Triple = n * n
greatest n Left = n * n
greatest n Right = n * n
greatest n Map = n * n
greatest n Ideal = n * n - 1
greatest n UnitTuple = n
greatest n _ = 0

-- each number is from 1 to the greatest, and each number of a list is an element of the field of q elements
pub record IsInRange (q n : ℕ) (l : Line) : Type 0 where
  pub numbers : AllByRecursion (λ i. (1 ≤ i) × (i ≤ greatest n l.word)) l.numbers
  pub elements : AllByRecursion (λ t. AllByRecursion (AllByRecursion (λ c. c < q)) (lists_of t)) l.fractions

-- the pairs of the multipliers of one side go up, the maps are numbered, and the unit tuples are by rows and columns
abbrev pub NumbersAreInOrder : ℕ → Before → Line → Type 0
NumbersAreInOrder n b l = go l.word
  where
    pair_goes_up : Type 0
    pair_goes_up = PairBefore b.j b.k (number_at l 0) (number_at l 1)

    go : Word → Type 0
    go Left = b.last ≡ Left → pair_goes_up
    go Right = b.last ≡ Right → pair_goes_up
    go Map = number_at l 0 ≡ b.count + 1
    go UnitTuple = (number_at l 0 - 1) * n + number_at l 1 + n * n ≡ b.count + 1
    go _ = Unit {0}

abbrev pub IsInOrder : ℕ → Option Before → Line → Type 0
IsInOrder n None l = Unit {0}
IsInOrder n (Some b) l = NumbersAreInOrder n b l

-- ---- the fractions of a line

-- the words are those of a fraction in lowest terms
abbrev pub IsCanonical : SmallField → FractionText → Type 0
IsCanonical f t = (x : Pair ℕ) × IsElem (fractions_over f) x × (t ≡ words_of x)

-- the fraction `0`
abbrev pub zero_text : FractionText
zero_text = record { numerator = 0 ∷ []; denominator = None }

-- no multiplier is 0, and the polynomial of a place is monic and of degree at least 1
abbrev pub IsAllowed : Word → List FractionText → Type 0
IsAllowed Left ts = ts ≢ zero_text ∷ []
IsAllowed Right ts = ts ≢ zero_text ∷ []
IsAllowed Ramified ts = AllByRecursion (λ t. IsMonicOfPositiveDegree t.numerator) ts
IsAllowed _ ts = Unit {0}

pub record HasTerms (f : SmallField) (l : Line) : Type 0 where
  pub canonical : AllByRecursion (IsCanonical f) l.fractions
  pub allowed : IsAllowed l.word l.fractions

-- ---- right lines

module _ (f : SmallField) (n : ℕ) where
  -- the line may stand there
  pub record IsRight (before : Option Before) (l : Line) : Type 0 where
    pub form : HasForm (n * n) l
    pub due : IsDue (n * n) before l.word
    pub range : IsInRange (size_of f) n l
    pub order : IsInOrder n before l
    pub terms : HasTerms f l

  -- each of the lines may stand behind those before it
  abbrev pub AreRight : Option Before → List Line → Type 0
  AreRight before [] = Unit {0}
  AreRight before (l ∷ ls) = IsRight before l × AreRight (behind before l) ls

  -- what stands before the line that follows these
  abbrev pub behind_all : Option Before → List Line → Option Before
  behind_all before [] = before
  behind_all before (l ∷ ls) = behind_all (behind before l) ls

  -- ---- the fault of the line that follows right lines

  -- the text ends where a line is due
  pub record EndsEarly (before : Option Before) (rest : List ℕ) : Type 0 where
    pub word : Word
    pub due : IsDue (n * n) before word
    pub unfinished : Lacks 10 rest

  -- a finished line, where one is due, that is none of those that are due
  pub record IsNoLine (before : Option Before) (rest : List ℕ) : Type 0 where
    pub word : Word
    pub due : IsDue (n * n) before word
    pub text : List ℕ
    pub after : List ℕ
    pub one_line : Lacks 10 text
    pub next : rest ≡ line text ++ after
    pub no_line : (l : Line) → HasForm (n * n) l → IsDue (n * n) before l.word → text ≢ line_text l

  -- a line that is due, with a fault
  pub record IsLineWith (Fault : Line → Type 0) (before : Option Before) (rest : List ℕ) : Type 0 where
    pub at : Line
    pub after : List ℕ
    pub form : HasForm (n * n) at
    pub due : IsDue (n * n) before at.word
    pub next : rest ≡ line (line_text at) ++ after
    pub fault : Fault at

  -- a byte stands where nothing is due
  pub record IsAfterEnd (before : Option Before) (rest : List ℕ) : Type 0 where
    pub nothing : NothingIsDue (n * n) before
    pub some : rest ≢ []

  abbrev pub LineFault : Option Before → List ℕ → EvidenceKind → Type 0
  LineFault before rest EvHeader = ⊥
  LineFault before rest EvNoEnd = EndsEarly before rest
  LineFault before rest EvForm = IsNoLine before rest
  LineFault before rest EvRange = IsLineWith (λ l. IsInRange (size_of f) n l → ⊥) before rest
  LineFault before rest EvOrder =
      IsLineWith (λ l. IsInRange (size_of f) n l × (IsInOrder n before l → ⊥)) before rest
  LineFault before rest EvTerms =
      IsLineWith (λ l. IsInRange (size_of f) n l × IsInOrder n before l × (HasTerms f l → ⊥)) before rest
  LineFault before rest EvAfterEnd = IsAfterEnd before rest

  -- right lines, the first of which has this number, and then a fault
  pub record IsFaultBehind (before : Option Before) (first : ℕ) (bytes : List ℕ) (at : ℕ)
      (kind : EvidenceKind) : Type 0 where
    pub lines : List Line
    pub rest : List ℕ
    pub right : AreRight before lines
    pub spelled : bytes ≡ lines_text lines ++ rest
    pub at_line : at ≡ first + length lines
    pub fault : LineFault (behind_all before lines) rest kind

  -- the first line is another
  pub record LacksFirst (first : ℕ) (bytes : List ℕ) (at : ℕ) : Type 0 where
    pub at_line : at ≡ first
    pub lacks : (rest : List ℕ) → bytes ≢ first_line ++ rest

  -- the first line is there, and a line behind it is at fault
  pub record IsFaultOfLines (first : ℕ) (bytes : List ℕ) (at : ℕ) (kind : EvidenceKind) : Type 0 where
    pub rest : List ℕ
    pub spelled : bytes ≡ first_line ++ rest
    pub fault : IsFaultBehind None (first + 1) rest at kind

  -- the first fault of a text whose first line has this number
  abbrev pub IsFirstFault : ℕ → List ℕ → ℕ → EvidenceKind → Type 0
  IsFirstFault first bytes at EvHeader = LacksFirst first bytes at
  IsFirstFault first bytes at kind = IsFaultOfLines first bytes at kind

  abbrev pub IsRefusal : ℕ → List ℕ → EvidenceRefusal → Type 0
  IsRefusal first bytes r = IsFirstFault first bytes r.line r.kind
