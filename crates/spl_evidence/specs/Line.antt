-- The lines of evidence behind the first: a word, numbers and fractions, a space before each of these. Each text of a
-- line is that of one line of its word. The polynomial of a place stands as a fraction without a denominator.
use Rattle.std.specs.Prelude.{◌≡◌, ℕ, List, ◌++◌, length, codes, decimal, None}
use Rattle.std.specs.List.{flat_map, AllByRecursion}
use Rattle.spl_text.specs.Text.{line, FractionText, IsFractionText, IsNumber, fraction_text}
use Rattle.spl_evidence.specs.declared.word.Word.{Word}
use Rattle.spl_evidence.specs.declared.word.Word.TheVariants.{Triple, NoIdentity, Central, Ideal, Split, Left, Right}
use Rattle.spl_evidence.specs.declared.word.Word.TheVariants.{Tuple, Map, Unit as UnitTuple, End}
use Rattle.spl_evidence.specs.declared.word.Word.TheVariants.{Ramified, RamifiedInfinity, Order, Radical}

pub record Line : Type 0 where
  pub word : Word
  pub numbers : List ℕ
  pub fractions : List FractionText

abbrev pub word_text : Word → List ℕ
word_text Triple = codes "triple"
word_text NoIdentity = codes "noidentity"
word_text Central = codes "central"
word_text Ideal = codes "ideal"
word_text Split = codes "split"
word_text Ramified = codes "ramified"
word_text RamifiedInfinity = codes "ramified infinity"
word_text Left = codes "left"
word_text Right = codes "right"
word_text Tuple = codes "tuple"
word_text Map = codes "map"
word_text UnitTuple = codes "unit"
word_text Order = codes "order"
word_text Radical = codes "radical"
word_text End = codes "end"

-- how many numbers follow the word
abbrev pub number_count : Word → ℕ
number_count Triple = 3
number_count Ideal = 1
number_count Left = 2
number_count Right = 2
number_count Map = 1
number_count UnitTuple = 2
number_count _ = 0

-- how many fractions follow them, over an algebra of dimension m
abbrev pub fraction_count : ℕ → Word → ℕ
fraction_count m Left = 1
fraction_count m Right = 1
fraction_count m Ramified = 1
fraction_count m Tuple = m
fraction_count m Map = m
fraction_count m UnitTuple = m
fraction_count m Order = m
fraction_count m Radical = m
fraction_count m _ = 0

-- what follows the word of a ramified place is a list, as that of a polynomial, and no quotient of two
abbrev pub HasLists : Word → List FractionText → Type 0
HasLists Ramified ts = AllByRecursion (λ t. t.denominator ≡ None) ts
HasLists _ ts = Unit {0}

-- the numbers and fractions have the form that they have in a table, and are as many as the word wants
pub record HasForm (m : ℕ) (l : Line) : Type 0 where
  pub number_count : length l.numbers ≡ number_count l.word
  pub numbers : AllByRecursion IsNumber l.numbers
  pub fraction_count : length l.fractions ≡ fraction_count m l.word
  pub fractions : AllByRecursion IsFractionText l.fractions
  pub lists : HasLists l.word l.fractions

-- ---- how it is spelled

abbrev pub numbers_text : List ℕ → List ℕ
numbers_text ns = flat_map (λ n. codes " " ++ decimal n) ns

abbrev pub fractions_text : List FractionText → List ℕ
fractions_text ts = flat_map (λ t. codes " " ++ fraction_text t) ts

abbrev pub line_text : Line → List ℕ
line_text l = word_text l.word ++ (numbers_text l.numbers ++ fractions_text l.fractions)

abbrev pub lines_text : List Line → List ℕ
lines_text ls = flat_map (λ l. line (line_text l)) ls
