-- The evidence text: which evidence fits an algebra, and how it is spelled. Each evidence has one text.
use Rattle.std.specs.Prelude.{◌≡◌, ◌≤◌, ℕ, suc, ◌+◌, ◌-◌, ◌*◌, ◌/◌, ◌%◌, List, [], ◌∷◌, ◌++◌, length, get_or, map}
use Rattle.std.specs.Prelude.{codes}
use Rattle.std.specs.List.{flat_map}
use Rattle.theory_rings.specs.Ops.{Ops, IsElem}
use Rattle.spl_text.specs.Text.{line}
use Rattle.theory_fractions.specs.Fraction.{Pair}
use Rattle.spl_fraction.specs.CanonicalWords.{words_of}
use Rattle.spl_fraction.specs.declared.place.Place.{Place}
use Rattle.spl_fraction.specs.declared.place.Place.TheVariants.{Finite, Infinity}
use Rattle.theory_tables.specs.Matrix.{IsMatrix}
use Rattle.theory_tables.specs.Claims.{TripleFits, NoIdentityFits, CentralFits, IdealFits, SplitFits}
use Rattle.spl_evidence.specs.Line.{Line, lines_text}
use Rattle.spl_evidence.specs.declared.word.Word.{Word}
use Rattle.spl_evidence.specs.declared.word.Word.TheVariants.{Triple as TripleWord, NoIdentity as NoIdentityWord}
use Rattle.spl_evidence.specs.declared.word.Word.TheVariants.{Central as CentralWord, Ideal as IdealWord}
use Rattle.spl_evidence.specs.declared.word.Word.TheVariants.{Split as SplitWord, Left, Right, Tuple, Map}
use Rattle.spl_evidence.specs.declared.word.Word.TheVariants.{Unit as UnitTuple, End}
use Rattle.spl_evidence.specs.declared.word.Word.TheVariants.{Ramified as RamifiedWord, RamifiedInfinity, Order, Radical}
use Rattle.spl_evidence.specs.declared.evidence.Evidence.{Evidence}
use Rattle.spl_evidence.specs.declared.evidence.Evidence.TheVariants.{Triple, NoIdentity, Central, Ideal, Split, Ramified}

-- the numbers are those of a monic polynomial of degree at least 1
pub record IsMonicOfPositiveDegree (p : List ℕ) : Type 0 where
  pub positive : 2 ≤ length p
  pub monic : get_or p (length p - 1) 0 ≡ 1

module _ (o : Ops (Pair ℕ)) where
  -- the place is infinity, or a monic polynomial of degree at least 1 over the field of the fractions
  abbrev pub PlaceFits : Place → Type 0
  PlaceFits (Finite p) = IsElem o (p, 1 ∷ []) × IsMonicOfPositiveDegree p
  PlaceFits Infinity = Unit {0}

  -- as many tuples of m fractions each for the order, and for the radical
  pub record RamifiedFits (m : ℕ) (place : Place) (order radical : List (List (Pair ℕ))) : Type 0 where
    pub place_fits : PlaceFits place
    pub order_count : length order ≡ m
    pub order_tuples : IsMatrix o m order
    pub radical_count : length radical ≡ m
    pub radical_tuples : IsMatrix o m radical

-- the evidence speaks of an algebra of degree n, and so of dimension n², over these fractions
abbrev pub Fits : Ops (Pair ℕ) → ℕ → Evidence → Type 0
Fits o n (Triple i j k) = TripleFits (n * n) i j k
Fits o n (NoIdentity left right) = NoIdentityFits o (n * n) left right
Fits o n (Central tuple) = CentralFits o (n * n) tuple
Fits o n (Ideal tuples) = IdealFits o (n * n) tuples
Fits o n (Split maps units) = SplitFits o (n * n) n maps units
Fits o n (Ramified place order radical) = RamifiedFits o (n * n) place order radical

-- ---- its lines behind the first

-- the word, and the fractions of a tuple: `tuple F_1 .. F_m`, `order F_1 .. F_m` or `radical F_1 .. F_m`
abbrev pub fractions_line : Word → List (Pair ℕ) → Line
fractions_line word a = record { word = word; numbers = []; fractions = map words_of a }

abbrev pub tuple_line : List (Pair ℕ) → Line
tuple_line = fractions_line Tuple

-- `left J K F` or `right J K F`
abbrev pub multiplier_line : Word → ℕ × ℕ × Pair ℕ → Line
multiplier_line side (j, k, x) = record { word = side; numbers = j ∷ k ∷ []; fractions = words_of x ∷ [] }

-- `map I F_11 .. F_nn`, row by row
abbrev pub map_line : ℕ → List (List (Pair ℕ)) → Line
map_line i x = record { word = Map; numbers = i ∷ []; fractions = map words_of (flat_map (λ row. row) x) }

-- the matrices that stand behind so many others
abbrev pub map_lines : ℕ → List (List (List (Pair ℕ))) → List Line
map_lines count [] = []
map_lines count (x ∷ xs) = map_line (count + 1) x ∷ map_lines (suc count) xs

-- `unit R S F_1 .. F_m`
abbrev pub unit_line : ℕ → ℕ → List (Pair ℕ) → Line
unit_line r s a = record { word = UnitTuple; numbers = r ∷ s ∷ []; fractions = map words_of a }

-- the tuples of the matrix units of size n, row by row, that stand behind so many others
abbrev pub unit_lines : ℕ → ℕ → List (List (Pair ℕ)) → List Line
unit_lines n count [] = []
unit_lines n count (a ∷ rest) = unit_line (count / n + 1) (count % n + 1) a ∷ unit_lines n (suc count) rest

-- `ramified` and the list of the polynomial, or `ramified infinity`
abbrev pub place_line : Place → Line
place_line (Finite p) = record { word = RamifiedWord; numbers = []; fractions = words_of (p, 1 ∷ []) ∷ [] }
place_line Infinity = record { word = RamifiedInfinity; numbers = []; fractions = [] }

-- the line of the kind
abbrev pub kind_line : Evidence → Line
kind_line (Triple i j k) = record { word = TripleWord; numbers = i ∷ j ∷ k ∷ []; fractions = [] }
kind_line (NoIdentity left right) = record { word = NoIdentityWord; numbers = []; fractions = [] }
kind_line (Central tuple) = record { word = CentralWord; numbers = []; fractions = [] }
kind_line (Ideal tuples) = record { word = IdealWord; numbers = length tuples ∷ []; fractions = [] }
kind_line (Split maps units) = record { word = SplitWord; numbers = []; fractions = [] }
kind_line (Ramified place order radical) = place_line place

-- those between it and the line `end`
abbrev pub body_lines : ℕ → Evidence → List Line
body_lines n (Triple i j k) = []
body_lines n (NoIdentity left right) = map (multiplier_line Left) left ++ map (multiplier_line Right) right
body_lines n (Central tuple) = tuple_line tuple ∷ []
body_lines n (Ideal tuples) = map tuple_line tuples
body_lines n (Split maps units) = map_lines 0 maps ++ unit_lines n 0 units
body_lines n (Ramified place order radical) = map (fractions_line Order) order ++ map (fractions_line Radical) radical

abbrev pub end_line : Line
end_line = record { word = End; numbers = []; fractions = [] }

abbrev pub lines_of : ℕ → Evidence → List Line
lines_of n e = kind_line e ∷ body_lines n e ++ end_line ∷ []

-- ---- its text

abbrev pub first_line : List ℕ
first_line = line (codes "spl-evidence 1")

abbrev pub evidence_text : ℕ → Evidence → List ℕ
evidence_text n e = first_line ++ lines_text (lines_of n e)

-- the bytes are the text of the evidence, which fits
pub record IsEvidenceText (o : Ops (Pair ℕ)) (n : ℕ) (bytes : List ℕ) (e : Evidence) : Type 0 where
  pub fits : Fits o n e
  pub spelled : bytes ≡ evidence_text n e
