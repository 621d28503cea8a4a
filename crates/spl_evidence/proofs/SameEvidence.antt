-- Evidence that fits is told by its lines.
use Rattle.std.proofs.Common.{◌≡◌, ℕ, Bool, true, false, suc, ◌+◌, ◌*◌, ◌<◌, List, [], ◌∷◌, ◌++◌, length, get_or, map, None, refl}
use Rattle.std.proofs.Common.{sym, ap, ap₂, ◌∙◌, arith}
use Rattle.std.specs.List.{flat_map, All}
use Rattle.std.proofs.lemmas.List.{append_cancel_right, length-map}
use Rattle.std.proofs.lemmas.List.Elements.{All-head, All-tail, All-from_get_or}
use Rattle.theory_rings.specs.Ops.{Ops, IsElem}
use Rattle.theory_spaces.specs.Tuples.{IsTuple}
use Rattle.theory_fractions.specs.Fraction.{Pair}
use Rattle.theory_tables.specs.Claims.{AreMultipliers}
use Rattle.theory_tables.specs.Split.{IsSquare}
use Rattle.spl_field.specs.declared.small.SmallField.{SmallField}
use Rattle.spl_text.specs.Text.{IsNumber, FractionText}
use Rattle.spl_fraction.specs.FractionsOver.{fractions_over}
use Rattle.spl_fraction.specs.CanonicalWords.{words_of}
use Rattle.spl_evidence.specs.Line.{Line}
use Rattle.spl_evidence.specs.Evidence.{PlaceFits, fractions_line, place_line}
use Rattle.spl_evidence.specs.Evidence.{Fits, multiplier_line, map_line, map_lines, unit_lines, kind_line}
use Rattle.spl_evidence.specs.Evidence.{body_lines, end_line, lines_of}
use Rattle.spl_evidence.specs.declared.evidence.Evidence.{Evidence}
use Rattle.spl_evidence.specs.declared.evidence.Evidence.TheVariants.{Triple, NoIdentity, Central, Ideal, Split}
use Rattle.spl_evidence.specs.declared.evidence.Evidence.TheVariants.{Ramified}
use Rattle.spl_evidence.specs.declared.word.Word.{Word}
use Rattle.spl_evidence.specs.declared.word.Word.TheVariants.{Left, Right, Tuple, Order, Radical, End}
use Rattle.spl_evidence.specs.declared.word.Word.TheVariants.{Triple as TripleWord, NoIdentity as NoIdentityWord}
use Rattle.spl_evidence.specs.declared.word.Word.TheVariants.{Central as CentralWord, Ideal as IdealWord}
use Rattle.spl_evidence.specs.declared.word.Word.TheVariants.{Split as SplitWord, Ramified as RamifiedWord}
use Rattle.spl_evidence.specs.declared.word.Word.TheVariants.{RamifiedInfinity}
use Rattle.spl_fraction.specs.declared.place.Place.{Place}
use Rattle.spl_fraction.specs.declared.place.Place.TheVariants.{Finite, Infinity}
use Rattle.spl_evidence.proofs.RightLines.ElementWords.{words_unique, flat_over}

-- items that are told by what a function gives of them
module _ {X Y : Type 0} (P : X → Type 0) (g : X → Y) (unique : (x y : X) → P x → P y → g x ≡ g y → x ≡ y) where
  pub map_unique : (xs ys : List X) → All P xs → All P ys → map g xs ≡ map g ys → xs ≡ ys
  map_unique [] [] p q e = refl
  map_unique [] (y ∷ ys) p q e = absurd cc
  map_unique (x ∷ xs) [] p q e = absurd cc
  map_unique (x ∷ xs) (y ∷ ys) p q e =
      let heads : g x ≡ g y = cc in
      let tails : map g xs ≡ map g ys = cc in
      ap₂ (λ a b. a ∷ b) (unique x y (All-head P x xs p) (All-head P y ys q) heads)
      (map_unique xs ys (All-tail P x xs p) (All-tail P y ys q) tails)

abbrev head_word : List Line → Word
head_word [] = End
head_word (l ∷ ls) = l.word

abbrev tail_lines : List Line → List Line
tail_lines [] = []
tail_lines (l ∷ ls) = ls

abbrev first_line_of : List Line → Line
first_line_of [] = end_line
first_line_of (l ∷ ls) = l

-- lists of one length are cut from what follows in one way
cut_unique : {X : Type 0} (a b r s : List X) → length a ≡ length b → a ++ r ≡ b ++ s → (a ≡ b) × (r ≡ s)
cut_unique [] [] r s same e = (refl, e)
cut_unique [] (y ∷ b) r s same e = absurd (omega arith)
cut_unique (x ∷ a) [] r s same e = absurd (omega arith)
cut_unique (x ∷ a) (y ∷ b) r s same e =
    let heads : x ≡ y = cc in
    let tails : a ++ r ≡ b ++ s = cc in
    let more = cut_unique a b r s (omega arith) tails in
    (ap₂ (λ u v. u ∷ v) heads more.0, more.1)

-- rows of one length are told by their items one after the other
rows_unique : {X : Type 0} (n : ℕ) (xs ys : List (List X)) → length xs ≡ length ys → All (λ r. length r ≡ n) xs
    → All (λ r. length r ≡ n) ys → flat_map (λ r. r) xs ≡ flat_map (λ r. r) ys → xs ≡ ys
rows_unique n [] [] same p q e = refl
rows_unique n [] (y ∷ ys) same p q e = absurd (omega arith)
rows_unique n (x ∷ xs) [] same p q e = absurd (omega arith)
rows_unique n (x ∷ xs) (y ∷ ys) same p q e =
    let lx = All-head (λ r. length r ≡ n) x xs p in
    let ly = All-head (λ r. length r ≡ n) y ys q in
    let cut = cut_unique x y (flat_map (λ r. r) xs) (flat_map (λ r. r) ys) (lx ∙ sym ly) e in
    ap₂ (λ a b. a ∷ b) cut.0
    (rows_unique n xs ys (omega arith) (All-tail (λ r. length r ≡ n) x xs p) (All-tail (λ r. length r ≡ n) y ys q)
    cut.1)

module _ (f : SmallField) (n : ℕ) (few : IsNumber (n * n)) where
  abbrev K : Ops (Pair ℕ)
  K = fractions_over f

  -- ---- the lines of each sort

  words_list_unique : (a b : List (Pair ℕ)) → All (IsElem K) a → All (IsElem K) b → map words_of a ≡ map words_of b
      → a ≡ b
  words_list_unique a b p q e = map_unique (IsElem K) words_of (words_unique f) a b p q e

  tuple_line_unique : (w : Word) (a b : List (Pair ℕ)) → IsTuple K (n * n) a → IsTuple K (n * n) b
      → fractions_line w a ≡ fractions_line w b → a ≡ b
  tuple_line_unique w a b p q e =
      words_list_unique a b p.of_elements q.of_elements (ap (λ (l : Line). l.fractions) e)

  tuple_lines_unique : (w : Word) (xs ys : List (List (Pair ℕ))) → All (IsTuple K (n * n)) xs
      → All (IsTuple K (n * n)) ys → map (fractions_line w) xs ≡ map (fractions_line w) ys → xs ≡ ys
  tuple_lines_unique w xs ys p q e =
      map_unique (IsTuple K (n * n)) (fractions_line w) (tuple_line_unique w) xs ys p q e

  abbrev number_of_line : ℕ → Line → ℕ
  number_of_line i l = get_or l.numbers i 0

  abbrev fraction_of_line : Line → FractionText
  fraction_of_line l = get_or l.fractions 0 (record { numerator = []; denominator = None })

  multiplier_unique : (side : Word) (x y : ℕ × ℕ × Pair ℕ) → IsElem K x.2 → IsElem K y.2
      → multiplier_line side x ≡ multiplier_line side y → x ≡ y
  multiplier_unique side (j, k, x) (j', k', y) p q e =
      let first : j ≡ j' = ap (number_of_line 0) e in
      let second : k ≡ k' = ap (number_of_line 1) e in
      let words : words_of x ≡ words_of y = ap fraction_of_line e in
      let third : x ≡ y = words_unique f x y p q words in
      ap₂ (λ (a : ℕ) (b : ℕ × Pair ℕ). (a, b.0, b.1)) first (ap₂ (λ (a : ℕ) (b : Pair ℕ). (a, b)) second third)

  elems_of : (xs : List (ℕ × ℕ × Pair ℕ)) → AreMultipliers K (n * n) xs
      → All (λ (x : ℕ × ℕ × Pair ℕ). IsElem K x.2) xs
  elems_of xs h =
      All-from_get_or (λ (x : ℕ × ℕ × Pair ℕ). IsElem K x.2) xs (0, 0, K.zero) (λ s below. h.of_field s below)

  sides_unique : (l l' r r' : List (ℕ × ℕ × Pair ℕ)) → All (λ (x : ℕ × ℕ × Pair ℕ). IsElem K x.2) l
      → All (λ (x : ℕ × ℕ × Pair ℕ). IsElem K x.2) l' → All (λ (x : ℕ × ℕ × Pair ℕ). IsElem K x.2) r
      → All (λ (x : ℕ × ℕ × Pair ℕ). IsElem K x.2) r'
      → map (multiplier_line Left) l ++ map (multiplier_line Right) r
      ≡ map (multiplier_line Left) l' ++ map (multiplier_line Right) r' → (l ≡ l') × (r ≡ r')
  sides_unique [] [] r r' a b c d e = (
    refl,
    map_unique (λ (x : ℕ × ℕ × Pair ℕ). IsElem K x.2) (multiplier_line Right) (multiplier_unique Right) r r'
        c d e,
  )
  sides_unique [] ((j, k, x) ∷ l') [] r' a b c d e = absurd cc
  sides_unique [] ((j, k, x) ∷ l') ((j', k', y) ∷ r) r' a b c d e =
      let words : Right ≡ Left = ap head_word e in absurd cc
  sides_unique ((j, k, x) ∷ l) [] r [] a b c d e = absurd cc
  sides_unique ((j, k, x) ∷ l) [] r ((j', k', y) ∷ r') a b c d e =
      let words : Left ≡ Right = ap head_word e in absurd cc
  sides_unique (x ∷ l) (y ∷ l') r r' a b c d e =
      let heads : multiplier_line Left x ≡ multiplier_line Left y = ap first_line_of e in
      let tails : map (multiplier_line Left) l ++ map (multiplier_line Right) r
      ≡ map (multiplier_line Left) l' ++ map (multiplier_line Right) r' = ap tail_lines e in
      let P : ℕ × ℕ × Pair ℕ → Type 0 = λ x. IsElem K x.2 in
      let more = sides_unique l l' r r' (All-tail P x l a) (All-tail P y l' b) c d tails in
      (ap₂ (λ u v. u ∷ v) (multiplier_unique Left x y (All-head P x l a) (All-head P y l' b) heads) more.0, more.1)

  map_line_unique : (i : ℕ) (x y : List (List (Pair ℕ))) → IsSquare K n x → IsSquare K n y
      → map_line i x ≡ map_line i y → x ≡ y
  map_line_unique i x y p q e =
      let flat = words_list_unique (flat_map (λ r. r) x) (flat_map (λ r. r) y)
      (flat_over f n x p.shape).0 (flat_over f n y q.shape).0 (ap (λ (l : Line). l.fractions) e) in
      rows_unique n x y (p.height ∙ sym q.height) (λ k d below. (p.shape k d below).right_length)
      (λ k d below. (q.shape k d below).right_length) flat

  units_unique : (place : ℕ) (xs ys : List (List (Pair ℕ))) → All (IsTuple K (n * n)) xs → All (IsTuple K (n * n)) ys
      → unit_lines n place xs ≡ unit_lines n place ys → xs ≡ ys
  units_unique place [] [] p q e = refl
  units_unique place [] (y ∷ ys) p q e = absurd cc
  units_unique place (x ∷ xs) [] p q e = absurd cc
  units_unique place (x ∷ xs) (y ∷ ys) p q e =
      let px = All-head (IsTuple K (n * n)) x xs p in
      let qy = All-head (IsTuple K (n * n)) y ys q in
      let words : map words_of x ≡ map words_of y = ap (λ ls. (first_line_of ls).fractions) e in
      ap₂ (λ a b. a ∷ b) (words_list_unique x y px.of_elements qy.of_elements words)
      (units_unique (suc place) xs ys (All-tail (IsTuple K (n * n)) x xs p) (All-tail (IsTuple K (n * n)) y ys q)
      (ap tail_lines e))

  split_unique : (count : ℕ) (xs ys : List (List (List (Pair ℕ)))) (us vs : List Line) → length xs ≡ length ys
      → All (IsSquare K n) xs → All (IsSquare K n) ys → map_lines count xs ++ us ≡ map_lines count ys ++ vs
      → (xs ≡ ys) × (us ≡ vs)
  split_unique count [] [] us vs same p q e = (refl, e)
  split_unique count [] (y ∷ ys) us vs same p q e = absurd (omega arith)
  split_unique count (x ∷ xs) [] us vs same p q e = absurd (omega arith)
  split_unique count (x ∷ xs) (y ∷ ys) us vs same p q e =
      let more = split_unique (suc count) xs ys us vs (omega arith) (All-tail (IsSquare K n) x xs p)
      (All-tail (IsSquare K n) y ys q) (ap tail_lines e) in (
        ap₂ (λ a b. a ∷ b) (map_line_unique (count + 1) x y (All-head (IsSquare K n) x xs p)
            (All-head (IsSquare K n) y ys q) (ap first_line_of e)) more.0,
        more.1,
      )

  place_unique : (p q : Place) → PlaceFits K p → PlaceFits K q → place_line p ≡ place_line q → p ≡ q
  place_unique (Finite a) (Finite b) h g e =
      let words : words_of (a, 1 ∷ []) ≡ words_of (b, 1 ∷ []) = ap fraction_of_line e in
      let same : ◌≡◌ {A = Pair ℕ} (a, 1 ∷ []) (b, 1 ∷ []) =
      words_unique f (a, 1 ∷ []) (b, 1 ∷ []) h.0 g.0 words in
      ap (λ (x : Pair ℕ). Finite x.0) same
  place_unique (Finite a) Infinity h g e = let words : RamifiedWord ≡ RamifiedInfinity = ap (λ (l : Line). l.word) e in
      absurd cc
  place_unique Infinity (Finite b) h g e = let words : RamifiedInfinity ≡ RamifiedWord = ap (λ (l : Line). l.word) e in
      absurd cc
  place_unique Infinity Infinity h g e = refl

  rows_of_places_unique : (os os' rs rs' : List (List (Pair ℕ))) → length os ≡ length os' → All (IsTuple K (n * n)) os
      → All (IsTuple K (n * n)) os' → All (IsTuple K (n * n)) rs → All (IsTuple K (n * n)) rs'
      → map (fractions_line Order) os ++ map (fractions_line Radical) rs
      ≡ map (fractions_line Order) os' ++ map (fractions_line Radical) rs' → (os ≡ os') × (rs ≡ rs')
  rows_of_places_unique os os' rs rs' same p p' q q' e =
      let cut = cut_unique (map (fractions_line Order) os) (map (fractions_line Order) os')
      (map (fractions_line Radical) rs) (map (fractions_line Radical) rs')
      (length-map os (fractions_line Order) ∙ same ∙ sym (length-map os' (fractions_line Order))) e in
      (tuple_lines_unique Order os os' p p' cut.0, tuple_lines_unique Radical rs rs' q q' cut.1)

  -- ---- evidence

  -- the words of places
  abbrev is_place : Word → Bool
  is_place RamifiedWord = true
  is_place RamifiedInfinity = true
  is_place _ = false

  place_word : (p : Place) → is_place (place_line p).word ≡ true
  place_word (Finite p) = refl
  place_word Infinity = refl

  -- a word of another kind is not that of a place
  no_place : (w : Word) (p : Place) → is_place w ≡ false → w ≡ (place_line p).word → ⊥
  no_place w p other e = let both : false ≡ true = sym other ∙ ap is_place e ∙ place_word p in absurd cc

  squares : (maps : List (List (List (Pair ℕ)))) → length maps ≡ n * n
      → ((k : ℕ) → k < n * n → IsSquare K n (get_or maps k [])) → All (IsSquare K n) maps
  squares maps many each = All-from_get_or (IsSquare K n) maps [] (λ k below. each k (omega (arith, many)))

  body_unique : (e g : Evidence) → Fits K n e → Fits K n g → (kind_line e).word ≡ (kind_line g).word
      → kind_line e ≡ kind_line g → body_lines n e ≡ body_lines n g → e ≡ g
  body_unique (Triple i j k) (Triple i' j' k') h q w kind same =
      let a : i ≡ i' = ap (number_of_line 0) kind in
      let b : j ≡ j' = ap (number_of_line 1) kind in
      let c : k ≡ k' = ap (number_of_line 2) kind in
      cc (a, b, c)
  body_unique (NoIdentity l r) (NoIdentity l' r') h q w kind same =
      let both = sides_unique l l' r r' (elems_of l h.0) (elems_of l' q.0) (elems_of r h.1) (elems_of r' q.1) same in
      ap₂ (λ (x y : List (ℕ × ℕ × Pair ℕ)). NoIdentity x y) both.0 both.1
  body_unique (Central a) (Central b) h q w kind same =
      ap (λ (x : List (Pair ℕ)). Central x) (tuple_line_unique Tuple a b h q (ap first_line_of same))
  body_unique (Ideal ts) (Ideal us) h q w kind same =
      ap (λ (x : List (List (Pair ℕ))). Ideal x)
      (tuple_lines_unique Tuple ts us h.2 q.2 same)
  body_unique (Split ms us) (Split ms' us') h q w kind same =
      let both = split_unique 0 ms ms' (unit_lines n 0 us) (unit_lines n 0 us') (h.map_count ∙ sym q.map_count)
      (squares ms h.map_count h.square) (squares ms' q.map_count q.square) same in
      ap₂ (λ (x : List (List (List (Pair ℕ)))) (y : List (List (Pair ℕ))). Split x y) both.0
      (units_unique 0 us us' h.tuples q.tuples both.1)
  body_unique (Ramified p os rs) (Ramified p' os' rs') h q w kind same =
      let both = rows_of_places_unique os os' rs rs' (h.order_count ∙ sym q.order_count) h.order_tuples q.order_tuples
      h.radical_tuples q.radical_tuples same in
      let place = place_unique p p' h.place_fits q.place_fits kind in
      ap (λ (x : Place). Ramified x os rs) place
      ∙ ap₂ (λ (x y : List (List (Pair ℕ))). Ramified p' x y) both.0 both.1
  body_unique (Ramified p os rs) (Triple i j k) h q w kind same = absurd (no_place TripleWord p refl (sym w))
  body_unique (Ramified p os rs) (NoIdentity l r) h q w kind same = absurd (no_place NoIdentityWord p refl (sym w))
  body_unique (Ramified p os rs) (Central a) h q w kind same = absurd (no_place CentralWord p refl (sym w))
  body_unique (Ramified p os rs) (Ideal ts) h q w kind same = absurd (no_place IdealWord p refl (sym w))
  body_unique (Ramified p os rs) (Split ms us) h q w kind same = absurd (no_place SplitWord p refl (sym w))
  body_unique (Triple i j k) (Ramified p os rs) h q w kind same = absurd (no_place TripleWord p refl w)
  body_unique (NoIdentity l r) (Ramified p os rs) h q w kind same = absurd (no_place NoIdentityWord p refl w)
  body_unique (Central a) (Ramified p os rs) h q w kind same = absurd (no_place CentralWord p refl w)
  body_unique (Ideal ts) (Ramified p os rs) h q w kind same = absurd (no_place IdealWord p refl w)
  body_unique (Split ms us) (Ramified p os rs) h q w kind same = absurd (no_place SplitWord p refl w)
  body_unique (Triple i j k) (NoIdentity l' r') h q w kind same = absurd cc
  body_unique (Triple i j k) (Central b) h q w kind same = absurd cc
  body_unique (Triple i j k) (Ideal us) h q w kind same = absurd cc
  body_unique (Triple i j k) (Split ms us) h q w kind same = absurd cc
  body_unique (NoIdentity l r) (Triple i' j' k') h q w kind same = absurd cc
  body_unique (NoIdentity l r) (Central b) h q w kind same = absurd cc
  body_unique (NoIdentity l r) (Ideal us) h q w kind same = absurd cc
  body_unique (NoIdentity l r) (Split ms us) h q w kind same = absurd cc
  body_unique (Central a) (Triple i' j' k') h q w kind same = absurd cc
  body_unique (Central a) (NoIdentity l' r') h q w kind same = absurd cc
  body_unique (Central a) (Ideal us) h q w kind same = absurd cc
  body_unique (Central a) (Split ms us) h q w kind same = absurd cc
  body_unique (Ideal ts) (Triple i' j' k') h q w kind same = absurd cc
  body_unique (Ideal ts) (NoIdentity l' r') h q w kind same = absurd cc
  body_unique (Ideal ts) (Central b) h q w kind same = absurd cc
  body_unique (Ideal ts) (Split ms us) h q w kind same = absurd cc
  body_unique (Split ms us) (Triple i' j' k') h q w kind same = absurd cc
  body_unique (Split ms us) (NoIdentity l' r') h q w kind same = absurd cc
  body_unique (Split ms us) (Central b) h q w kind same = absurd cc
  body_unique (Split ms us) (Ideal ts) h q w kind same = absurd cc

  pub same_evidence : (e g : Evidence) → Fits K n e → Fits K n g → lines_of n e ≡ lines_of n g → e ≡ g
  same_evidence e g h q same =
      let kind : kind_line e ≡ kind_line g = ap first_line_of same in
      let rest : body_lines n e ++ end_line ∷ [] ≡ body_lines n g ++ end_line ∷ [] = ap tail_lines same in
      body_unique e g h q (ap (λ (l : Line). l.word) kind) kind
      (append_cancel_right (body_lines n e) (body_lines n g) (end_line ∷ []) rest)
