-- The text of a line: what it lacks, and that it is that of one line.
use Rattle.std.proofs.Common.{◌≡◌, ◌⊎◌, ℕ, ◌+◌, ◌*◌, ◌<◌, cond, eqb, List, [], ◌∷◌, ◌++◌, length, get_or, refl, sym, ap}
use Rattle.std.proofs.Common.{ap₂, subst, ◌∙◌, inl, inr, arith, append_assoc, append-nil}
use Rattle.std.specs.Prelude.{codes, decimal}
use Rattle.std.specs.List.{flat_map, AllByRecursion}
use Rattle.spl_text.specs.Text.{Lacks, IsNumber, FractionText, IsFractionText, fraction_text}
use Rattle.spl_text.proofs.Words.{Lacks-from_test, Lacks-cons, Lacks-append, Lacks-decimal, not_within, split_unique}
use Rattle.spl_text.proofs.Words.{number_unique}
use Rattle.spl_text.proofs.Fractions.{Lacks-fraction_text, fraction_unique}
use Rattle.spl_evidence.specs.Reading.{EndsWord}
use Rattle.spl_evidence.specs.Line.{Line, word_text, number_count, fraction_count, numbers_text}
use Rattle.spl_evidence.specs.Line.{fractions_text, line_text, HasForm}
use Rattle.std.proofs.lemmas.List.{append_cancel_left}
use Rattle.spl_evidence.specs.declared.word.Word.{Word}
use Rattle.spl_evidence.specs.declared.word.Word.TheVariants.{Triple, NoIdentity, Central, Ideal, Split, Left, Right}
use Rattle.spl_evidence.specs.declared.word.Word.TheVariants.{Tuple, Map, Unit as UnitTuple, End}
use Rattle.spl_evidence.specs.declared.word.Word.TheVariants.{Ramified, RamifiedInfinity, Order, Radical}
use Rattle.spl_evidence.proofs.PlaceTexts.{no_infinity}

-- ---- words behind one another, a space before each

-- a word ends at the space of the next
pub word_and_rest : (u v r s : List ℕ) → Lacks 32 u → Lacks 32 v → EndsWord r → EndsWord s → u ++ r ≡ v ++ s
    → (u ≡ v) × (r ≡ s)
word_and_rest u v r s lu lv (inl er) (inl es) e =
    (sym (append-nil u) ∙ ap (λ t. u ++ t) (sym er) ∙ e ∙ ap (λ t. v ++ t) es ∙ append-nil v, er ∙ sym es)
word_and_rest u v r s lu lv (inl er) (inr (after, es)) e =
    absurd (not_within 32 u v after
    (sym (append-nil u) ∙ ap (λ t. u ++ t) (sym er) ∙ e ∙ ap (λ t. v ++ t) es) lu)
word_and_rest u v r s lu lv (inr (after, er)) (inl es) e =
    absurd (not_within 32 v u after
    (sym (append-nil v) ∙ ap (λ t. v ++ t) (sym es) ∙ sym e ∙ ap (λ t. u ++ t) er) lv)
word_and_rest u v r s lu lv (inr (x, er)) (inr (y, es)) e =
    let cut = split_unique 32 u v x y lu lv (ap (λ t. u ++ t) (sym er) ∙ e ∙ ap (λ t. v ++ t) es) in
    (cut.0, er ∙ ap (λ t. 32 ∷ t) cut.1 ∙ sym es)

module _ {X : Type 0} (text : X → List ℕ) (P : X → Type 0) (lacks : (x : X) → P x → Lacks 32 (text x))
    (unique : (x y : X) → P x → P y → text x ≡ text y → x ≡ y) where
  abbrev spaced : List X → List ℕ
  spaced xs = flat_map (λ x. 32 ∷ text x) xs

  EndsWord-spaced : (xs : List X) (rest : List ℕ) → EndsWord rest → EndsWord (spaced xs ++ rest)
  EndsWord-spaced [] rest ends = ends
  EndsWord-spaced (x ∷ xs) rest ends =
      inr (text x ++ (spaced xs ++ rest), append_assoc (32 ∷ text x) (spaced xs) rest)

  -- as many words are the same words
  pub spaced_unique : (xs ys : List X) (r s : List ℕ) → length xs ≡ length ys → AllByRecursion P xs
      → AllByRecursion P ys → EndsWord r → EndsWord s → spaced xs ++ r ≡ spaced ys ++ s → (xs ≡ ys) × (r ≡ s)
  spaced_unique [] [] r s same p q er es e = (refl, e)
  spaced_unique [] (y ∷ ys) r s same p q er es e = absurd (omega arith)
  spaced_unique (x ∷ xs) [] r s same p q er es e = absurd (omega arith)
  spaced_unique (x ∷ xs) (y ∷ ys) r s same p q er es e =
      let whole : 32 ∷ (text x ++ (spaced xs ++ r)) ≡ 32 ∷ (text y ++ (spaced ys ++ s)) =
      sym (append_assoc (32 ∷ text x) (spaced xs) r) ∙ e ∙ append_assoc (32 ∷ text y) (spaced ys) s in
      let tails : text x ++ (spaced xs ++ r) ≡ text y ++ (spaced ys ++ s) = cc in
      let cut = word_and_rest (text x) (text y) (spaced xs ++ r) (spaced ys ++ s) (lacks x p.0) (lacks y q.0)
      (EndsWord-spaced xs r er) (EndsWord-spaced ys s es) tails in
      let more = spaced_unique xs ys r s (omega arith) p.1 q.1 er es cut.1 in
      (ap₂ (λ a b. a ∷ b) (unique x y p.0 q.0 cut.0) more.0, more.1)

-- no separator below the space stands in them
pub Lacks-spaced : {X : Type 0} (text : X → List ℕ) (P : X → Type 0) → ((x : X) → P x → Lacks 10 (text x))
    → (xs : List X) → AllByRecursion P xs → Lacks 10 (flat_map (λ x. 32 ∷ text x) xs)
Lacks-spaced text P lacks [] p = λ i below. absurd (omega arith)
Lacks-spaced text P lacks (x ∷ xs) p =
    Lacks-append 10 (32 ∷ text x) (flat_map (λ y. 32 ∷ text y) xs)
    (Lacks-cons 10 32 (text x) (λ e. omega arith) (lacks x p.0)) (Lacks-spaced text P lacks xs p.1)

-- ---- numbers and fractions

number_lacks : (separator n : ℕ) → separator < 48 → IsNumber n → Lacks separator (decimal n)
number_lacks separator n low is = Lacks-decimal separator n low is

pub EndsWord-fractions : (ts : List FractionText) → EndsWord (fractions_text ts)
EndsWord-fractions [] = inl refl
EndsWord-fractions (t ∷ ts) = inr (fraction_text t ++ fractions_text ts, refl)

pub numbers_and_rest : (ns ms : List ℕ) (r s : List ℕ) → length ns ≡ length ms → AllByRecursion IsNumber ns
    → AllByRecursion IsNumber ms → EndsWord r → EndsWord s → numbers_text ns ++ r ≡ numbers_text ms ++ s
    → (ns ≡ ms) × (r ≡ s)
numbers_and_rest ns ms r s same p q er es e =
    spaced_unique decimal IsNumber (λ n is. Lacks-decimal 32 n (omega arith) is) number_unique ns ms r s same p q er
    es e

pub fractions_unique : (ts us : List FractionText) → length ts ≡ length us → AllByRecursion IsFractionText ts
    → AllByRecursion IsFractionText us → fractions_text ts ≡ fractions_text us → ts ≡ us
fractions_unique ts us same p q e =
    (spaced_unique fraction_text IsFractionText (λ t is. Lacks-fraction_text 32 t (omega arith) is) fraction_unique
    ts us [] [] same p q (inl refl) (inl refl)
    (append-nil (fractions_text ts) ∙ e ∙ sym (append-nil (fractions_text us)))).0

-- ---- words

-- what stands before the first space of a word's text, and what stands from it on
abbrev front_text : Word → List ℕ
front_text RamifiedInfinity = codes "ramified"
front_text Triple = codes "triple"
front_text NoIdentity = codes "noidentity"
front_text Central = codes "central"
front_text Ideal = codes "ideal"
front_text Split = codes "split"
front_text Ramified = codes "ramified"
front_text Left = codes "left"
front_text Right = codes "right"
front_text Tuple = codes "tuple"
front_text Map = codes "map"
front_text UnitTuple = codes "unit"
front_text Order = codes "order"
front_text Radical = codes "radical"
front_text End = codes "end"

abbrev back_text : Word → List ℕ
back_text RamifiedInfinity = codes " infinity"
back_text _ = []

front_and_back : (w : Word) → word_text w ≡ front_text w ++ back_text w
front_and_back Triple = refl
front_and_back NoIdentity = refl
front_and_back Central = refl
front_and_back Ideal = refl
front_and_back Split = refl
front_and_back Ramified = refl
front_and_back RamifiedInfinity = refl
front_and_back Left = refl
front_and_back Right = refl
front_and_back Tuple = refl
front_and_back Map = refl
front_and_back UnitTuple = refl
front_and_back Order = refl
front_and_back Radical = refl
front_and_back End = refl

EndsWord-back : (w : Word) (rest : List ℕ) → EndsWord rest → EndsWord (back_text w ++ rest)
EndsWord-back RamifiedInfinity rest ends = inr (codes "infinity" ++ rest, refl)
EndsWord-back Triple rest ends = ends
EndsWord-back NoIdentity rest ends = ends
EndsWord-back Central rest ends = ends
EndsWord-back Ideal rest ends = ends
EndsWord-back Split rest ends = ends
EndsWord-back Ramified rest ends = ends
EndsWord-back Left rest ends = ends
EndsWord-back Right rest ends = ends
EndsWord-back Tuple rest ends = ends
EndsWord-back Map rest ends = ends
EndsWord-back UnitTuple rest ends = ends
EndsWord-back Order rest ends = ends
EndsWord-back Radical rest ends = ends
EndsWord-back End rest ends = ends

-- the word whose text has no space, by three letters
abbrev word_with : ℕ → Word
word_with code =
    cond (eqb code 764) Triple (cond (eqb code 752) NoIdentity
    (cond (eqb code 741) Central (cond (eqb code 709) Ideal (cond (eqb code 771) Split
    (cond (eqb code 744) Ramified (cond (eqb code 718) Left (cond (eqb code 736) Right
    (cond (eqb code 798) Tuple (cond (eqb code 751) Map (cond (eqb code 757) UnitTuple
    (cond (eqb code 739) Order (cond (eqb code 708) Radical End))))))))))))

abbrev code_of : List ℕ → ℕ
code_of text = get_or text 0 0 + 2 * get_or text 1 0 + 4 * get_or text 2 0

abbrev base : Word → Word
base RamifiedInfinity = Ramified
base w = w

word_with-code : (w : Word) → word_with (code_of (front_text w)) ≡ base w
word_with-code Triple = refl
word_with-code NoIdentity = refl
word_with-code Central = refl
word_with-code Ideal = refl
word_with-code Split = refl
word_with-code Left = refl
word_with-code Right = refl
word_with-code Tuple = refl
word_with-code Map = refl
word_with-code UnitTuple = refl
word_with-code End = refl
word_with-code Ramified = refl
word_with-code RamifiedInfinity = refl
word_with-code Order = refl
word_with-code Radical = refl

is_base : (w : Word) → (w ≡ RamifiedInfinity) ⊎ (base w ≡ w)
is_base RamifiedInfinity = inl refl
is_base Triple = inr refl
is_base NoIdentity = inr refl
is_base Central = inr refl
is_base Ideal = inr refl
is_base Split = inr refl
is_base Ramified = inr refl
is_base Left = inr refl
is_base Right = inr refl
is_base Tuple = inr refl
is_base Map = inr refl
is_base UnitTuple = inr refl
is_base Order = inr refl
is_base Radical = inr refl
is_base End = inr refl

-- two words have one front, if they are one, or of places
front_text_unique : (w v : Word) → front_text w ≡ front_text v
    → (w ≡ v) ⊎ ((w ≡ Ramified) × (v ≡ RamifiedInfinity)) ⊎ ((w ≡ RamifiedInfinity) × (v ≡ Ramified))
front_text_unique w v e = go (is_base w) (is_base v)
  where
    same : base w ≡ base v
    same = sym (word_with-code w) ∙ ap (λ t. word_with (code_of t)) e ∙ word_with-code v

    go : (w ≡ RamifiedInfinity) ⊎ (base w ≡ w) → (v ≡ RamifiedInfinity) ⊎ (base v ≡ v)
        → (w ≡ v) ⊎ ((w ≡ Ramified) × (v ≡ RamifiedInfinity)) ⊎ ((w ≡ RamifiedInfinity) × (v ≡ Ramified))
    go (inl p) (inl q) = inl (p ∙ sym q)
    go (inl p) (inr q) = inr (inr (p, sym q ∙ sym same ∙ ap base p))
    go (inr p) (inl q) = inr (inl (sym p ∙ same ∙ ap base q, q))
    go (inr p) (inr q) = inl (sym p ∙ same ∙ q)

word_lacks_space : (w : Word) → Lacks 32 (front_text w)
word_lacks_space Triple = Lacks-from_test 32 (codes "triple") refl
word_lacks_space NoIdentity = Lacks-from_test 32 (codes "noidentity") refl
word_lacks_space Central = Lacks-from_test 32 (codes "central") refl
word_lacks_space Ideal = Lacks-from_test 32 (codes "ideal") refl
word_lacks_space Split = Lacks-from_test 32 (codes "split") refl
word_lacks_space Left = Lacks-from_test 32 (codes "left") refl
word_lacks_space Right = Lacks-from_test 32 (codes "right") refl
word_lacks_space Tuple = Lacks-from_test 32 (codes "tuple") refl
word_lacks_space Map = Lacks-from_test 32 (codes "map") refl
word_lacks_space UnitTuple = Lacks-from_test 32 (codes "unit") refl
word_lacks_space End = Lacks-from_test 32 (codes "end") refl
word_lacks_space Ramified = Lacks-from_test 32 (codes "ramified") refl
word_lacks_space RamifiedInfinity = Lacks-from_test 32 (codes "ramified") refl
word_lacks_space Order = Lacks-from_test 32 (codes "order") refl
word_lacks_space Radical = Lacks-from_test 32 (codes "radical") refl

word_lacks_newline : (w : Word) → Lacks 10 (word_text w)
word_lacks_newline Triple = Lacks-from_test 10 (codes "triple") refl
word_lacks_newline NoIdentity = Lacks-from_test 10 (codes "noidentity") refl
word_lacks_newline Central = Lacks-from_test 10 (codes "central") refl
word_lacks_newline Ideal = Lacks-from_test 10 (codes "ideal") refl
word_lacks_newline Split = Lacks-from_test 10 (codes "split") refl
word_lacks_newline Left = Lacks-from_test 10 (codes "left") refl
word_lacks_newline Right = Lacks-from_test 10 (codes "right") refl
word_lacks_newline Tuple = Lacks-from_test 10 (codes "tuple") refl
word_lacks_newline Map = Lacks-from_test 10 (codes "map") refl
word_lacks_newline UnitTuple = Lacks-from_test 10 (codes "unit") refl
word_lacks_newline End = Lacks-from_test 10 (codes "end") refl
word_lacks_newline Ramified = Lacks-from_test 10 (codes "ramified") refl
word_lacks_newline RamifiedInfinity = Lacks-from_test 10 (codes "ramified infinity") refl
word_lacks_newline Order = Lacks-from_test 10 (codes "order") refl
word_lacks_newline Radical = Lacks-from_test 10 (codes "radical") refl

-- ---- lines

EndsWord-numbers : (ns : List ℕ) (rest : List ℕ) → EndsWord rest → EndsWord (numbers_text ns ++ rest)
EndsWord-numbers [] rest ends = ends
EndsWord-numbers (n ∷ ns) rest ends =
    inr (decimal n ++ (numbers_text ns ++ rest), append_assoc (32 ∷ decimal n) (numbers_text ns) rest)

module _ (m : ℕ) where
  pub Lacks-line_text : (l : Line) → HasForm m l → Lacks 10 (line_text l)
  Lacks-line_text l h =
      Lacks-append 10 (word_text l.word) (numbers_text l.numbers ++ fractions_text l.fractions)
      (word_lacks_newline l.word)
      (Lacks-append 10 (numbers_text l.numbers) (fractions_text l.fractions)
      (Lacks-spaced decimal IsNumber (λ n is. Lacks-decimal 10 n (omega arith) is) l.numbers h.numbers)
      (Lacks-spaced fraction_text IsFractionText (λ t is. Lacks-fraction_text 10 t (omega arith) is) l.fractions
      h.fractions))

  -- the numbers and the fractions behind one word
  arguments_unique : (w : Word) (ns ms : List ℕ) (ts us : List FractionText)
      → HasForm m (record { word = w; numbers = ns; fractions = ts })
      → HasForm m (record { word = w; numbers = ms; fractions = us })
      → numbers_text ns ++ fractions_text ts ≡ numbers_text ms ++ fractions_text us → (ns ≡ ms) × (ts ≡ us)
  arguments_unique w ns ms ts us h g e =
      let cut = numbers_and_rest ns ms (fractions_text ts) (fractions_text us) (h.number_count ∙ sym g.number_count)
      h.numbers g.numbers (EndsWord-fractions ts) (EndsWord-fractions us) e in
      (cut.0, fractions_unique ts us (h.fraction_count ∙ sym g.fraction_count) h.fractions g.fractions cut.1)

  same_parts : (w v : Word) (ns ms : List ℕ) (ts us : List FractionText) → w ≡ v → ns ≡ ms → ts ≡ us
      → ◌≡◌ {A = Line} (record { word = w; numbers = ns; fractions = ts })
      (record { word = v; numbers = ms; fractions = us })
  same_parts w v ns ms ts us a b c =
      ap (λ x. record { word = x; numbers = ns; fractions = ts }) a
      ∙ ap₂ (λ y z. record { word = v; numbers = y; fractions = z }) b c

  -- the numbers and the fractions of a line
  abbrev arguments : Line → List ℕ
  arguments l = numbers_text l.numbers ++ fractions_text l.fractions

  -- a line from the first space on
  abbrev from_space : Line → List ℕ
  from_space l = back_text l.word ++ arguments l

  line_parts : (l : Line) → line_text l ≡ front_text l.word ++ from_space l
  line_parts l =
      ap (λ t. t ++ arguments l) (front_and_back l.word)
      ∙ append_assoc (front_text l.word) (back_text l.word) (arguments l)

  EndsWord-arguments : (l : Line) → EndsWord (from_space l)
  EndsWord-arguments l =
      EndsWord-back l.word (arguments l)
      (EndsWord-numbers l.numbers (fractions_text l.fractions) (EndsWord-fractions l.fractions))

  -- the lines of a finite place and of infinity differ
  places_differ : (l k : Line) → HasForm m l → l.word ≡ Ramified → k.word ≡ RamifiedInfinity
      → from_space l ≡ from_space k → ⊥
  places_differ l k h p q e =
      let ls : from_space l ≡ arguments l = ap (λ w. back_text w ++ arguments l) p in
      let ks : from_space k ≡ codes " infinity" ++ arguments k = ap (λ w. back_text w ++ arguments k) q in
      no_infinity l.numbers l.fractions (arguments k) (h.number_count ∙ ap number_count p)
      (h.fraction_count ∙ ap (fraction_count m) p) h.fractions
      (sym ls ∙ e ∙ ks)

  pub line_text_unique : (l k : Line) → HasForm m l → HasForm m k → line_text l ≡ line_text k → l ≡ k
  line_text_unique l k h g e = go (front_text_unique l.word k.word cut.0)
    where
      cut : (front_text l.word ≡ front_text k.word) × (from_space l ≡ from_space k)
      cut =
          word_and_rest (front_text l.word) (front_text k.word) (from_space l) (from_space k)
          (word_lacks_space l.word) (word_lacks_space k.word) (EndsWord-arguments l) (EndsWord-arguments k)
          (sym (line_parts l) ∙ e ∙ line_parts k)

      go : (l.word ≡ k.word) ⊎ ((l.word ≡ Ramified) × (k.word ≡ RamifiedInfinity))
          ⊎ ((l.word ≡ RamifiedInfinity) × (k.word ≡ Ramified)) → l ≡ k
      go (inl word) =
          let over = subst (λ w. HasForm m (record { word = w; numbers = l.numbers; fractions = l.fractions })) word h in
          let same : arguments l ≡ arguments k =
          append_cancel_left (back_text k.word) (arguments l) (arguments k)
          (ap (λ w. back_text w ++ arguments l) (sym word) ∙ cut.1) in
          let both = arguments_unique k.word l.numbers k.numbers l.fractions k.fractions over g same in
          same_parts l.word k.word l.numbers k.numbers l.fractions k.fractions word both.0 both.1
      go (inr (inl (p, q))) = absurd (places_differ l k h p q cut.1)
      go (inr (inr (p, q))) = absurd (places_differ k l g q p (sym cut.1))
