-- Words behind one another, a space before each: those that were read, and those that are still to come.
use Rattle.std.proofs.Common.{◌≡◌, ◌≢◌, ◌⊎◌, ◌↔◌, ℕ, ◌+◌, ◌<◌, ◌≤◌, Bool, true, List, [], ◌∷◌, ◌++◌, length}
use Rattle.std.proofs.Common.{drop, refl, sym, ap, ap₂, subst, ◌∙◌, inl, inr, arith, append_assoc, append-nil}
use Rattle.std.specs.Prelude.{decimal, IsTrue}
use Rattle.std.specs.List.{flat_map, AllByRecursion}
use Rattle.std.proofs.lemmas.List.{length-append}
use Rattle.std.proofs.lemmas.List.Concat.{flat_map-append}
use Rattle.spl_text.specs.Text.{Lacks, IsNumber, FractionText, IsFractionText, fraction_text, lists_of}
use Rattle.spl_text.proofs.Words.{Lacks-decimal, number_unique}
use Rattle.spl_text.proofs.Fractions.{Lacks-fraction_text, fraction_unique}
use Rattle.spl_evidence.specs.Reading.{EndsWord}
use Rattle.spl_evidence.proofs.LineTexts.{word_and_rest}

pub AllByRecursion-push : {X : Type 0} (P : X → Type 0) (xs : List X) (x : X) → AllByRecursion P xs → P x
    → AllByRecursion P (xs ++ x ∷ [])
AllByRecursion-push P [] x p h = (h, tt)
AllByRecursion-push P (y ∷ xs) x p h = (p.0, AllByRecursion-push P xs x p.1 h)

pub AllByRecursion-front : {X : Type 0} (P : X → Type 0) (xs ys : List X) → AllByRecursion P (xs ++ ys)
    → AllByRecursion P xs
AllByRecursion-front P [] ys p = tt
AllByRecursion-front P (x ∷ xs) ys p = (p.0, AllByRecursion-front P xs ys p.1)

pub AllByRecursion-after : {X : Type 0} (P : X → Type 0) (xs ys : List X) → AllByRecursion P (xs ++ ys)
    → AllByRecursion P ys
AllByRecursion-after P [] ys p = p
AllByRecursion-after P (x ∷ xs) ys p = AllByRecursion-after P xs ys p.1

module _ {X : Type 0} (text : X → List ℕ) (P : X → Type 0) (lacks : (x : X) → P x → Lacks 32 (text x))
    (unique : (x y : X) → P x → P y → text x ≡ text y → x ≡ y) where
  abbrev spaced : List X → List ℕ
  spaced xs = flat_map (λ x. 32 ∷ text x) xs

  ends_spaced : (xs : List X) (rest : List ℕ) → EndsWord rest → EndsWord (spaced xs ++ rest)
  ends_spaced [] rest ends = ends
  ends_spaced (x ∷ xs) rest ends =
      inr (text x ++ (spaced xs ++ rest), append_assoc (32 ∷ text x) (spaced xs) rest)

  -- words that begin others
  pub rest_spelled : (xs ys : List X) (a r : List ℕ) → length xs ≤ length ys → AllByRecursion P xs
      → AllByRecursion P ys → (length xs ≡ 0) ⊎ EndsWord a → EndsWord r → spaced xs ++ a ≡ spaced ys ++ r
      → (zs : List X) × (ys ≡ xs ++ zs) × (a ≡ spaced zs ++ r)
  rest_spelled [] ys a r few p q ea er e = (ys, refl, e)
  rest_spelled (x ∷ xs) [] a r few p q ea er e = absurd (omega arith)
  rest_spelled (x ∷ xs) (y ∷ ys) a r few p q (inl none) er e = absurd (omega arith)
  rest_spelled (x ∷ xs) (y ∷ ys) a r few p q (inr ends) er e =
      let whole : 32 ∷ (text x ++ (spaced xs ++ a)) ≡ 32 ∷ (text y ++ (spaced ys ++ r)) =
      sym (append_assoc (32 ∷ text x) (spaced xs) a) ∙ e ∙ append_assoc (32 ∷ text y) (spaced ys) r in
      let tails : text x ++ (spaced xs ++ a) ≡ text y ++ (spaced ys ++ r) = cc in
      let cut = word_and_rest (text x) (text y) (spaced xs ++ a) (spaced ys ++ r) (lacks x p.0) (lacks y q.0)
      (ends_spaced xs a ends) (ends_spaced ys r er) tails in
      let more = rest_spelled xs ys a r (omega arith) p.1 q.1 (inr ends) er cut.1 in
      (more.0, ap₂ (λ b bs. b ∷ bs) (sym (unique x y p.0 q.0 cut.0)) more.1, more.2)

  -- ---- the words that were read

  pub record SoFar (whole rest : List ℕ) (xs : List X) : Type 0 where
    pub spelled : whole ≡ spaced xs ++ rest
    pub each : AllByRecursion P xs
    pub ends : (length xs ≡ 0) ⊎ EndsWord rest

  pub SoFar-none : (whole : List ℕ) → SoFar whole whole []
  SoFar-none whole = record { spelled = refl; each = tt; ends = inl refl }

  pub SoFar-push : (whole rest word after : List ℕ) (xs : List X) (x : X) → SoFar whole rest xs
      → rest ≡ 32 ∷ (word ++ after) → EndsWord after → P x → word ≡ text x → SoFar whole after (xs ++ x ∷ [])
  SoFar-push whole rest word after xs x so_far next ends is e = record {
    spelled = so_far.spelled
        ∙ ap (λ t. spaced xs ++ t) (next ∙ ap (λ w. 32 ∷ (w ++ after)) e)
        ∙ sym (append_assoc (spaced xs) (32 ∷ text x) after)
        ∙ ap (λ t. t ++ after) (ap (λ t. spaced xs ++ t) (sym (append-nil (32 ∷ text x)))
        ∙ sym (flat_map-append (λ y. 32 ∷ text y) xs (x ∷ [])));
    each = AllByRecursion-push P xs x so_far.each is;
    ends = inr ends;
  }

  -- where as many words stand, they are those that were read
  pub SoFar-all : (whole rest : List ℕ) (xs : List X) → SoFar whole rest xs → (ys : List X) (r : List ℕ)
      → length xs ≡ length ys → AllByRecursion P ys → EndsWord r → whole ≡ spaced ys ++ r → (ys ≡ xs) × (rest ≡ r)
  SoFar-all whole rest xs so_far ys r same q er e =
      let more = rest_spelled xs ys rest r (omega arith) so_far.each q so_far.ends er (sym so_far.spelled ∙ e) in
      go more.0 more.1 more.2
    where
      go : (zs : List X) → ys ≡ xs ++ zs → rest ≡ spaced zs ++ r → (ys ≡ xs) × (rest ≡ r)
      go [] a b = (a ∙ append-nil xs, b)
      go (z ∷ zs) a b = absurd (omega (arith, same, ap length a, length-append xs (z ∷ zs)))

  -- where more words stand, the next one is behind those that were read
  pub SoFar-next : (whole rest : List ℕ) (xs : List X) → SoFar whole rest xs → (ys : List X) (r : List ℕ)
      → length xs < length ys → AllByRecursion P ys → EndsWord r → whole ≡ spaced ys ++ r
      → (y : X) × P y × (tail : List ℕ) × EndsWord tail × (rest ≡ 32 ∷ (text y ++ tail))
  SoFar-next whole rest xs so_far ys r more q er e =
      let found = rest_spelled xs ys rest r (omega arith) so_far.each q so_far.ends er (sym so_far.spelled ∙ e) in
      go found.0 found.1 found.2
    where
      go : (zs : List X) → ys ≡ xs ++ zs → rest ≡ spaced zs ++ r
          → (y : X) × P y × (tail : List ℕ) × EndsWord tail × (rest ≡ 32 ∷ (text y ++ tail))
      go [] a b = absurd (omega (arith, more, ap length a, length-append xs []))
      go (z ∷ zs) a b =
          let each : AllByRecursion P (z ∷ zs) = AllByRecursion-after P xs (z ∷ zs) (subst (AllByRecursion P) a q) in
          (z, each.0, spaced zs ++ r, ends_spaced zs r er, b ∙ append_assoc (32 ∷ text z) (spaced zs) r)

  -- no space stands there
  pub no_word : (whole rest : List ℕ) (xs : List X) → SoFar whole rest xs → ((s : List ℕ) → rest ≢ 32 ∷ s)
      → (ys : List X) (r : List ℕ) → length xs < length ys → AllByRecursion P ys → EndsWord r → whole ≢ spaced ys ++ r
  no_word whole rest xs so_far none ys r more q er e =
      let next = SoFar-next whole rest xs so_far ys r more q er e in
      none (text next.0 ++ next.2) next.4

  -- the word there is none of these
  pub no_item : (whole rest word after : List ℕ) (xs : List X) → SoFar whole rest xs → Lacks 32 word → EndsWord after
      → rest ≡ 32 ∷ (word ++ after) → ((x : X) → P x → word ≢ text x)
      → (ys : List X) (r : List ℕ) → length xs < length ys → AllByRecursion P ys → EndsWord r → whole ≢ spaced ys ++ r
  no_item whole rest word after xs so_far lw ea here none ys r more q er e =
      let next = SoFar-next whole rest xs so_far ys r more q er e in
      let tails : word ++ after ≡ text next.0 ++ next.2 = ap (λ l. drop 1 l) (sym here ∙ next.4) in
      none next.0 next.1
      (word_and_rest word (text next.0) after next.2 lw (lacks next.0 next.1) ea next.3 tails).0

-- ---- numbers and fractions

pub number_lacks : (n : ℕ) → IsNumber n → Lacks 32 (decimal n)
number_lacks n is = Lacks-decimal 32 n (omega arith) is

pub fraction_lacks : (t : FractionText) → IsFractionText t → Lacks 32 (fraction_text t)
fraction_lacks t is = Lacks-fraction_text 32 t (omega arith) is

abbrev pub NumbersSoFar : List ℕ → List ℕ → List ℕ → Type 0
NumbersSoFar whole rest ns =
    SoFar decimal IsNumber number_lacks number_unique whole rest ns

abbrev pub FractionsSoFar : List ℕ → List ℕ → List FractionText → Type 0
FractionsSoFar whole rest ts =
    SoFar fraction_text IsFractionText fraction_lacks fraction_unique whole rest ts

module _ (whole rest : List ℕ) (ns : List ℕ) (so_far : NumbersSoFar whole rest ns) where
  pub numbers_push : (word after : List ℕ) (n : ℕ) → rest ≡ 32 ∷ (word ++ after) → EndsWord after → IsNumber n
      → word ≡ decimal n → NumbersSoFar whole after (ns ++ n ∷ [])
  numbers_push word after n next ends is e =
      SoFar-push decimal IsNumber number_lacks number_unique whole rest word after ns n
      so_far next ends is e

  pub numbers_no_word : ((s : List ℕ) → rest ≢ 32 ∷ s) → (ms r : List ℕ) → length ns < length ms
      → AllByRecursion IsNumber ms → EndsWord r → whole ≢ flat_map (λ n. 32 ∷ decimal n) ms ++ r
  numbers_no_word none ms r more each ends =
      no_word decimal IsNumber number_lacks number_unique whole rest ns so_far none ms r
      more each ends

  pub numbers_no_item : (word after : List ℕ) → Lacks 32 word → EndsWord after → rest ≡ 32 ∷ (word ++ after)
      → ((n : ℕ) → IsNumber n → word ≢ decimal n) → (ms r : List ℕ) → length ns < length ms
      → AllByRecursion IsNumber ms → EndsWord r → whole ≢ flat_map (λ n. 32 ∷ decimal n) ms ++ r
  numbers_no_item word after lacks ea here none ms r more each ends =
      no_item decimal IsNumber number_lacks number_unique whole rest word after ns
      so_far lacks ea here none ms r more each ends

-- each number of a list is below q
abbrev pub AreBelow : ℕ → FractionText → Type 0
AreBelow q t = AllByRecursion (AllByRecursion (λ c. c < q)) (lists_of t)

-- so many fractions were read, and it was told whether each number of a list is below q
pub record FractionsRead (whole rest : List ℕ) (count : ℕ) (below : Bool) (q : ℕ) : Type 0 where
  pub fractions : List FractionText
  pub many : length fractions ≡ count
  pub so_far : FractionsSoFar whole rest fractions
  pub elements : IsTrue below ↔ AllByRecursion (AreBelow q) fractions

pub FractionsRead-none : (whole : List ℕ) (q : ℕ) → FractionsRead whole whole 0 true q
FractionsRead-none whole q = record {
  fractions = [];
  many = refl;
  so_far =
      SoFar-none fraction_text IsFractionText fraction_lacks fraction_unique whole;
  elements = (λ h. tt, λ h. refl);
}

module _ (whole rest : List ℕ) (count : ℕ) (below : Bool) (q : ℕ) (read : FractionsRead whole rest count below q) where
  pub FractionsRead-push : (word after : List ℕ) (t : FractionText) (inside now : Bool) → rest ≡ 32 ∷ (word ++ after)
      → EndsWord after → IsFractionText t → word ≡ fraction_text t → (IsTrue inside ↔ AreBelow q t)
      → (IsTrue now ↔ IsTrue below × IsTrue inside) → FractionsRead whole after (count + 1) now q
  FractionsRead-push word after t inside now next ends is e tells both = record {
    fractions = read.fractions ++ t ∷ [];
    many = omega (arith, length-append read.fractions (t ∷ []), read.many);
    so_far =
        SoFar-push fraction_text IsFractionText fraction_lacks fraction_unique whole
        rest word after read.fractions t read.so_far next ends is e;
    elements = (
      λ h. let p = both.0 h in AllByRecursion-push (AreBelow q) read.fractions t (read.elements.0 p.0) (tells.0 p.1),
      λ h. both.1 (
        read.elements.1 (AllByRecursion-front (AreBelow q) read.fractions (t ∷ []) h),
        tells.1 (AllByRecursion-after (AreBelow q) read.fractions (t ∷ []) h).0,
      ),
    );
  }

  pub fractions_no_word : ((s : List ℕ) → rest ≢ 32 ∷ s) → (ts : List FractionText) → count < length ts
      → AllByRecursion IsFractionText ts → whole ≢ flat_map (λ t. 32 ∷ fraction_text t) ts
  fractions_no_word none ts more each e =
      no_word fraction_text IsFractionText fraction_lacks fraction_unique whole rest
      read.fractions read.so_far none ts [] (omega (arith, more, read.many)) each (inl refl)
      (e ∙ sym (append-nil (flat_map (λ t. 32 ∷ fraction_text t) ts)))

  pub fractions_no_item : (word after : List ℕ) → Lacks 32 word → EndsWord after → rest ≡ 32 ∷ (word ++ after)
      → ((t : FractionText) → IsFractionText t → word ≢ fraction_text t) → (ts : List FractionText) → count < length ts
      → AllByRecursion IsFractionText ts → whole ≢ flat_map (λ t. 32 ∷ fraction_text t) ts
  fractions_no_item word after lacks ea here none ts more each e =
      no_item fraction_text IsFractionText fraction_lacks fraction_unique whole rest
      word after read.fractions read.so_far lacks ea here none ts [] (omega (arith, more, read.many)) each (inl refl)
      (e ∙ sym (append-nil (flat_map (λ t. 32 ∷ fraction_text t) ts)))

  -- something stands behind them
  pub fractions_no_end : length rest ≢ 0 → (ts : List FractionText) → length ts ≡ count
      → AllByRecursion IsFractionText ts → whole ≢ flat_map (λ t. 32 ∷ fraction_text t) ts
  fractions_no_end some ts same each e =
      let all = SoFar-all fraction_text IsFractionText fraction_lacks
      fraction_unique whole rest read.fractions read.so_far ts [] (omega (arith, same, read.many)) each (inl refl)
      (e ∙ sym (append-nil (flat_map (λ t. 32 ∷ fraction_text t) ts))) in
      some (ap length all.1)

  pub fractions_end : length rest ≡ 0
      → (ts : List FractionText) × (length ts ≡ count) × AllByRecursion IsFractionText ts
      × (whole ≡ flat_map (λ t. 32 ∷ fraction_text t) ts) × (IsTrue below ↔ AllByRecursion (AreBelow q) ts)
  fractions_end none =
      (read.fractions, read.many, read.so_far.each, read.so_far.spelled ∙ go rest none, read.elements)
    where
      go : (r : List ℕ) → length r ≡ 0
          → flat_map (λ t. 32 ∷ fraction_text t) read.fractions ++ r
          ≡ flat_map (λ t. 32 ∷ fraction_text t) read.fractions
      go [] e = append-nil (flat_map (λ t. 32 ∷ fraction_text t) read.fractions)
      go (b ∷ r) e = absurd (omega arith)
