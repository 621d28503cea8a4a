-- The terms of a line: its fractions are those that were read, or one of them isn't canonical.
use Rattle.std.proofs.Common.{◌≡◌, ◌≢◌, ◌⊎◌, ℕ, suc, ◌+◌, ◌*◌, ◌<◌, ◌≤◌, List, [], ◌∷◌, ◌++◌, length, take, drop, map}
use Rattle.std.proofs.Common.{get_or, refl, sym, ap, subst, ◌∙◌, inl, inr, arith, append_assoc, append-nil}
use Rattle.std.specs.List.{flat_map, All, AllByRecursion}
use Rattle.std.proofs.Math.Nat.{mul-le-mul_right}
use Rattle.std.proofs.lemmas.List.{length-append, map-append, length-take, take-append-drop}
use Rattle.std.proofs.lemmas.List.Elements.{All-push, All-append}
use Rattle.std.proofs.lemmas.List.Concat.{flat_map-append}
use Rattle.theory_rings.specs.Ops.{Ops, IsElem}
use Rattle.theory_spaces.specs.Tuples.{IsTuple}
use Rattle.theory_fractions.specs.Fraction.{Pair}
use Rattle.theory_fractions.proofs.ElementClauses.{lowest_of_elem, zero_is, eq_zero, ne_zero}
use Rattle.theory_tables.specs.Split.{IsSquare}
use Rattle.spl_field.specs.SmallField.{small_ops, small_laws}
use Rattle.spl_field.specs.declared.small.SmallField.{SmallField}
use Rattle.spl_text.specs.Text.{FractionText, IsFractionText, fraction_text}
use Rattle.spl_text.proofs.Fractions.{Lacks-fraction_text, fraction_unique}
use Rattle.spl_fraction.specs.FractionsOver.{fractions_over}
use Rattle.spl_fraction.specs.CanonicalText.{IsCanonicalText}
use Rattle.spl_fraction.specs.CanonicalWords.{words_of}
use Rattle.spl_fraction.proofs.CanonicalTexts.{text_words}
use Rattle.spl_evidence.specs.Line.{Line, fractions_text}
use Rattle.spl_evidence.specs.Refusal.{IsCanonical, zero_text, IsAllowed, HasTerms}
use Rattle.spl_evidence.specs.Reading.{EndsWord}
use Rattle.spl_evidence.specs.declared.word.Word.{Word}
use Rattle.spl_evidence.specs.declared.word.Word.TheVariants.{Triple, NoIdentity, Central, Ideal, Split, Left, Right}
use Rattle.spl_evidence.specs.declared.word.Word.TheVariants.{Tuple, Map, Unit as UnitTuple, End}
use Rattle.spl_evidence.specs.declared.word.Word.TheVariants.{Ramified, RamifiedInfinity, Order, Radical}
use Rattle.spl_evidence.proofs.LineTexts.{spaced_unique, EndsWord-fractions}
use Rattle.spl_evidence.proofs.SpacedWords.{rest_spelled, AllByRecursion-front, AllByRecursion-after}
use Rattle.spl_evidence.proofs.CanonicalWords.{form, canonical_lacks, canonical_words_unique, length-map, TermsSoFar}
use Rattle.spl_evidence.proofs.RightLines.ElementWords.{word_forms, word_terms, flat_over, words_unique, zero_elem}

AllByRecursion-append : {X : Type 0} (P : X → Type 0) (xs ys : List X) → AllByRecursion P xs → AllByRecursion P ys
    → AllByRecursion P (xs ++ ys)
AllByRecursion-append P [] ys p q = q
AllByRecursion-append P (x ∷ xs) ys p q = (p.0, AllByRecursion-append P xs ys p.1 q)

flat-push : {X : Type 0} (rows : List (List X)) (row : List X)
    → flat_map (λ r. r) (rows ++ row ∷ []) ≡ flat_map (λ r. r) rows ++ row
flat-push rows row =
    flat_map-append (λ r. r) rows (row ∷ []) ∙ ap (λ t. flat_map (λ r. r) rows ++ t) (append-nil row)

-- where there is no fraction, none is wrong
allowed_of_none : (w : Word) → IsAllowed w []
allowed_of_none Triple = tt
allowed_of_none NoIdentity = tt
allowed_of_none Central = tt
allowed_of_none Ideal = tt
allowed_of_none Split = tt
allowed_of_none Left = λ e. absurd cc
allowed_of_none Right = λ e. absurd cc
allowed_of_none Tuple = tt
allowed_of_none Map = tt
allowed_of_none UnitTuple = tt
allowed_of_none End = tt
allowed_of_none Ramified = tt
allowed_of_none RamifiedInfinity = tt
allowed_of_none Order = tt
allowed_of_none Radical = tt

module _ (f : SmallField) where
  abbrev K : Ops (Pair ℕ)
  K = fractions_over f

  -- ---- as many fractions as there are

  pub words_are : (ts : List FractionText) (a : List (Pair ℕ)) (rest : List ℕ) → length a ≡ length ts
      → All (IsElem K) a → AllByRecursion IsFractionText ts → (length a ≡ 0) ⊎ EndsWord rest
      → fractions_text ts ≡ fractions_text (map words_of a) ++ rest → ts ≡ map words_of a
  words_are ts a rest same elems forms (inr ends) e =
      (spaced_unique fraction_text IsFractionText (λ t is. Lacks-fraction_text 32 t (omega arith) is) fraction_unique
      ts (map words_of a) [] rest (omega (arith, same, length-map a)) forms (word_forms f a elems) (inl refl) ends
      (append-nil (fractions_text ts) ∙ e)).0
  words_are [] [] rest same elems forms (inl none) e = refl
  words_are (t ∷ ts) [] rest same elems forms (inl none) e = absurd (omega arith)
  words_are ts (x ∷ a) rest same elems forms (inl none) e = absurd (omega arith)

  -- ---- rows

  module _ (whole rest : List ℕ) (a : List (Pair ℕ)) (so_far : TermsSoFar f whole rest a) where
    TermsSoFar-append : (row : List (Pair ℕ)) (after : List ℕ) → All (IsElem K) row
        → rest ≡ fractions_text (map words_of row) ++ after → EndsWord after → TermsSoFar f whole after (a ++ row)
    TermsSoFar-append row after elems cut ends = record {
      words = record {
        spelled = so_far.words.spelled
            ∙ ap (λ t. fractions_text (map words_of a) ++ t) cut
            ∙ sym (append_assoc (fractions_text (map words_of a)) (fractions_text (map words_of row)) after)
            ∙ ap (λ t. t ++ after) (sym (flat_map-append (λ t. 32 ∷ fraction_text t) (map words_of a)
            (map words_of row)) ∙ ap fractions_text (sym (map-append words_of a row)));
        each = subst (AllByRecursion (IsCanonical f)) (sym (map-append words_of a row))
            (AllByRecursion-append (IsCanonical f) (map words_of a) (map words_of row) so_far.words.each
            (word_terms f row elems));
        ends = inr ends;
      };
      elems = All-append (IsElem K) a row so_far.elems elems;
    }

    -- where no such row follows, the whole isn't one of canonical fractions
    no_row : (n : ℕ) → ((us : List FractionText) (r : List ℕ) → length us ≡ n → AllByRecursion (IsCanonical f) us
        → EndsWord r → rest ≢ fractions_text us ++ r) → (ts : List FractionText) → length a + n ≤ length ts
        → whole ≡ fractions_text ts → AllByRecursion (IsCanonical f) ts → ⊥
    no_row n none ts more e canonical =
        let found = rest_spelled fraction_text (IsCanonical f) (canonical_lacks f) (canonical_words_unique f)
        (map words_of a) ts rest [] (omega (arith, more, length-map a)) so_far.words.each canonical so_far.words.ends
        (inl refl) (sym so_far.words.spelled ∙ e ∙ sym (append-nil (fractions_text ts))) in
        go found.0 found.1 found.2
      where
        go : (zs : List FractionText) → ts ≡ map words_of a ++ zs → rest ≡ fractions_text zs ++ [] → ⊥
        go zs same spelled =
            let long : n ≤ length zs =
            omega (arith, more, ap length same, length-append (map words_of a) zs, length-map a) in
            let count : length (take n zs) ≡ n = omega (arith, length-take n zs, long) in
            let each : AllByRecursion (IsCanonical f) zs =
            AllByRecursion-after (IsCanonical f) (map words_of a) zs
            (subst (AllByRecursion (IsCanonical f)) same canonical) in
            let parts : take n zs ++ drop n zs ≡ zs = take-append-drop n zs in
            none (take n zs) (fractions_text (drop n zs)) count
            (AllByRecursion-front (IsCanonical f) (take n zs) (drop n zs)
            (subst (AllByRecursion (IsCanonical f)) (sym parts) each)) (EndsWord-fractions (drop n zs))
            (spelled ∙ append-nil (fractions_text zs) ∙ ap fractions_text (sym parts)
            ∙ flat_map-append (λ t. 32 ∷ fraction_text t) (take n zs) (drop n zs))

  -- rows of n fractions were read
  pub record RowsSoFar (n : ℕ) (whole rest : List ℕ) (count : ℕ) (rows : List (List (Pair ℕ))) : Type 0 where
    pub terms : TermsSoFar f whole rest (flat_map (λ row. row) rows)
    pub many : length rows ≡ count
    pub tuples : All (IsTuple K n) rows

  module _ (n : ℕ) (whole rest : List ℕ) (count : ℕ) (rows : List (List (Pair ℕ)))
      (so_far : RowsSoFar n whole rest count rows) where
    items : length (flat_map (λ row. row) rows) ≡ count * n
    items = (flat_over f n rows so_far.tuples).1 ∙ ap (λ k. k * n) so_far.many

    pub RowsSoFar-push : (row : List (Pair ℕ)) (after : List ℕ) → length row ≡ n → All (IsElem K) row
        → rest ≡ fractions_text (map words_of row) ++ after → 0 < n → (length row ≡ 0) ⊎ EndsWord after
        → RowsSoFar n whole after (count + 1) (rows ++ row ∷ [])
    RowsSoFar-push row after same elems cut some (inl none) = absurd (omega arith)
    RowsSoFar-push row after same elems cut some (inr ends) = record {
      terms = subst (TermsSoFar f whole after) (sym (flat-push rows row))
          (TermsSoFar-append whole rest (flat_map (λ r. r) rows) so_far.terms row after elems cut ends);
      many = omega (arith, length-append rows (row ∷ []), so_far.many);
      tuples = All-push (IsTuple K n) rows row so_far.tuples (record { right_length = same; of_elements = elems });
    }

    pub rows_none : ((us : List FractionText) (r : List ℕ) → length us ≡ n → AllByRecursion (IsCanonical f) us
        → EndsWord r → rest ≢ fractions_text us ++ r) → count < n → (ts : List FractionText) → length ts ≡ n * n
        → whole ≡ fractions_text ts → AllByRecursion (IsCanonical f) ts → ⊥
    rows_none none below ts same e canonical =
        no_row whole rest (flat_map (λ r. r) rows) so_far.terms n none ts
        (omega (arith, items, same, room count n below)) e canonical
      where
        room : (k m : ℕ) → k < m → k * m + m ≤ m * m
        room k m h =
            let next : suc k ≤ m = omega arith in
            omega (arith, mul-le-mul_right m next)

    pub rows_all : count ≡ n → (ts : List FractionText) → length ts ≡ n * n → AllByRecursion IsFractionText ts
        → whole ≡ fractions_text ts → IsSquare K n rows × (ts ≡ map words_of (flat_map (λ row. row) rows))
    rows_all all ts same forms e =
        let flat = flat_map (λ (r : List (Pair ℕ)). r) rows in
        let long : length flat ≡ length ts = items ∙ ap (λ k. k * n) all ∙ sym same in (
          record { shape = so_far.tuples; height = so_far.many ∙ all },
          words_are ts flat rest long so_far.terms.elems forms (ends so_far.terms.words.ends)
              (sym e ∙ so_far.terms.words.spelled),
        )
      where
        ends : (length (map words_of (flat_map (λ (r : List (Pair ℕ)). r) rows)) ≡ 0) ⊎ EndsWord rest
            → (length (flat_map (λ (r : List (Pair ℕ)). r) rows) ≡ 0) ⊎ EndsWord rest
        ends (inl none) = inl (sym (length-map (flat_map (λ r. r) rows)) ∙ none)
        ends (inr h) = inr h

  pub RowsSoFar-none : (n : ℕ) (whole : List ℕ) → TermsSoFar f whole whole [] → RowsSoFar n whole whole 0 []
  RowsSoFar-none n whole none = record { terms = none; many = refl; tuples = λ k d below. absurd (omega arith) }

  -- ---- the terms of a line

  pub plain_terms : (l : Line) → l.fractions ≡ [] → HasTerms f l
  plain_terms l none = record {
    canonical = subst (AllByRecursion (IsCanonical f)) (sym none) tt;
    allowed = subst (IsAllowed l.word) (sym none) (allowed_of_none l.word);
  }

  pub element_terms : (l : Line) (a : List (Pair ℕ)) → All (IsElem K) a → l.fractions ≡ map words_of a
      → IsAllowed l.word l.fractions → HasTerms f l
  element_terms l a elems are allowed = record {
    canonical = subst (AllByRecursion (IsCanonical f)) (sym are) (word_terms f a elems);
    allowed = allowed;
  }

  pub multiplier_terms : (l : Line) (x : Pair ℕ) → IsElem K x → l.fractions ≡ words_of x ∷ []
      → IsAllowed l.word l.fractions → HasTerms f l
  multiplier_terms l x elem are allowed =
      element_terms l (x ∷ []) (All-push (IsElem K) [] x (λ k d below. absurd (omega arith)) elem) are allowed

  -- ---- one multiplier

  zero_words : words_of K.zero ≡ zero_text
  zero_words = ap words_of (zero_is (small_ops f) (small_laws f))

  -- one fraction behind a space
  one_word : (ts : List FractionText) (text : List ℕ) → length ts ≡ 1 → text ≡ fractions_text ts
      → (t : FractionText) × (ts ≡ t ∷ []) × (text ≡ 32 ∷ fraction_text t)
  one_word [] text same e = absurd (omega arith)
  one_word (t ∷ []) text same e = (t, refl, e ∙ append-nil (32 ∷ fraction_text t))
  one_word (t ∷ u ∷ ts) text same e = absurd (omega arith)

  pub one_word_none : (ts : List FractionText) (text : List ℕ) → ((rest : List ℕ) → text ≢ 32 ∷ rest)
      → length ts ≡ 1 → text ≡ fractions_text ts → ⊥
  one_word_none ts text none same e = let w = one_word ts text same e in none (fraction_text w.0) w.2

  module _ (ts : List FractionText) (text word : List ℕ) (cut : text ≡ 32 ∷ word) (same : length ts ≡ 1)
      (spelled : text ≡ fractions_text ts) where
    w : (t : FractionText) × (ts ≡ t ∷ []) × (text ≡ 32 ∷ fraction_text t)
    w = one_word ts text same spelled

    word_is : word ≡ fraction_text w.0
    word_is = ap (λ l. drop 1 l) (sym cut ∙ w.2)

    pub not_canonical : ((x : Pair ℕ) → IsCanonicalText (small_ops f) word x → ⊥)
        → AllByRecursion (IsCanonical f) ts → ⊥
    not_canonical none canonical =
        let each : AllByRecursion (IsCanonical f) (w.0 ∷ []) = subst (AllByRecursion (IsCanonical f)) w.1 canonical in
        let h : IsCanonical f w.0 = each.0 in
        none h.0 record {
          lowest = lowest_of_elem (small_ops f) (small_laws f) h.0 h.1;
          text = word_is ∙ ap fraction_text h.2 ∙ sym (text_words h.0);
        }

    module _ (x : Pair ℕ) (elem : IsElem K x) (is : IsCanonicalText (small_ops f) word x)
        (forms : AllByRecursion IsFractionText ts) where
      pub words_one : ts ≡ words_of x ∷ []
      words_one =
          let each : AllByRecursion IsFractionText (w.0 ∷ []) = subst (AllByRecursion IsFractionText) w.1 forms in
          let t_is : w.0 ≡ words_of x = fraction_unique w.0 (words_of x) each.0 (form f (words_of x) (x, elem, refl))
          (sym word_is ∙ is.text ∙ text_words x) in
          w.1 ∙ ap (λ t. t ∷ []) t_is

      pub zero_multiplier : x.0 ≡ [] → ts ≡ zero_text ∷ []
      zero_multiplier none =
          words_one ∙ ap (λ y. words_of y ∷ []) (eq_zero (small_ops f) (small_laws f) x elem none)
          ∙ ap (λ t. t ∷ []) zero_words

      pub nonzero_multiplier : x.0 ≢ [] → ts ≢ zero_text ∷ []
      nonzero_multiplier some e =
          let both : words_of x ∷ [] ≡ zero_text ∷ [] = sym words_one ∙ e in
          let first : words_of x ≡ zero_text = ap (λ l. get_or l 0 zero_text) both in
          ne_zero (small_ops f) (small_laws f) x some
          (words_unique f x K.zero elem (zero_elem f) (first ∙ sym zero_words))
