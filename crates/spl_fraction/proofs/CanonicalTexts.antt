-- A canonical text spells the numbers of one fraction.
use Rattle.std.specs.Prelude.{◌≡◌, ◌≢◌, ℕ, ◌<◌, ◌≤◌, List, [], ◌∷◌, ◌++◌, length, Option, Some, None, IfSome}
use Rattle.std.specs.Prelude.{MatchOption}
use Rattle.std.proofs.Common.{refl, sym, ◌∙◌, ap, ap₂, arith, subst, inl, inr, ⊎_elim, lit<}
use Rattle.std.proofs.lemmas.Bool.{ltb-true}
use Rattle.std.proofs.lemmas.List.Elements.{All-nil, All-cons, All-weaker, recursion_from_All}
use Rattle.theory_rings.specs.Ops.{Ops, IsElem, FieldLaws}
use Rattle.theory_rings.specs.Sum.{at}
use Rattle.theory_rings.specs.Polynomial.{IsTrimmed, degree}
use Rattle.spl_field.specs.SmallField.{small_ops, small_laws}
use Rattle.spl_field.specs.declared.small.SmallField.{SmallField}
use Rattle.spl_poly.specs.Operations.{IsOver, without_zeros}
use Rattle.spl_poly.proofs.Trimming.{without_zeros_unique}
use Rattle.spl_text.specs.Text.{IsNumber, IsNumberList, FractionText, IsFractionText, fraction_text, numbers_text}
use Rattle.spl_text.specs.Text.{coefficients_text, denominator_text}
use Rattle.spl_text.proofs.NumberLists.{of_none}
use Rattle.spl_text.proofs.Fractions.{fraction_unique}
use Rattle.theory_fractions.specs.Fraction.{Pair, IsLowestTerms}
use Rattle.spl_fraction.specs.CanonicalText.{denominator_text as canonical_denominator, canonical_text, IsCanonicalText}
use Rattle.spl_fraction.specs.CanonicalWords.{numbers_of, denominator_of, words_of}

-- ---- the words of a fraction spell its text

text_numbers : (u : List ℕ) → coefficients_text u ≡ numbers_text (numbers_of u)
text_numbers [] = of_none [] refl
text_numbers (c ∷ cs) = refl

text_denominator : (v : List ℕ) → canonical_denominator v ≡ denominator_text (denominator_of v)
text_denominator [] = refl
text_denominator (c ∷ []) = refl
text_denominator (c ∷ d ∷ ds) = refl

pub text_words : (w : Pair ℕ) → canonical_text w ≡ fraction_text (words_of w)
text_words w = ap₂ (λ x y. x ++ y) (text_numbers w.0) (text_denominator w.1)

-- the coefficients back from the numbers
without_zeros_trimmed : (u : List ℕ) → IsTrimmed 0 u → without_zeros u ≡ u
without_zeros_trimmed u t = sym (without_zeros_unique u u t (λ k. refl))

pub without_zeros-numbers_of : (u : List ℕ) → IsTrimmed 0 u → without_zeros (numbers_of u) ≡ u
without_zeros-numbers_of [] t = refl
without_zeros-numbers_of (c ∷ cs) t = without_zeros_trimmed (c ∷ cs) t

numbers_of-some : (u : List ℕ) → 0 < length u → numbers_of u ≡ u
numbers_of-some [] l = absurd (omega arith)
numbers_of-some (c ∷ cs) l = refl

pub numbers_of-without_zeros : (ns : List ℕ) → IsNumberList ns → numbers_of (without_zeros ns) ≡ ns
numbers_of-without_zeros ns h = let a = h.numbers in ⊎_elim
    (λ (e : ns ≡ 0 ∷ []). ap (λ x. numbers_of (without_zeros x)) e ∙ sym e)
    (λ (t : IsTrimmed 0 ns). ap numbers_of (without_zeros_trimmed ns t) ∙ numbers_of-some ns a.some)
    h.last

denominator_of-long : (v : List ℕ) → 1 < length v → denominator_of v ≡ Some v
denominator_of-long [] l = absurd (omega arith)
denominator_of-long (c ∷ []) l = absurd (omega arith)
denominator_of-long (c ∷ d ∷ ds) l = refl

-- a denominator that stands in the text
pub denominator-some : (v ds : List ℕ) → Some ds ≡ denominator_of v → (ds ≡ v) × (1 < length v)
denominator-some [] ds e = absurd cc
denominator-some (c ∷ []) ds e = absurd cc
denominator-some (c ∷ d ∷ vs) ds e = (cc, omega arith)

-- words are their parts
words_path : (t u : FractionText) → t.numerator ≡ u.numerator → t.denominator ≡ u.denominator → t ≡ u
words_path t u e d = ap₂ {A = List ℕ} {B = Option (List ℕ)} {C = FractionText}
    (λ x y. record { numerator = x; denominator = y }) e d

module _ (f : SmallField) where
  abbrev o : Ops ℕ
  o = small_ops f

  small : (n : ℕ) → IsElem o n → IsNumber n
  small n h = let below : n < f.size = ltb-true n f.size h in let most : f.size ≤ 256 = f.most in omega arith

  number_list : (u : List ℕ) → IsOver o u → IsTrimmed 0 u → IsNumberList (numbers_of u)
  number_list [] h t = record { numbers = record { some = lit< tt; each = (lit< tt, tt) }; last = inl refl }
  number_list (c ∷ cs) h t = record {
    numbers = record {
      some = omega arith;
      each =
          recursion_from_All IsNumber (c ∷ cs) (All-weaker (IsElem o) IsNumber small (c ∷ cs) h);
    };
    last = inr t;
  }

  pub numbers_over : (u : List ℕ) → IsOver o u → IsOver o (numbers_of u)
  numbers_over [] h = let L : FieldLaws o = small_laws f in All-cons (IsElem o) 0 [] L.zero-elem (All-nil (IsElem o))
  numbers_over (c ∷ cs) h = h

  denominator_list : (v : List ℕ) → IsOver o v → IsTrimmed 0 v → IfSome (denominator_of v) IsNumberList
  denominator_list [] h t = tt
  denominator_list (c ∷ []) h t = tt
  denominator_list (c ∷ d ∷ ds) h t = number_list (c ∷ d ∷ ds) h t

  pub is_fraction_text : (w : Pair ℕ) → IsLowestTerms o w.0 w.1 → IsFractionText (words_of w)
  is_fraction_text w h = record {
    numerator = number_list w.0 h.numerator_over h.numerator_trimmed;
    denominator = denominator_list w.1 h.denominator_over h.denominator_trimmed;
  }

  -- ---- what is read

  -- a word that spells no fraction is no canonical text
  pub no_text : (bytes : List ℕ) → ((t : FractionText) → IsFractionText t → bytes ≢ fraction_text t) → (w : Pair ℕ)
      → IsCanonicalText o bytes w → ⊥
  no_text bytes none w h = none (words_of w) (is_fraction_text w h.lowest) (h.text ∙ text_words w)

  -- a word that is a canonical text spells the words of its fraction
  pub same_words : (bytes : List ℕ) (t : FractionText) (w : Pair ℕ) → IsFractionText t → bytes ≡ fraction_text t
      → IsCanonicalText o bytes w → t ≡ words_of w
  same_words bytes t w ht e h =
      fraction_unique t (words_of w) ht (is_fraction_text w h.lowest) (sym e ∙ h.text ∙ text_words w)

  pub canonical_of_words : (bytes : List ℕ) (t : FractionText) (w : Pair ℕ) → bytes ≡ fraction_text t → t ≡ words_of w
      → IsLowestTerms o w.0 w.1
      → IsCanonicalText o bytes w
  canonical_of_words bytes t w e same h = record { lowest = h; text = e ∙ ap fraction_text same ∙ sym (text_words w) }

  -- the numerator of the text
  pub numerator_back : (t : FractionText) (w : Pair ℕ) → t ≡ words_of w → IsLowestTerms o w.0 w.1
      → IsOver o t.numerator × (without_zeros t.numerator ≡ w.0)
  numerator_back t w e h =
      let same : t.numerator ≡ numbers_of w.0 = ap (λ x. x.numerator) e in (
        subst (IsOver o) (sym same) (numbers_over w.0 h.numerator_over),
        ap without_zeros same ∙ without_zeros-numbers_of w.0 h.numerator_trimmed,
      )

  -- ---- a numerator alone

  -- the words of the one numerator over 1
  pub words_of_one : (t : FractionText) → IsFractionText t → t.denominator ≡ None
      → t ≡ words_of (without_zeros t.numerator, 1 ∷ [])
  words_of_one t h e =
      words_path t (words_of (without_zeros t.numerator, 1 ∷ []))
      (sym (numbers_of-without_zeros t.numerator h.numerator)) e

  -- ---- a numerator and a denominator

  pub words_of_both : (t : FractionText) (ds u v : List ℕ) → IsFractionText t → t.denominator ≡ Some ds
      → u ≡ without_zeros t.numerator
      → Some ds ≡ denominator_of v → t ≡ words_of (u, v)
  words_of_both t ds u v h e eu ev =
      words_path t (words_of (u, v)) (sym (ap numbers_of eu ∙ numbers_of-without_zeros t.numerator h.numerator))
      (e ∙ ev)

  -- the denominator of the text
  pub denominator_back : (ds v : List ℕ) → IsOver o v → IsTrimmed 0 v → Some ds ≡ denominator_of v → IsOver o ds
      × (without_zeros ds ≡ v) × (1 < length v)
  denominator_back ds v h t e =
      let s = denominator-some v ds e in
      (subst (IsOver o) (sym s.0) h, ap without_zeros s.0 ∙ without_zeros_trimmed v t, s.1)

  -- the denominator that was read
  pub denominator_forth : (ds v : List ℕ) → IsNumberList ds → v ≡ without_zeros ds → 1 < length v
      → Some ds ≡ denominator_of v
  denominator_forth ds v h e l =
      let same : numbers_of v ≡ ds = ap numbers_of e ∙ numbers_of-without_zeros ds h in
      ap (λ (x : List ℕ). Some x) (sym same ∙ numbers_of-some v (omega arith)) ∙ sym (denominator_of-long v l)

  -- a canonical text is that of one fraction
  pub canonical_unique : (bytes : List ℕ) (w x : Pair ℕ) → IsCanonicalText o bytes w → IsCanonicalText o bytes x → w ≡ x
  canonical_unique bytes w x h k =
      let e : words_of w ≡ words_of x =
      same_words bytes (words_of w) x (is_fraction_text w h.lowest) (h.text ∙ text_words w) k in
      let a = h.lowest in
      let b = k.lowest in
      ap₂ (λ u v. (u, v))
      (sym (without_zeros-numbers_of w.0 a.numerator_trimmed) ∙ ap (λ t. without_zeros t.numerator) e
      ∙ without_zeros-numbers_of x.0 b.numerator_trimmed)
      (go w.1 x.1 a.denominator_nonzero b.denominator_nonzero a.monic b.monic (ap (λ t. t.denominator) e))
    where
      go : (u v : List ℕ) → 0 < length u → 0 < length v → at o u (degree u) ≡ 1 → at o v (degree v) ≡ 1
          → denominator_of u ≡ denominator_of v → u ≡ v
      go [] v l m p q s = absurd (omega arith)
      go (c ∷ []) [] l m p q s = absurd (omega arith)
      go (c ∷ []) (d ∷ []) l m p q s = ap (λ y. y ∷ []) (p ∙ sym q)
      go (c ∷ []) (d ∷ e ∷ ds) l m p q s = absurd cc
      go (c ∷ b ∷ bs) [] l m p q s = absurd cc
      go (c ∷ b ∷ bs) (d ∷ []) l m p q s = absurd cc
      go (c ∷ b ∷ bs) (d ∷ e ∷ ds) l m p q s = cc

  -- what is read of the canonical text of a fraction is the fraction
  pub read_again : (bytes : List ℕ) (r : Option (Pair ℕ)) (w : Pair ℕ)
      → MatchOption r ((x : Pair ℕ) → IsCanonicalText o bytes x → ⊥) (IsCanonicalText o bytes)
      → IsLowestTerms o w.0 w.1 → bytes ≡ canonical_text w → r ≡ Some w
  read_again bytes None w h low e = absurd (h w record { lowest = low; text = e })
  read_again bytes (Some x) w h low e =
      ap (λ (y : Pair ℕ). Some y) (canonical_unique bytes x w h record { lowest = low; text = e })

-- weaker answers
pub match_option_map : {A : Type 0} {P P' : Type 0} {Q Q' : A → Type 0} (r : Option A) → (P' → P)
    → ((x : A) → Q' x → Q x) → MatchOption r P' Q' → MatchOption r P Q
match_option_map None p q h = p h
match_option_map (Some x) p q h = q x h

pub eq_none : {A : Type 0} (r : Option A) → ((x : A) → r ≡ Some x → ⊥) → r ≡ None
eq_none None n = refl
eq_none (Some x) n = absurd (n x refl)

pub some_of_match : {A : Type 0} (P : Type 0) {Q Q' : A → Type 0} (r : Option A) → ((x : A) → Q' x → Q x)
    → MatchOption r P Q' → IfSome r Q
some_of_match P None q h = tt
some_of_match P (Some x) q h = q x h
