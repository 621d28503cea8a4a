-- The fraction that a word spells: at most one.
use Rattle.std.proofs.Common.{◌≡◌, ◌≢◌, ◌<◌, ℕ, List, [], ◌∷◌, ◌++◌, Option, Some, None, sym, ap, ◌∙◌, arith}
use Rattle.std.proofs.Common.{append-nil}
use Rattle.std.specs.Prelude.{IfSome}
use Rattle.spl_text.specs.Text.{Lacks, numbers_text, IsNumberList, FractionText, fraction_text, denominator_text}
use Rattle.spl_text.specs.Text.{IsFractionText}
use Rattle.spl_text.proofs.Words.{Lacks-append, Lacks-cons, not_within, split_unique}
use Rattle.spl_text.proofs.NumberLists.{Lacks-numbers_text, numbers_unique}

no_slash : (ns : List ℕ) → IsNumberList ns → Lacks 47 (numbers_text ns)
no_slash ns is = Lacks-numbers_text 47 ns (omega arith) (λ e. omega arith) is.numbers.each

-- the parts of a fraction's word
split_fraction : (left right num den : List ℕ) → Lacks 47 left → IsNumberList num
    → left ++ 47 ∷ right ≡ numbers_text num ++ 47 ∷ numbers_text den → (left ≡ numbers_text num)
    × (right ≡ numbers_text den)
split_fraction left right num den lacks is e =
    split_unique 47 left (numbers_text num) right (numbers_text den) lacks (no_slash num is) e

pub Lacks-fraction_text : (separator : ℕ) (t : FractionText) → separator < 44 → IsFractionText t
    → Lacks separator (fraction_text t)
Lacks-fraction_text separator t low is = go t.denominator is.denominator
  where
    front : Lacks separator (numbers_text t.numerator)
    front = Lacks-numbers_text separator t.numerator (omega arith) (λ e. omega arith) is.numerator.numbers.each

    go : (den : Option (List ℕ)) → IfSome den IsNumberList
        → Lacks separator (numbers_text t.numerator ++ denominator_text den)
    go None den_is = Lacks-append separator (numbers_text t.numerator) [] front (λ i below. absurd (omega arith))
    go (Some den) den_is =
        Lacks-append separator (numbers_text t.numerator) (47 ∷ numbers_text den) front
        (Lacks-cons separator 47 (numbers_text den) (λ e. omega arith)
        (Lacks-numbers_text separator den (omega arith) (λ e. omega arith) den_is.numbers.each))

-- ---- a word without a slash

pub whole : (word ns : List ℕ) → IsNumberList ns → word ≡ numbers_text ns
    → IsFractionText (record { numerator = ns; denominator = None })
    × (word ≡ fraction_text (record { numerator = ns; denominator = None }))
whole word ns is e = (record { numerator = is; denominator = tt }, e ∙ sym (append-nil (numbers_text ns)))

pub not_whole : (word : List ℕ) → Lacks 47 word → ((ns : List ℕ) → IsNumberList ns → word ≢ numbers_text ns)
    → (t : FractionText) → IsFractionText t → word ≢ fraction_text t
not_whole word unsplit none t is e = go t.numerator t.denominator is.numerator e
  where
    go : (num : List ℕ) (den : Option (List ℕ)) → IsNumberList num → word ≢ numbers_text num ++ denominator_text den
    go num None is_num same = none num is_num (same ∙ append-nil (numbers_text num))
    go num (Some den) is_num same = absurd (not_within 47 word (numbers_text num) (numbers_text den) same unsplit)

-- ---- a word with a slash

pub parts : (word left right num den : List ℕ) → word ≡ left ++ 47 ∷ right → IsNumberList num → IsNumberList den
    → left ≡ numbers_text num → right ≡ numbers_text den
    → IsFractionText (record { numerator = num; denominator = Some den })
    × (word ≡ fraction_text (record { numerator = num; denominator = Some den }))
parts word left right num den split is_num is_den l r =
    (record { numerator = is_num; denominator = is_den }, rw (← l, ← r) split)

-- the word has two parts, and each spells a list
pub parts_again : (word left right : List ℕ) → Lacks 47 left → word ≡ left ++ 47 ∷ right → (t : FractionText)
    → IsFractionText t → word ≡ fraction_text t
    → ((den : List ℕ) → IsNumberList den → left ≡ numbers_text t.numerator → right ≡ numbers_text den → ⊥) → ⊥
parts_again word left right lacks split t is e none = go t.numerator t.denominator is.numerator is.denominator e none
  where
    go : (num : List ℕ) (den : Option (List ℕ)) → IsNumberList num → IfSome den IsNumberList
        → word ≡ numbers_text num ++ denominator_text den
        → ((ds : List ℕ) → IsNumberList ds → left ≡ numbers_text num → right ≡ numbers_text ds → ⊥) → ⊥
    go num None is_num is_den same neither =
        not_within 47 (numbers_text num) left right (sym (same ∙ append-nil (numbers_text num)) ∙ split)
        (no_slash num is_num)
    go num (Some den) is_num is_den same neither =
        let p = split_fraction left right num den lacks is_num (sym split ∙ same) in
        neither den is_den p.0 p.1

pub not_left : (word left right : List ℕ) → Lacks 47 left → word ≡ left ++ 47 ∷ right
    → ((ns : List ℕ) → IsNumberList ns → left ≢ numbers_text ns) → (t : FractionText) → IsFractionText t
    → word ≢ fraction_text t
not_left word left right lacks split none t is e =
    parts_again word left right lacks split t is e (λ den is_den l r. none t.numerator is.numerator l)

pub not_right : (word left right : List ℕ) → Lacks 47 left → word ≡ left ++ 47 ∷ right
    → ((ns : List ℕ) → IsNumberList ns → right ≢ numbers_text ns) → (t : FractionText) → IsFractionText t
    → word ≢ fraction_text t
not_right word left right lacks split none t is e =
    parts_again word left right lacks split t is e (λ den is_den l r. none den is_den r)

-- ---- a word spells one fraction

pub fraction_unique : (t u : FractionText) → IsFractionText t → IsFractionText u → fraction_text t ≡ fraction_text u
    → t ≡ u
fraction_unique t u is_t is_u e =
    go t.numerator u.numerator t.denominator u.denominator is_t.numerator is_u.numerator is_t.denominator
    is_u.denominator e
  where
    go : (n m : List ℕ) (d b : Option (List ℕ)) → IsNumberList n → IsNumberList m → IfSome d IsNumberList
        → IfSome b IsNumberList → numbers_text n ++ denominator_text d ≡ numbers_text m ++ denominator_text b
        → ◌≡◌ {A = FractionText} (record { numerator = n; denominator = d }) (record { numerator = m; denominator = b })
    go n m None None is_n is_m is_d is_b same =
        ap (λ a. record { numerator = a; denominator = None })
        (numbers_unique n m is_n.numbers is_m.numbers
        (sym (append-nil (numbers_text n)) ∙ same ∙ append-nil (numbers_text m)))
    go n m None (Some b) is_n is_m is_d is_b same =
        absurd (not_within 47 (numbers_text n) (numbers_text m) (numbers_text b)
        (sym (append-nil (numbers_text n)) ∙ same) (no_slash n is_n))
    go n m (Some d) None is_n is_m is_d is_b same =
        absurd (not_within 47 (numbers_text m) (numbers_text n) (numbers_text d)
        (sym (append-nil (numbers_text m)) ∙ sym same) (no_slash m is_m))
    go n m (Some d) (Some b) is_n is_m is_d is_b same =
        let p = split_fraction (numbers_text n) (numbers_text d) m b (no_slash n is_n) is_m same in
        let nums = numbers_unique n m is_n.numbers is_m.numbers p.0 in
        let dens = numbers_unique d b is_d.numbers is_b.numbers p.1 in
        cc
