-- The texts of places: a list has no slash, and begins with a digit, so that it isn't `infinity`.
use Rattle.std.proofs.Common.{◌≡◌, ◌≢◌, ◌↔◌, ℕ, true, ◌<◌, List, [], ◌∷◌, ◌++◌, length, drop, Option, Some, None}
use Rattle.std.proofs.Common.{refl, sym, ap, ◌∙◌, arith, append_assoc, append-nil}
use Rattle.std.specs.Prelude.{codes, decimal, IfSome}
use Rattle.std.specs.List.{AllByRecursion}
use Rattle.std.specs.Str.{all_ascii_digits}
use Rattle.std.proofs.lemmas.Fmt.{digits_decimal}
use Rattle.std.proofs.lemmas.Str.Parse.{numerals_by_value, tells_all_ascii_digits, not_in_digits}
use Rattle.spl_text.specs.Text.{Lacks, IsNumber, IsNumberList, FractionText, IsFractionText, fraction_text}
use Rattle.spl_text.specs.Text.{denominator_text, numbers_text as list_text}
use Rattle.spl_text.proofs.Words.{Lacks-cons, Lacks-append, not_within}
use Rattle.spl_text.proofs.NumberLists.{Lacks-numbers_text}
use Rattle.spl_evidence.specs.Line.{numbers_text, fractions_text}

-- ---- a separator above the digits

decimal_lacks : (separator n : ℕ) → 57 < separator → IsNumber n → Lacks separator (decimal n)
decimal_lacks separator n high is =
    let model = numerals_by_value (λ ds. all_ascii_digits ds ≡ true) tells_all_ascii_digits in
    not_in_digits model (decimal n) separator (digits_decimal model n (omega arith)) (λ within. omega arith)

list_lacks : (separator : ℕ) (ns : List ℕ) → 57 < separator → AllByRecursion IsNumber ns
    → Lacks separator (list_text ns)
list_lacks separator [] high each = λ i below. absurd (omega arith)
list_lacks separator (n ∷ []) high each = decimal_lacks separator n high each.0
list_lacks separator (n ∷ m ∷ ms) high each =
    Lacks-append separator (decimal n ++ 44 ∷ []) (list_text (m ∷ ms))
    (Lacks-append separator (decimal n) (44 ∷ []) (decimal_lacks separator n high each.0)
    (Lacks-cons separator 44 [] (λ e. omega arith) (λ i below. absurd (omega arith))))
    (list_lacks separator (m ∷ ms) high each.1)

fraction_lacks_above : (separator : ℕ) (t : FractionText) → 57 < separator → IsFractionText t
    → Lacks separator (fraction_text t)
fraction_lacks_above separator t high is = go t.denominator is.denominator
  where
    front : Lacks separator (list_text t.numerator)
    front = list_lacks separator t.numerator high is.numerator.numbers.each

    go : (den : Option (List ℕ)) → IfSome den IsNumberList
        → Lacks separator (list_text t.numerator ++ denominator_text den)
    go None den_is = Lacks-append separator (list_text t.numerator) [] front (λ i below. absurd (omega arith))
    go (Some den) den_is =
        Lacks-append separator (list_text t.numerator) (47 ∷ list_text den) front
        (Lacks-cons separator 47 (list_text den) (λ e. omega arith) (list_lacks separator den high den_is.numbers.each))

-- one fraction doesn't spell infinity
pub no_infinity : (ns : List ℕ) (ts : List FractionText) (rest : List ℕ) → length ns ≡ 0
    → length ts ≡ 1 → AllByRecursion IsFractionText ts → numbers_text ns ++ fractions_text ts ≢ codes " infinity" ++ rest
no_infinity (n ∷ ns) ts rest none one each e = absurd (omega arith)
no_infinity [] [] rest none one each e = absurd (omega arith)
no_infinity [] (t ∷ []) rest none one each e =
    let tails : fraction_text t ++ [] ≡ [] ++ (105 ∷ (codes "nfinity" ++ rest)) = ap (λ x. drop 1 x) e in
    not_within 105 (fraction_text t) [] (codes "nfinity" ++ rest) (sym (append-nil (fraction_text t)) ∙ tails)
    (fraction_lacks_above 105 t (omega arith) each.0)
no_infinity [] (t ∷ u ∷ ts) rest none one each e = absurd (omega arith)

-- ---- lists and slashes

lists_lack_slash : (ts : List FractionText) → AllByRecursion IsFractionText ts
    → AllByRecursion (λ t. t.denominator ≡ None) ts → Lacks 47 (fractions_text ts)
lists_lack_slash [] each lists = λ i below. absurd (omega arith)
lists_lack_slash (t ∷ ts) each lists =
    Lacks-append 47 (32 ∷ fraction_text t) (fractions_text ts)
    (Lacks-cons 47 32 (fraction_text t) (λ e. omega arith)
    (rw lists.0 (Lacks-append 47 (list_text t.numerator) []
    (Lacks-numbers_text 47 t.numerator (omega arith) (λ e. omega arith) each.0.numerator.numbers.each)
    (λ i below. absurd (omega arith)))))
    (lists_lack_slash ts each.1 lists.1)

are_lists_behind : (text front : List ℕ) (ts : List FractionText) → text ≡ front ++ fractions_text ts → Lacks 47 text
    → AllByRecursion (λ t. t.denominator ≡ None) ts
are_lists_behind text front [] e lacks = tt
are_lists_behind text front (t ∷ ts) e lacks = (
  is_list t.denominator refl,
  are_lists_behind text (front ++ 32 ∷ fraction_text t) ts
      (e ∙ sym (append_assoc front (32 ∷ fraction_text t) (fractions_text ts))) lacks,
)
  where
    is_list : (den : Option (List ℕ)) → t.denominator ≡ den → t.denominator ≡ None
    is_list None same = same
    is_list (Some den) same =
        let before = front ++ 32 ∷ list_text t.numerator in
        absurd (not_within 47 text before (list_text den ++ fractions_text ts)
        (e ∙ ap (λ d. front ++ ((32 ∷ (list_text t.numerator ++ denominator_text d)) ++ fractions_text ts)) same
        ∙ ap (λ x. front ++ x) (append_assoc (32 ∷ list_text t.numerator) (47 ∷ list_text den) (fractions_text ts))
        ∙ sym (append_assoc front (32 ∷ list_text t.numerator) (47 ∷ (list_text den ++ fractions_text ts)))) lacks)

-- the fractions of a text are lists exactly where it has no slash
pub lists_by_slash : (text : List ℕ) (ts : List FractionText) → AllByRecursion IsFractionText ts
    → text ≡ fractions_text ts → Lacks 47 text ↔ AllByRecursion (λ t. t.denominator ≡ None) ts
lists_by_slash text ts each e =
    (are_lists_behind text [] ts e, λ lists. rw e (lists_lack_slash ts each lists))
