-- The numbers that a word spells, joined by commas: read from the front, and at most once.
use Rattle.std.proofs.Common.{◌≡◌, ◌≢◌, ◌⊎◌, ℕ, zero, suc, ◌+◌, ◌-◌, ◌<◌, List, [], ◌∷◌, ◌++◌, length, get_or, take}
use Rattle.std.proofs.Common.{drop, refl, sym, ap, subst, ◌∙◌, inl, inr, arith, lit<, append_assoc, append-nil}
use Rattle.std.specs.Prelude.{decimal}
use Rattle.std.specs.List.{AllByRecursion, flat_map}
use Rattle.std.proofs.Math.Seq.{take-suc}
use Rattle.std.proofs.lemmas.Fmt.{decimal_digit}
use Rattle.std.proofs.lemmas.List.{length-append}
use Rattle.std.proofs.lemmas.List.Concat.{flat_map-append}
use Rattle.theory_rings.specs.Polynomial.{IsTrimmed}
use Rattle.spl_text.specs.Text.{Lacks, IsNumber, numbers_text, AreNumbers, IsNumberList, coefficients_text, HasFront}
use Rattle.spl_text.proofs.Words.{Lacks-append, Lacks-decimal, Lacks-cons, not_within, number_unique, number_and_rest}

-- ---- which bytes do not stand in the words

pub Lacks-numbers_text : (separator : ℕ) (ns : List ℕ) → separator < 48 → separator ≢ 44 → AllByRecursion IsNumber ns
    → Lacks separator (numbers_text ns)
Lacks-numbers_text separator [] low other each = λ i below. absurd (omega arith)
Lacks-numbers_text separator (n ∷ []) low other each = Lacks-decimal separator n low each.0
Lacks-numbers_text separator (n ∷ m ∷ ms) low other each =
    Lacks-append separator (decimal n ++ 44 ∷ []) (numbers_text (m ∷ ms))
    (Lacks-append separator (decimal n) (44 ∷ []) (Lacks-decimal separator n low each.0)
    (Lacks-cons separator 44 [] (λ e. other (sym e)) (λ i below. absurd (omega arith))))
    (Lacks-numbers_text separator (m ∷ ms) low other each.1)

-- ---- the numbers that were read so far

-- each number and a comma
abbrev pub commas_text : List ℕ → List ℕ
commas_text ns = flat_map (λ n. decimal n ++ 44 ∷ []) ns

pub more : (n m : ℕ) (ms : List ℕ) → numbers_text (n ∷ m ∷ ms) ≡ decimal n ++ 44 ∷ numbers_text (m ∷ ms)
more n m ms = append_assoc (decimal n) (44 ∷ []) (numbers_text (m ∷ ms))

commas_text-push : (ns rest : List ℕ) (n : ℕ)
    → commas_text ns ++ (decimal n ++ 44 ∷ rest) ≡ commas_text (ns ++ n ∷ []) ++ rest
commas_text-push ns rest n =
    rw (flat_map-append (λ m. decimal m ++ 44 ∷ []) ns (n ∷ [])) (simp (append_assoc, append-nil))

numbers_text-push : (ns : List ℕ) (n : ℕ) → commas_text ns ++ decimal n ≡ numbers_text (ns ++ n ∷ [])
numbers_text-push [] n = refl
numbers_text-push (a ∷ []) n = simp (append_assoc, append-nil)
numbers_text-push (a ∷ b ∷ bs) n = append_assoc (decimal a ++ 44 ∷ []) (commas_text (b ∷ bs)) (decimal n)
    ∙ ap (λ t. (decimal a ++ 44 ∷ []) ++ t) (numbers_text-push (b ∷ bs) n)

each-push : (ns : List ℕ) (n : ℕ) → AllByRecursion IsNumber ns → IsNumber n → AllByRecursion IsNumber (ns ++ n ∷ [])
each-push [] n each is = (is, tt)
each-push (m ∷ ms) n each is = (each.0, each-push ms n each.1 is)

AreNumbers-push : (ns : List ℕ) (n : ℕ) → AllByRecursion IsNumber ns → IsNumber n → AreNumbers (ns ++ n ∷ [])
AreNumbers-push ns n each is = record { some = omega (arith, length-append ns (n ∷ [])); each = each-push ns n each is }

-- the rest of numbers that are spelled
pub record Rest (rest : List ℕ) : Type 0 where
  pub numbers : List ℕ
  pub are : AreNumbers numbers
  pub spelled : rest ≡ numbers_text numbers

-- the numbers ns stand before the rest of the word, and if the word spells numbers, so does the rest
pub record SoFar (word rest ns : List ℕ) : Type 0 where
  pub each : AllByRecursion IsNumber ns
  pub spelled : word ≡ commas_text ns ++ rest
  pub again : (ms : List ℕ) → AreNumbers ms → word ≡ numbers_text ms → Rest rest

pub SoFar-none : (word : List ℕ) → SoFar word word []
SoFar-none word = record {
  each = tt;
  spelled = refl;
  again = λ ms are e.
      record { numbers = ms; are = are; spelled = e };
}

pub rest_after : (ls after : List ℕ) (n : ℕ) → AreNumbers ls → IsNumber n → numbers_text ls ≡ decimal n ++ 44 ∷ after
    → Rest after
rest_after [] after n are is read = absurd (omega (arith, are.some))
rest_after (m ∷ []) after n are is read =
    absurd (not_within 44 (decimal m) (decimal n) after read (Lacks-decimal 44 m (omega arith) are.each.0))
rest_after (m ∷ k ∷ ks) after n are is read =
    let both = number_and_rest 44 n m after (numbers_text (k ∷ ks)) (omega arith) is are.each.0
    (sym read ∙ more m k ks) in
    record { numbers = k ∷ ks; are = record { some = omega arith; each = are.each.1 }; spelled = both.1 }

pub SoFar-push : (word rest ns after : List ℕ) (n : ℕ) → SoFar word rest ns → IsNumber n
    → rest ≡ decimal n ++ 44 ∷ after → SoFar word after (ns ++ n ∷ [])
SoFar-push word rest ns after n so_far is read =
    record {
      each = each-push ns n so_far.each is;
      spelled = so_far.spelled ∙ ap (λ t. commas_text ns ++ t) read ∙ commas_text-push ns after n;
      again = λ ms are e. let left = so_far.again ms are e in
          rest_after left.numbers after n left.are is (sym left.spelled ∙ read);
    }

pub SoFar-last : (word rest ns : List ℕ) (n : ℕ) → SoFar word rest ns → IsNumber n → rest ≡ decimal n
    → AreNumbers (ns ++ n ∷ []) × (word ≡ numbers_text (ns ++ n ∷ []))
SoFar-last word rest ns n so_far is read =
    (AreNumbers-push ns n so_far.each is, so_far.spelled ∙ ap (λ t. commas_text ns ++ t) read ∙ numbers_text-push ns n)

pub no_rest : (rest ls : List ℕ) → AreNumbers ls → rest ≡ numbers_text ls
    → ((n : ℕ) (after : List ℕ) → IsNumber n → rest ≢ decimal n ++ 44 ∷ after)
    → ((n : ℕ) → IsNumber n → rest ≢ decimal n) → ⊥
no_rest rest [] are e unbefore unread = omega (arith, are.some)
no_rest rest (m ∷ []) are e unbefore unread = unread m are.each.0 e
no_rest rest (m ∷ k ∷ ks) are e unbefore unread = unbefore m (numbers_text (k ∷ ks)) are.each.0 (e ∙ more m k ks)

pub SoFar-stuck : (word rest ns : List ℕ) → SoFar word rest ns
    → ((n : ℕ) (after : List ℕ) → IsNumber n → rest ≢ decimal n ++ 44 ∷ after)
    → ((n : ℕ) → IsNumber n → rest ≢ decimal n)
    → (ms : List ℕ) → AreNumbers ms → word ≢ numbers_text ms
SoFar-stuck word rest ns so_far unbefore unread ms are e = let left = so_far.again ms are e in
    no_rest rest left.numbers left.are left.spelled unbefore unread

-- ---- a word spells one list

one_or_more : (n m k : ℕ) (ks : List ℕ) → IsNumber n → decimal n ≡ numbers_text (m ∷ k ∷ ks) → ⊥
one_or_more n m k ks is e =
    not_within 44 (decimal n) (decimal m) (numbers_text (k ∷ ks)) (e ∙ more m k ks)
    (Lacks-decimal 44 n (omega arith) is)

pub numbers_unique : (ns ms : List ℕ) → AreNumbers ns → AreNumbers ms → numbers_text ns ≡ numbers_text ms → ns ≡ ms
numbers_unique [] ms are_n are_m e = absurd (omega (arith, are_n.some))
numbers_unique (n ∷ ns) [] are_n are_m e = absurd (omega (arith, are_m.some))
numbers_unique (n ∷ []) (m ∷ []) are_n are_m e = ap (λ a. a ∷ []) (number_unique n m are_n.each.0 are_m.each.0 e)
numbers_unique (n ∷ []) (m ∷ k ∷ ks) are_n are_m e = absurd (one_or_more n m k ks are_n.each.0 e)
numbers_unique (n ∷ l ∷ ls) (m ∷ []) are_n are_m e = absurd (one_or_more m n l ls are_m.each.0 (sym e))
numbers_unique (n ∷ l ∷ ls) (m ∷ k ∷ ks) are_n are_m e =
    let parts = number_and_rest 44 n m (numbers_text (l ∷ ls)) (numbers_text (k ∷ ks))
    (omega arith) are_n.each.0 are_m.each.0 (sym (more n l ls) ∙ e ∙ more m k ks) in
    let tails = numbers_unique (l ∷ ls) (k ∷ ks) (record { some = omega arith; each = are_n.each.1 })
    (record { some = omega arith; each = are_m.each.1 }) parts.1 in
    ap (λ a. a ∷ l ∷ ls) parts.0 ∙ ap (λ t. m ∷ t) tails

-- ---- the last number

pub IsTrimmed-from_last : (n : ℕ) (ns : List ℕ) → get_or (n ∷ ns) (length ns) 0 ≢ 0 → IsTrimmed 0 (n ∷ ns)
IsTrimmed-from_last n [] last = last
IsTrimmed-from_last n (m ∷ ms) last = IsTrimmed-from_last m ms last

pub last-from_IsTrimmed : (n : ℕ) (ns : List ℕ) → IsTrimmed 0 (n ∷ ns) → get_or (n ∷ ns) (length ns) 0 ≢ 0
last-from_IsTrimmed n [] trimmed = trimmed
last-from_IsTrimmed n (m ∷ ms) trimmed = last-from_IsTrimmed m ms trimmed

pub alone : (ns : List ℕ) → AreNumbers ns → length ns ≡ 1 → IsNumberList ns
alone [] are one = absurd (omega arith)
alone (zero ∷ []) are one = record { numbers = are; last = inl refl }
alone (suc n ∷ []) are one = record { numbers = are; last = inr (λ e. omega arith) }
alone (n ∷ m ∷ ms) are one = absurd (omega arith)

-- the last of several numbers
pub list_from_last : (ns : List ℕ) → AreNumbers ns → get_or ns (length ns - 1) 0 ≢ 0 → IsNumberList ns
list_from_last [] are last = absurd (omega (arith, are.some))
list_from_last (n ∷ ns) are last =
    let e : length (n ∷ ns) - 1 ≡ length ns = omega arith in
    record { numbers = are; last = inr (IsTrimmed-from_last n ns (subst (λ i. get_or (n ∷ ns) i 0 ≢ 0) e last)) }

pub last_of_list : (ns : List ℕ) → length ns ≢ 1 → IsNumberList ns → get_or ns (length ns - 1) 0 ≢ 0
last_of_list [] several list = absurd (omega (arith, list.numbers.some))
last_of_list (n ∷ ns) several list =
    let e : length ns ≡ length (n ∷ ns) - 1 = omega arith in
    subst (λ i. get_or (n ∷ ns) i 0 ≢ 0) e (last-from_IsTrimmed n ns (trimmed list.last))
  where
    trimmed : (n ∷ ns ≡ 0 ∷ []) ⊎ IsTrimmed 0 (n ∷ ns) → IsTrimmed 0 (n ∷ ns)
    trimmed (inl zero_alone) = absurd (several (ap length zero_alone))
    trimmed (inr is) = is

-- a word spells no list, where it spells other numbers
pub no_list : (word ns : List ℕ) → AreNumbers ns → word ≡ numbers_text ns → (IsNumberList ns → ⊥) → (ms : List ℕ)
    → IsNumberList ms → word ≢ numbers_text ms
no_list word ns are spelled bad ms list e =
    bad (subst IsNumberList (numbers_unique ms ns list.numbers are (sym e ∙ spelled)) list)

-- ---- numbers that are written one after the other

push-to_some : (n : ℕ) (ns : List ℕ) (m : ℕ)
    → numbers_text (n ∷ ns) ++ (44 ∷ decimal m) ≡ numbers_text ((n ∷ ns) ++ m ∷ [])
push-to_some n [] m = sym (append_assoc (decimal n) (44 ∷ []) (decimal m))
push-to_some n (k ∷ ks) m = append_assoc (decimal n ++ 44 ∷ []) (numbers_text (k ∷ ks)) (44 ∷ decimal m)
    ∙ ap (λ t. (decimal n ++ 44 ∷ []) ++ t) (push-to_some k ks m)

-- the first i numbers and one more, of those after the first
pub numbers_text_more : (ns : List ℕ) (i : ℕ) → i < length (drop 1 ns)
    → numbers_text (take (i + 1) ns) ++ (44 ∷ decimal (get_or (drop 1 ns) i 0)) ≡ numbers_text (take (i + 1 + 1) ns)
numbers_text_more [] i below = absurd (omega arith)
numbers_text_more (n ∷ ns) i below =
    let e : i + 1 ≡ suc i = omega arith in
    let e' : i + 1 + 1 ≡ suc (i + 1) = omega arith in
    rw (e', e) (push-to_some n (take i ns) (get_or ns i 0)
    ∙ ap (λ t. numbers_text (n ∷ t)) (sym (take-suc ns i 0 below)))

-- the text begins as it did
pub after_comma : (old before comma new : List ℕ) (text : List ℕ) → before ≡ old ++ text → comma ≡ before ++ 44 ∷ []
    → new ≡ comma → HasFront old new
after_comma old before comma new text b c n =
    (text ++ 44 ∷ [], n ∙ c ∙ ap (λ t. t ++ 44 ∷ []) b ∙ append_assoc old text (44 ∷ []))

pub one_more : (c old before comma new : List ℕ) (i x : ℕ) → i < length (drop 1 c) → x ≡ get_or (drop 1 c) i 0
    → before ≡ old ++ numbers_text (take (i + 1) c) → comma ≡ before ++ 44 ∷ [] → new ≡ comma ++ decimal x
    → new ≡ old ++ numbers_text (take (i + 1 + 1) c)
one_more c old before comma new i x below item b k n =
    n ∙ ap (λ t. t ++ decimal x) (k ∙ ap (λ t. t ++ 44 ∷ []) b)
    ∙ ap (λ y. old ++ numbers_text (take (i + 1) c) ++ 44 ∷ [] ++ decimal y) item
    ∙ simp append_assoc (ap (λ t. old ++ t) (numbers_text_more c i below))

pub of_none : (c : List ℕ) → length c ≡ 0 → coefficients_text c ≡ decimal 0
of_none [] none = sym (decimal_digit 0 (lit< tt))
of_none (x ∷ xs) none = absurd (omega arith)
