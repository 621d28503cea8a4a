-- Each word spells a number, numbers, a list of numbers or a fraction, or none.
use Rattle.std.proofs.Common.{◌≡◌, ◌≢◌, ◌⊎◌, ℕ, ◌-◌, ◌<◌, zero, suc, Bool, true, false, nat_eq, List, [], ◌∷◌, ◌++◌}
use Rattle.std.proofs.Common.{length, take, drop, get_or, Option, Some, None, refl, sym, ap, ◌∙◌, inl, inr, arith}
use Rattle.std.specs.Prelude.{decimal}
use Rattle.std.specs.Cmp.Lexicographic.{pointwise}
use Rattle.std.proofs.lemmas.Bool.{cases_eq}
use Rattle.spl_text.specs.Text.{Lacks, HasFront, IsNumber, numbers_text, AreNumbers, IsNumberList}
use Rattle.spl_text.specs.Text.{fraction_text, IsFractionText}
use Rattle.spl_text.specs.Decided.{SpellsOrNot}
use Rattle.spl_text.proofs.Words.{Lacks-cons, Lacks-decimal, not_within, after-shorter, prefix_taken, no_prefix}
use Rattle.spl_text.proofs.Words.{number_read, number_takes, number_none, no_number_before}
use Rattle.spl_text.proofs.NumberLists.{more, rest_after, no_rest, alone, list_from_last, last_of_list, no_list}
use Rattle.spl_text.proofs.Fractions.{whole, not_whole, parts, not_left, not_right}

-- ---- a separator

-- the bytes before the first separator, and those after it
pub record Cut (separator : ℕ) (bytes : List ℕ) : Type 0 where
  pub left : List ℕ
  pub right : List ℕ
  pub lacks : Lacks separator left
  pub whole : bytes ≡ left ++ separator ∷ right

pub cut_or_lacks : (separator : ℕ) (bytes : List ℕ) → Cut separator bytes ⊎ Lacks separator bytes
cut_or_lacks separator [] = inr (λ k below. absurd (omega arith))
cut_or_lacks separator (b ∷ bytes) = go (cases_eq b separator) (cut_or_lacks separator bytes)
  where
    go : (b ≡ separator) ⊎ (b ≢ separator) → Cut separator bytes ⊎ Lacks separator bytes
        → Cut separator (b ∷ bytes) ⊎ Lacks separator (b ∷ bytes)
    go (inl same) rest = inl (record {
      left = [];
      right = bytes;
      lacks = λ k below. absurd (omega arith);
      whole = ap (λ x. x ∷ bytes) same;
    })
    go (inr other) (inl cut) = inl (record {
      left = b ∷ cut.left;
      right = cut.right;
      lacks = Lacks-cons separator b cut.left other cut.lacks;
      whole = ap (λ t. b ∷ t) cut.whole;
    })
    go (inr other) (inr lacks) = inr (Lacks-cons separator b bytes other lacks)

-- ---- a prefix

pub has_front : (front bytes : List ℕ) → HasFront front bytes ⊎ ((rest : List ℕ) → bytes ≢ front ++ rest)
has_front front bytes = go (pointwise nat_eq (take (length front) bytes) front) refl
  where
    go : (same : Bool) → pointwise nat_eq (take (length front) bytes) front ≡ same
        → HasFront front bytes ⊎ ((rest : List ℕ) → bytes ≢ front ++ rest)
    go true e = inl (drop (length front) bytes, prefix_taken front bytes e)
    go false e = inr (no_prefix front bytes e)

-- ---- numbers

pub number_decided : (word : List ℕ) → SpellsOrNot IsNumber decimal word
number_decided word = go (number_read word) refl
  where
    go : (n : Option ℕ) → number_read word ≡ n → SpellsOrNot IsNumber decimal word
    go None e = inr (number_none word e)
    go (Some n) e = let found = number_takes word n e in inl (n, found.0, found.1)

-- a number stands before the separator
pub record HasNumber (separator : ℕ) (bytes : List ℕ) : Type 0 where
  pub number : ℕ
  pub rest : List ℕ
  pub is : IsNumber number
  pub spelled : bytes ≡ decimal number ++ separator ∷ rest

pub has_number : (separator : ℕ) (bytes : List ℕ) → separator < 48 → HasNumber separator bytes
    ⊎ ((n : ℕ) (rest : List ℕ) → IsNumber n → bytes ≢ decimal n ++ separator ∷ rest)
has_number separator bytes low = go (cut_or_lacks separator bytes)
  where
    read : (cut : Cut separator bytes) → SpellsOrNot IsNumber decimal cut.left → HasNumber separator bytes
        ⊎ ((n : ℕ) (rest : List ℕ) → IsNumber n → bytes ≢ decimal n ++ separator ∷ rest)
    read cut (inl some) = inl (record {
      number = some.0;
      rest = cut.right;
      is = some.1;
      spelled = cut.whole ∙ ap (λ t. t ++ separator ∷ cut.right) some.2;
    })
    read cut (inr none) = inr (no_number_before separator bytes cut.left cut.right low cut.lacks cut.whole none)

    go : Cut separator bytes ⊎ Lacks separator bytes → HasNumber separator bytes
        ⊎ ((n : ℕ) (rest : List ℕ) → IsNumber n → bytes ≢ decimal n ++ separator ∷ rest)
    go (inl cut) = read cut (number_decided cut.left)
    go (inr lacks) = inr (λ n rest is e. not_within separator bytes (decimal n) rest e lacks)

-- ---- numbers with commas

-- the word that has no comma
without_comma : (word : List ℕ) → Lacks 44 word → SpellsOrNot IsNumber decimal word
    → SpellsOrNot AreNumbers numbers_text word
without_comma word lacks (inl n) = inl (n.0 ∷ [], record { some = omega arith; each = (n.1, tt) }, n.2)
without_comma word lacks (inr none) =
    inr (λ ns are e. no_rest word ns are e (λ n after is s. not_within 44 word (decimal n) after s lacks) none)

-- the word has one, and no number stands before it
no_first : (word : List ℕ) (cut : Cut 44 word) → ((n : ℕ) → IsNumber n → cut.left ≢ decimal n)
    → (ns : List ℕ) → AreNumbers ns → word ≢ numbers_text ns
no_first word cut none ns are e =
    no_rest word ns are e (no_number_before 44 word cut.left cut.right (omega arith) cut.lacks cut.whole none)
    (λ n is s. not_within 44 (decimal n) cut.left cut.right (sym s ∙ cut.whole) (Lacks-decimal 44 n (omega arith) is))

-- a number stands before it
with_first : (word : List ℕ) (n : ℕ) (right : List ℕ) → IsNumber n → word ≡ decimal n ++ 44 ∷ right
    → SpellsOrNot AreNumbers numbers_text right → SpellsOrNot AreNumbers numbers_text word
with_first word n right is e (inl ([], are, s)) = absurd (omega (arith, are.some))
with_first word n right is e (inl (m ∷ ms, are, s)) = inl (
  n ∷ m ∷ ms,
  record { some = omega arith; each = (is, are.each) },
  e ∙ ap (λ t. decimal n ++ 44 ∷ t) s ∙ sym (more n m ms),
)
with_first word n right is e (inr none) =
    inr (λ ms are s. let left = rest_after ms right n are is (sym s ∙ e) in none left.numbers left.are left.spelled)

pub numbers_within : (size : ℕ) (word : List ℕ) → length word < size → SpellsOrNot AreNumbers numbers_text word
numbers_within zero word short = absurd (omega arith)
numbers_within (suc size) word short = go (cut_or_lacks 44 word) (numbers_within size)
  where
    read : (cut : Cut 44 word) → SpellsOrNot IsNumber decimal cut.left
        → ((rest : List ℕ) → length rest < size → SpellsOrNot AreNumbers numbers_text rest)
        → SpellsOrNot AreNumbers numbers_text word
    read cut (inl n) again =
        with_first word n.0 cut.right n.1 (cut.whole ∙ ap (λ t. t ++ 44 ∷ cut.right) n.2)
        (again cut.right (omega (arith, short, after-shorter 44 word cut.left cut.right cut.whole)))
    read cut (inr none) again = inr (no_first word cut none)

    go : Cut 44 word ⊎ Lacks 44 word
        → ((rest : List ℕ) → length rest < size → SpellsOrNot AreNumbers numbers_text rest)
        → SpellsOrNot AreNumbers numbers_text word
    go (inl cut) again = read cut (number_decided cut.left) again
    go (inr lacks) again = without_comma word lacks (number_decided word)

pub numbers_decided : (word : List ℕ) → SpellsOrNot AreNumbers numbers_text word
numbers_decided word = numbers_within (suc (length word)) word (omega arith)

-- ---- lists of numbers

is_list : (ns : List ℕ) → AreNumbers ns → IsNumberList ns ⊎ (IsNumberList ns → ⊥)
is_list ns are = go (cases_eq (length ns) 1) (cases_eq (get_or ns (length ns - 1) 0) 0)
  where
    go : (length ns ≡ 1) ⊎ (length ns ≢ 1) → (get_or ns (length ns - 1) 0 ≡ 0) ⊎ (get_or ns (length ns - 1) 0 ≢ 0)
        → IsNumberList ns ⊎ (IsNumberList ns → ⊥)
    go (inl one) last = inl (alone ns are one)
    go (inr several) (inl nought) = inr (λ list. last_of_list ns several list nought)
    go (inr several) (inr other) = inl (list_from_last ns are other)

pub list_decided : (word : List ℕ) → SpellsOrNot IsNumberList numbers_text word
list_decided word = go (numbers_decided word)
  where
    read : (ns : List ℕ) → AreNumbers ns → word ≡ numbers_text ns → IsNumberList ns ⊎ (IsNumberList ns → ⊥)
        → SpellsOrNot IsNumberList numbers_text word
    read ns are e (inl list) = inl (ns, list, e)
    read ns are e (inr other) = inr (no_list word ns are e other)

    go : SpellsOrNot AreNumbers numbers_text word → SpellsOrNot IsNumberList numbers_text word
    go (inl ns) = read ns.0 ns.1 ns.2 (is_list ns.0 ns.1)
    go (inr none) = inr (λ ns list. none ns list.numbers)

-- ---- fractions

pub fraction_decided : (word : List ℕ) → SpellsOrNot IsFractionText fraction_text word
fraction_decided word = go (cut_or_lacks 47 word)
  where
    alone_list : Lacks 47 word → SpellsOrNot IsNumberList numbers_text word
        → SpellsOrNot IsFractionText fraction_text word
    alone_list lacks (inl ns) =
        let is = whole word ns.0 ns.1 ns.2 in inl (record { numerator = ns.0; denominator = None }, is.0, is.1)
    alone_list lacks (inr none) = inr (not_whole word lacks none)

    both : (cut : Cut 47 word) → SpellsOrNot IsNumberList numbers_text cut.left
        → SpellsOrNot IsNumberList numbers_text cut.right → SpellsOrNot IsFractionText fraction_text word
    both cut (inr none) den = inr (not_left word cut.left cut.right cut.lacks cut.whole none)
    both cut (inl num) (inr none) = inr (not_right word cut.left cut.right cut.lacks cut.whole none)
    both cut (inl num) (inl den) =
        let is = parts word cut.left cut.right num.0 den.0 cut.whole num.1 den.1 num.2 den.2 in
        inl (record { numerator = num.0; denominator = Some den.0 }, is.0, is.1)

    go : Cut 47 word ⊎ Lacks 47 word → SpellsOrNot IsFractionText fraction_text word
    go (inl cut) = both cut (list_decided cut.left) (list_decided cut.right)
    go (inr lacks) = alone_list lacks (list_decided word)
