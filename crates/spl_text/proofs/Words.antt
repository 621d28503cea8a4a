-- The words of a text: what stands before a byte, what follows a prefix, and numbers.
use Rattle.std.proofs.Common.{◌≡◌, ◌≢◌, ℕ, zero, suc, ◌+◌, ◌-◌, ◌^◌, ◌<◌, ◌≤◌, ◌==◌, ◌&&◌, ◌||◌, Bool, true, false, not}
use Rattle.std.proofs.Common.{cond, eqb, ltb, leb, nat_eq, List, [], ◌∷◌, ◌++◌, length, take, drop, get_or, slice_index}
use Rattle.std.proofs.Common.{Option, Some, None, refl, sym, ap, subst, ◌∙◌, inl, inr, arith, lit<, append_assoc}
use Rattle.std.specs.Prelude.{position, decimal, nat_lt, nat_le, MatchOption}
use Rattle.std.specs.Bool.{then_some}
use Rattle.std.specs.List.{position_or_len, list_all}
use Rattle.std.specs.Str.{all_ascii_digits}
use Rattle.std.specs.Str.Parse.{digits_value}
use Rattle.std.specs.Cmp.Lexicographic.{pointwise, same_text}
use Rattle.std.proofs.Math.Nat.{pow-le-pow_right}
use Rattle.std.proofs.lemmas.Bool.{ltb-true, leb-true, eqb-true, eqb-false, eq-eqb, ne_eqb, lt-ltb, le-leb, and_parts}
use Rattle.std.proofs.lemmas.Bool.{or_cases, or_left, not-true, both_ways, not_from_false, cases_lt}
use Rattle.std.proofs.lemmas.Cmp.{nat_list_eq_equiv}
use Rattle.std.proofs.lemmas.Fmt.{decimal-digits_value, digits_decimal, digits_value-decimal, decimal_nonempty}
use Rattle.std.proofs.lemmas.Fmt.{length-decimal-le, first_decimal, decimal_digit, decimal_injective}
use Rattle.std.proofs.lemmas.List.{take_at, take-append-drop, get_or-take, get_or_at, get_or_append_left}
use Rattle.std.proofs.lemmas.List.{get_or-append_right, length-append, length-take}
use Rattle.std.proofs.lemmas.List.Sums.{split_at_first, passes_at_first, fails_before_first}
use Rattle.std.proofs.lemmas.Option.{cond_some}
use Rattle.std.proofs.lemmas.Str.Parse.{IsNumeralModel, numerals_by_value, tells_all_ascii_digits, digits_value_short}
use Rattle.std.proofs.lemmas.Str.Parse.{not_in_digits}
use Rattle.spl_text.specs.Text.{Lacks, IsNumber, line}

-- ---- bytes that a list lacks

-- a literal word, by computation
pub Lacks-from_test : (separator : ℕ) (bytes : List ℕ) → list_all (λ b. not (eqb b separator)) bytes ≡ true
    → Lacks separator bytes
Lacks-from_test separator [] test i below e = omega arith
Lacks-from_test separator (b ∷ bytes) test zero below e =
    let parts = and_parts (not (eqb b separator)) (list_all (λ x. not (eqb x separator)) bytes) test in
    both_ways (eqb b separator) (not-true _ parts.0) (eq-eqb b separator e)
Lacks-from_test separator (b ∷ bytes) test (suc i) below e =
    let parts = and_parts (not (eqb b separator)) (list_all (λ x. not (eqb x separator)) bytes) test in
    Lacks-from_test separator bytes parts.1 i (omega arith) e

pub Lacks-cons : (separator b : ℕ) (bytes : List ℕ) → b ≢ separator → Lacks separator bytes
    → Lacks separator (b ∷ bytes)
Lacks-cons separator b bytes other lacks zero below = other
Lacks-cons separator b bytes other lacks (suc i) below = lacks i (omega arith)

-- a byte that stands in the list
pub not_within : (separator : ℕ) (bytes front rest : List ℕ) → bytes ≡ front ++ separator ∷ rest
    → Lacks separator bytes → ⊥
not_within separator bytes front rest e lacks =
    let within : length front < length bytes = rw e (omega (arith, length-append front (separator ∷ rest))) in
    lacks (length front) within (rw e (get_or_at front separator rest 0 (length front) refl))

pub Lacks-append : (separator : ℕ) (xs ys : List ℕ) → Lacks separator xs → Lacks separator ys
    → Lacks separator (xs ++ ys)
Lacks-append separator xs ys left right i below =
    elim (cases_lt i (length xs)) [
      | inl within ↦ rw (get_or_append_left xs ys 0 i within) (left i within)
      | inr past ↦ rw (get_or-append_right xs ys (length xs) i 0 refl past)
          (right (i - length xs) (omega (arith, length-append xs ys)))
    ]

-- ---- what stands before a separator

-- a list is cut at its first separator in one way
pub split_unique : (separator : ℕ) (a b x y : List ℕ) → Lacks separator a → Lacks separator b
    → a ++ separator ∷ x ≡ b ++ separator ∷ y → (a ≡ b) × (x ≡ y)
split_unique separator [] [] x y la lb e = (refl, cc)
split_unique separator [] (b ∷ v) x y la lb e = absurd (lb 0 (omega arith) cc)
split_unique separator (a ∷ u) [] x y la lb e = absurd (la 0 (omega arith) cc)
split_unique separator (a ∷ u) (b ∷ v) x y la lb e =
    let heads : a ≡ b = cc in
    let tails : u ++ separator ∷ x ≡ v ++ separator ∷ y = cc in
    let both = split_unique separator u v x y (λ i below. la (suc i) (omega arith))
    (λ i below. lb (suc i) (omega arith)) tails in
    (cc (heads, both.0), both.1)

-- a line ends at the first newline
pub line_unique : (t u x y : List ℕ) → Lacks 10 t → Lacks 10 u → line t ++ x ≡ line u ++ y → (t ≡ u) × (x ≡ y)
line_unique t u x y lt lu e =
    split_unique 10 t u x y lt lu (sym (append_assoc t (10 ∷ []) x) ∙ e ∙ append_assoc u (10 ∷ []) y)

module _ (separator : ℕ) (bytes : List ℕ) where
  abbrev is_separator : ℕ → Bool
  is_separator b = eqb b separator

  pub split_at : (i : ℕ) → position (λ b. b == separator) bytes ≡ Some i → Lacks separator (take i bytes)
      × (bytes ≡ take i bytes ++ separator ∷ drop (i + 1) bytes)
  split_at i at =
      let found = cond_some (ltb (position_or_len is_separator bytes) (length bytes))
      (position_or_len is_separator bytes) i at in
      let within : position_or_len is_separator bytes < length bytes = ltb-true _ _ found.0 in
      let is : get_or bytes (position_or_len is_separator bytes) 0 ≡ separator =
      eqb-true _ _ (passes_at_first is_separator bytes 0 within) in
      let whole = rw is at (split_at_first is_separator bytes 0 within) in (
        λ k below. let before : k < i = omega (arith, length-take i bytes) in
            rw (get_or-take i bytes k 0 before)
            (eqb-false _ _ (fails_before_first is_separator bytes k 0 (omega (arith, before, found.1)))),
        subst (λ j. bytes ≡ take j bytes ++ separator ∷ drop (j + 1) bytes) found.1 whole,
      )

  pub lacks_all : position (λ b. b == separator) bytes ≡ None → Lacks separator bytes
  lacks_all none k below =
      elim (cases_lt (position_or_len is_separator bytes) (length bytes)) [
        | inl within ↦ let some =
            ap (λ b. cond b (Some (position_or_len is_separator bytes)) None)
            (lt-ltb (position_or_len is_separator bytes) (length bytes) within) in
            let none_some = sym some ∙ none in absurd cc
        | inr past ↦ eqb-false _ _ (fails_before_first is_separator bytes k 0 (omega arith))
      ]

-- what stands after the separator is shorter than all
pub after-shorter : (separator : ℕ) (bytes front rest : List ℕ) → bytes ≡ front ++ separator ∷ rest
    → length rest < length bytes
after-shorter separator bytes front rest e = rw e (omega (arith, length-append front (separator ∷ rest)))

-- ---- a prefix

pub prefix_taken : (prefix bytes : List ℕ) → pointwise nat_eq (take (length prefix) bytes) prefix ≡ true
    → bytes ≡ prefix ++ drop (length prefix) bytes
prefix_taken prefix bytes same =
    sym (take-append-drop (length prefix) bytes)
    ∙ ap (λ t. t ++ drop (length prefix) bytes) (same_text (take (length prefix) bytes) prefix (sym same))

pub no_prefix : (prefix bytes : List ℕ) → pointwise nat_eq (take (length prefix) bytes) prefix ≡ false
    → (rest : List ℕ) → bytes ≢ prefix ++ rest
no_prefix prefix bytes other rest e =
    let front : take (length prefix) bytes ≡ prefix = rw e (take_at prefix rest (length prefix) refl) in
    let same = ap (λ t. pointwise nat_eq t prefix) front ∙ nat_list_eq_equiv.refl prefix in
    absurd cc

pub prefix_spelled : {X : Type 0} (now : X → List ℕ) (o : Option X) (prefix bytes : List ℕ)
    → MatchOption o (pointwise nat_eq (take (length prefix) bytes) prefix ≡ false)
    (λ x. (pointwise nat_eq (take (length prefix) bytes) prefix ≡ true) × (now x ≡ drop (length prefix) bytes)
    × (length (now x) + length prefix ≡ length bytes))
    → MatchOption o ((rest : List ℕ) → bytes ≢ prefix ++ rest) (λ x. bytes ≡ prefix ++ now x)
prefix_spelled now None prefix bytes other = no_prefix prefix bytes other
prefix_spelled now (Some x) prefix bytes same = prefix_taken prefix bytes same.0 ∙ ap (λ t. prefix ++ t) (sym same.1)

-- ---- numbers

-- one digit to nine, and no 0 before another digit
abbrev pub is_number : List ℕ → Bool
is_number word = all_ascii_digits word && nat_lt 0 (length word) && nat_le (length word) 9 &&
    (not (slice_index word 0 == 48) || (length word == 1))

-- the number of the digits, where they are those of one
unfoldable pub number_read : List ℕ → Option ℕ
number_read word = then_some (is_number word) (digits_value 10 word)

-- a test that passed
then_some_some : {A : Type 0} (test : Bool) (x y : A) → then_some test x ≡ Some y → (test ≡ true) × (x ≡ y)
then_some_some true x y e = (refl, cc)
then_some_some false x y e = absurd cc

-- what fewer than nine digits give
pub few_digits : (number digits : ℕ) → digits < 9 → number < 10 ^ digits → number < 10 ^ 8
few_digits number digits few below =
    let more : 10 ^ digits ≤ 10 ^ 8 = pow-le-pow_right {n = 10} (lit< tt) {j = 8} (omega arith) in
    omega (arith, more, below)

digits_model : IsNumeralModel (λ ds. all_ascii_digits ds ≡ true) (digits_value 10)
digits_model = numerals_by_value (λ ds. all_ascii_digits ds ≡ true) tells_all_ascii_digits

pub number_takes : (word : List ℕ) (n : ℕ) → number_read word ≡ Some n → IsNumber n × (word ≡ decimal n)
unfolding number_read
number_takes word n e =
    let found = then_some_some (is_number word) (digits_value 10 word) n e in
    let all = and_parts (all_ascii_digits word && ltb 0 (length word) && leb (length word) 9)
    (not (eqb (get_or word 0 0) 48) || eqb (length word) 1) found.0 in
    let three = and_parts (all_ascii_digits word && ltb 0 (length word)) (leb (length word) 9) all.0 in
    let two = and_parts (all_ascii_digits word) (ltb 0 (length word)) three.0 in
    let short : digits_value 10 word < 10 ^ 9 = digits_value_short digits_model word 9 two.0 (leb-true _ _ three.1) in
    let alone : get_or word 0 0 ≡ 48 → length word ≡ 1 = λ zero_first. elim (or_cases _ _ all.1) [
      | inl other ↦ absurd (both other (eq-eqb _ _ zero_first))
      | inr one ↦ eqb-true _ _ one
    ] in
    let spelled = decimal-digits_value digits_model word two.0 (ltb-true _ _ two.1) alone (omega (arith, short)) in
    (omega (arith, short, found.1), sym spelled ∙ ap decimal found.1)
  where
    both : not (eqb (get_or word 0 0) 48) ≡ true → eqb (get_or word 0 0) 48 ≡ true → ⊥
    both p q = cc

number_again : (n : ℕ) → n < 10 ^ 9 → number_read (decimal n) ≡ Some n
unfolding number_read
number_again n below =
    let small : n < 2 ^ 64 = omega arith in
    let digits = digits_decimal digits_model n small in
    let some = lt-ltb 0 (length (decimal n)) (decimal_nonempty n small) in
    let few = le-leb (length (decimal n)) 9 (length-decimal-le 9 n (lit< tt) below small) in
    rw (digits, some, few, plain n small, digits_value-decimal digits_model n small) refl
  where
    plain : (m : ℕ) → m < 2 ^ 64 → (not (eqb (get_or (decimal m) 0 0) 48) || eqb (length (decimal m)) 1) ≡ true
    plain zero small = rw (decimal_digit 0 (lit< tt)) refl
    plain (suc m) small =
        let first = get_or (decimal (suc m)) 0 0 in
        let above : 48 < first = first_decimal (suc m) (omega arith) small in
        or_left (not (eqb first 48)) _ (not_from_false _ (ne_eqb first 48 (λ e. omega arith)))

pub Lacks-decimal : (separator n : ℕ) → separator < 48 → n < 10 ^ 9 → Lacks separator (decimal n)
Lacks-decimal separator n low below =
    let small : n < 2 ^ 64 = omega arith in
    not_in_digits digits_model (decimal n) separator (digits_decimal digits_model n small) (λ within. omega arith)

-- where the digits give no number, the word spells none
pub number_none : (word : List ℕ) → number_read word ≡ None → (n : ℕ) → IsNumber n → word ≢ decimal n
number_none word none n is e = let some = ap number_read e ∙ number_again n is in absurd cc

pub number_unique : (n m : ℕ) → IsNumber n → IsNumber m → decimal n ≡ decimal m → n ≡ m
number_unique n m is_n is_m e = decimal_injective n m (omega arith) (omega arith) e

-- a number that stands before a byte that is no digit
pub number_and_rest : (separator n m : ℕ) (x y : List ℕ) → separator < 48 → IsNumber n → IsNumber m
    → decimal n ++ separator ∷ x ≡ decimal m ++ separator ∷ y → (n ≡ m) × (x ≡ y)
number_and_rest separator n m x y low is_n is_m e =
    let both = split_unique separator (decimal n) (decimal m) x y (Lacks-decimal separator n low is_n)
    (Lacks-decimal separator m low is_m) e in
    (number_unique n m is_n is_m both.0, both.1)

-- where the word before the separator is no number, none stands there
pub no_number_before : (separator : ℕ) (bytes word rest : List ℕ) → separator < 48 → Lacks separator word
    → bytes ≡ word ++ separator ∷ rest → ((n : ℕ) → IsNumber n → word ≢ decimal n)
    → (n : ℕ) (after : List ℕ) → IsNumber n → bytes ≢ decimal n ++ separator ∷ after
no_number_before separator bytes word rest low lacks cut none n after is e =
    none n is (split_unique separator word (decimal n) rest after lacks (Lacks-decimal separator n low is)
    (sym cut ∙ e)).0
