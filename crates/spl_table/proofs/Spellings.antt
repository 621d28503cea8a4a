-- The lines of a table text are spelled in one way: two texts that begin with a line of a kind begin with the same.
use Rattle.std.proofs.Common.{◌≡◌, ◌≢◌, ℕ, List, [], ◌∷◌, ◌++◌, refl, sym, ap, ◌∙◌, arith, append_assoc}
use Rattle.std.specs.Prelude.{decimal, codes}
use Rattle.std.proofs.lemmas.List.{append_cancel_left}
use Rattle.spl_text.specs.Text.{Lacks, IsNumber, AreNumbers, FractionText, IsFractionText, numbers_text, fraction_text}
use Rattle.spl_text.specs.Text.{line}
use Rattle.spl_table.specs.TableText.{Entry, first_line, field_line, degree_line, entry_line, end_line, IsEntry}
use Rattle.spl_table.specs.Reading.{field_text, degree_text, entry_text}
use Rattle.spl_text.proofs.Words.{Lacks-append, Lacks-decimal, Lacks-from_test, split_unique, number_unique}
use Rattle.spl_text.proofs.Words.{number_and_rest, not_within}
use Rattle.spl_text.proofs.NumberLists.{Lacks-numbers_text, numbers_unique}
use Rattle.spl_text.proofs.Fractions.{fraction_unique, Lacks-fraction_text}

-- ---- it has no newline

Lacks-word : (word : List ℕ) (n : ℕ) → Lacks 10 word → IsNumber n → Lacks 10 (word ++ decimal n)
Lacks-word word n lacks is = Lacks-append 10 word (decimal n) lacks (Lacks-decimal 10 n (omega arith) is)

Lacks-space : (word : List ℕ) → Lacks 10 word → Lacks 10 (word ++ 32 ∷ [])
Lacks-space word lacks = Lacks-append 10 word (32 ∷ []) lacks (Lacks-from_test 10 (32 ∷ []) refl)

pub Lacks-first : Lacks 10 (codes "spl-table 1")
Lacks-first = Lacks-from_test 10 (codes "spl-table 1") refl

pub Lacks-end : Lacks 10 (codes "end")
Lacks-end = Lacks-from_test 10 (codes "end") refl

pub Lacks-field : (p : ℕ) (m : List ℕ) → IsNumber p → AreNumbers m → Lacks 10 (field_text p m)
Lacks-field p m is are =
    Lacks-append 10 (codes "field " ++ decimal p ++ 32 ∷ []) (numbers_text m)
    (Lacks-space (codes "field " ++ decimal p)
    (Lacks-word (codes "field ") p (Lacks-from_test 10 (codes "field ") refl) is))
    (Lacks-numbers_text 10 m (omega arith) (λ e. omega arith) are.each)

pub Lacks-degree : (n : ℕ) → IsNumber n → Lacks 10 (degree_text n)
Lacks-degree n is = Lacks-word (codes "degree ") n (Lacks-from_test 10 (codes "degree ") refl) is

pub Lacks-entry : (e : Entry) → IsEntry e → Lacks 10 (entry_text e)
Lacks-entry e is =
    Lacks-append 10 (decimal e.i ++ 32 ∷ [] ++ decimal e.j ++ 32 ∷ [] ++ decimal e.k ++ 32 ∷ []) (fraction_text e.value)
    (Lacks-space (decimal e.i ++ 32 ∷ [] ++ decimal e.j ++ 32 ∷ [] ++ decimal e.k)
    (Lacks-word (decimal e.i ++ 32 ∷ [] ++ decimal e.j ++ 32 ∷ []) e.k
    (Lacks-space (decimal e.i ++ 32 ∷ [] ++ decimal e.j)
    (Lacks-word (decimal e.i ++ 32 ∷ []) e.j
    (Lacks-space (decimal e.i) (Lacks-decimal 10 e.i (omega arith) is.first)) is.second)) is.third))
    (Lacks-fraction_text 10 e.value (omega arith) is.fraction)

-- ---- one line

pub line_unique : (a b x y : List ℕ) → Lacks 10 a → Lacks 10 b → line a ++ x ≡ line b ++ y → (a ≡ b) × (x ≡ y)
line_unique a b x y la lb e =
    split_unique 10 a b x y la lb (sym (append_assoc a (10 ∷ []) x) ∙ e ∙ append_assoc b (10 ∷ []) y)

pub after_word : (word x : List ℕ) (n : ℕ) → word ++ decimal n ++ 32 ∷ [] ++ x ≡ word ++ (decimal n ++ 32 ∷ x)
after_word word x n = append_assoc (word ++ decimal n) (32 ∷ []) x ∙ append_assoc word (decimal n) (32 ∷ x)

pub field_unique : (p q : ℕ) (m l : List ℕ) → IsNumber p → IsNumber q → AreNumbers m → AreNumbers l
    → field_text p m ≡ field_text q l → (p ≡ q) × (m ≡ l)
field_unique p q m l is_p is_q are_m are_l e =
    let rest : decimal p ++ 32 ∷ numbers_text m ≡ decimal q ++ 32 ∷ numbers_text l =
    append_cancel_left (codes "field ") (decimal p ++ 32 ∷ numbers_text m) (decimal q ++ 32 ∷ numbers_text l)
    (sym (after_word (codes "field ") (numbers_text m) p) ∙ e ∙ after_word (codes "field ") (numbers_text l) q) in
    let parts = number_and_rest 32 p q (numbers_text m) (numbers_text l) (omega arith) is_p is_q rest in
    (parts.0, numbers_unique m l are_m are_l parts.1)

pub degree_unique : (n k : ℕ) → IsNumber n → IsNumber k → degree_text n ≡ degree_text k → n ≡ k
degree_unique n k is_n is_k e =
    number_unique n k is_n is_k (append_cancel_left (codes "degree ") (decimal n) (decimal k) e)

pub entry_words : (e : Entry)
    → entry_text e ≡ decimal e.i ++ 32 ∷ (decimal e.j ++ 32 ∷ (decimal e.k ++ 32 ∷ fraction_text e.value))
entry_words e =
    let f : List ℕ = fraction_text e.value in
    after_word (decimal e.i ++ 32 ∷ [] ++ decimal e.j ++ 32 ∷ []) f e.k
    ∙ after_word (decimal e.i ++ 32 ∷ []) (decimal e.k ++ 32 ∷ f) e.j
    ∙ append_assoc (decimal e.i) (32 ∷ []) (decimal e.j ++ 32 ∷ (decimal e.k ++ 32 ∷ f))

pub entry_unique : (e f : Entry) → IsEntry e → IsEntry f → entry_text e ≡ entry_text f → e ≡ f
entry_unique e f is_e is_f same =
    let words = sym (entry_words e) ∙ same ∙ entry_words f in
    let a = number_and_rest 32 e.i f.i (decimal e.j ++ 32 ∷ (decimal e.k ++ 32 ∷ fraction_text e.value))
    (decimal f.j ++ 32 ∷ (decimal f.k ++ 32 ∷ fraction_text f.value)) (omega arith) is_e.first is_f.first words in
    let b = number_and_rest 32 e.j f.j (decimal e.k ++ 32 ∷ fraction_text e.value)
    (decimal f.k ++ 32 ∷ fraction_text f.value) (omega arith) is_e.second is_f.second a.1 in
    let c = number_and_rest 32 e.k f.k (fraction_text e.value) (fraction_text f.value)
    (omega arith) is_e.third is_f.third b.1 in
    let d = fraction_unique e.value f.value is_e.fraction is_f.fraction c.1 in
    λ at. record { i = a.0 at; j = b.0 at; k = c.0 at; value = d at }

-- no entry is spelled `end`
pub end_no_entry : (e : Entry) → IsEntry e → codes "end" ≡ entry_text e → ⊥
end_no_entry e is same =
    not_within 32 (codes "end") (decimal e.i) (decimal e.j ++ 32 ∷ (decimal e.k ++ 32 ∷ fraction_text e.value))
    (same ∙ entry_words e) (Lacks-from_test 32 (codes "end") refl)

-- ---- the first three lines

-- what stands after the first line
pub after_first : (x y : List ℕ) → first_line ++ x ≡ first_line ++ y → x ≡ y
after_first x y e = append_cancel_left first_line x y e

pub after_field : (p q : ℕ) (m l x y : List ℕ) → IsNumber p → IsNumber q → AreNumbers m → AreNumbers l
    → field_line p m ++ x ≡ field_line q l ++ y → (p ≡ q) × (m ≡ l) × (x ≡ y)
after_field p q m l x y is_p is_q are_m are_l e =
    let one = line_unique (field_text p m) (field_text q l) x y (Lacks-field p m is_p are_m)
    (Lacks-field q l is_q are_l) e in
    let both = field_unique p q m l is_p is_q are_m are_l one.0 in
    (both.0, both.1, one.1)

pub after_degree : (n k : ℕ) (x y : List ℕ) → IsNumber n → IsNumber k → degree_line n ++ x ≡ degree_line k ++ y
    → (n ≡ k) × (x ≡ y)
after_degree n k x y is_n is_k e =
    let one = line_unique (degree_text n) (degree_text k) x y (Lacks-degree n is_n) (Lacks-degree k is_k) e in
    (degree_unique n k is_n is_k one.0, one.1)

pub after_entry : (e f : Entry) (x y : List ℕ) → IsEntry e → IsEntry f → entry_line e ++ x ≡ entry_line f ++ y
    → (e ≡ f) × (x ≡ y)
after_entry e f x y is_e is_f same =
    let one = line_unique (entry_text e) (entry_text f) x y (Lacks-entry e is_e) (Lacks-entry f is_f) same in
    (entry_unique e f is_e is_f one.0, one.1)

pub after_end : (x y : List ℕ) → end_line ++ x ≡ end_line ++ y → x ≡ y
after_end x y e = append_cancel_left end_line x y e

pub end_or_entry : (e : Entry) (x y : List ℕ) → IsEntry e → end_line ++ x ≡ entry_line e ++ y → ⊥
end_or_entry e x y is same =
    end_no_entry e is (line_unique (codes "end") (entry_text e) x y Lacks-end (Lacks-entry e is) same).0

-- ---- lines that are of no form

-- where no numbers follow the characteristic, the line says no field
pub no_modulus : (text rest after : List ℕ) (q : ℕ) → text ≡ codes "field " ++ rest → IsNumber q
    → rest ≡ decimal q ++ 32 ∷ after → ((m : List ℕ) → AreNumbers m → after ≢ numbers_text m)
    → (p : ℕ) (m : List ℕ) → IsNumber p → AreNumbers m → text ≢ field_text p m
no_modulus text rest after q t is_q r none p m is_p are_m e =
    let words : rest ≡ decimal p ++ 32 ∷ numbers_text m =
    append_cancel_left (codes "field ") rest (decimal p ++ 32 ∷ numbers_text m)
    (sym t ∙ e ∙ after_word (codes "field ") (numbers_text m) p) in
    none m are_m (number_and_rest 32 q p after (numbers_text m) (omega arith) is_q is_p (sym r ∙ words)).1

-- where no number follows the first one, the line is no entry; so with the second, and with the fraction
module _ (text : List ℕ) (e : Entry) (is : IsEntry e) (spelled : text ≡ entry_text e) where
  words : text ≡ decimal e.i ++ 32 ∷ (decimal e.j ++ 32 ∷ (decimal e.k ++ 32 ∷ fraction_text e.value))
  words = spelled ∙ entry_words e

  module _ (i : ℕ) (rest : List ℕ) (is_i : IsNumber i) (at_i : text ≡ decimal i ++ 32 ∷ rest) where
    after_i : rest ≡ decimal e.j ++ 32 ∷ (decimal e.k ++ 32 ∷ fraction_text e.value)
    after_i = (number_and_rest 32 i e.i rest (decimal e.j ++ 32 ∷ (decimal e.k ++ 32 ∷ fraction_text e.value))
        (omega arith) is_i is.first (sym at_i ∙ words)).1

    pub no_second : ((n : ℕ) (after : List ℕ) → IsNumber n → rest ≢ decimal n ++ 32 ∷ after) → ⊥
    no_second none = none e.j (decimal e.k ++ 32 ∷ fraction_text e.value) is.second after_i

    module _ (j : ℕ) (rest' : List ℕ) (is_j : IsNumber j) (at_j : rest ≡ decimal j ++ 32 ∷ rest') where
      after_j : rest' ≡ decimal e.k ++ 32 ∷ fraction_text e.value
      after_j = (number_and_rest 32 j e.j rest' (decimal e.k ++ 32 ∷ fraction_text e.value)
          (omega arith) is_j is.second (sym at_j ∙ after_i)).1

      pub no_third : ((n : ℕ) (after : List ℕ) → IsNumber n → rest' ≢ decimal n ++ 32 ∷ after) → ⊥
      no_third none = none e.k (fraction_text e.value) is.third after_j

      pub no_fraction : (k : ℕ) (rest'' : List ℕ) → IsNumber k → rest' ≡ decimal k ++ 32 ∷ rest''
          → ((t : FractionText) → IsFractionText t → rest'' ≢ fraction_text t) → ⊥
      no_fraction k rest'' is_k at_k none =
          none e.value is.fraction
          (number_and_rest 32 k e.k rest'' (fraction_text e.value) (omega arith) is_k is.third
          (sym at_k ∙ after_j)).1

pub spelled_entry : (text rest rest' rest'' : List ℕ) (e : Entry) → text ≡ decimal e.i ++ 32 ∷ rest
    → rest ≡ decimal e.j ++ 32 ∷ rest' → rest' ≡ decimal e.k ++ 32 ∷ rest'' → rest'' ≡ fraction_text e.value
    → text ≡ entry_text e
spelled_entry text rest rest' rest'' e at_i at_j at_k at_value =
    at_i ∙ ap (λ t. decimal e.i ++ 32 ∷ t)
    (at_j ∙ ap (λ t. decimal e.j ++ 32 ∷ t) (at_k ∙ ap (λ t. decimal e.k ++ 32 ∷ t) at_value)) ∙ sym (entry_words e)
