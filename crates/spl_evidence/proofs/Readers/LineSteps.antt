-- The lines that a reader passes, told by the one line that is due, or by what is due.
use Rattle.std.proofs.Common.{◌≡◌, ◌≢◌, ◌⊎◌, ℕ, List, [], ◌∷◌, length, get_or}
use Rattle.std.proofs.Common.{refl, sym, ap, ap₂, subst, ◌∙◌, inl, inr, arith}
use Rattle.std.specs.Prelude.{Contains}
use Rattle.theory_fractions.specs.Fraction.{Pair}
use Rattle.spl_text.specs.Text.{FractionText}
use Rattle.spl_fraction.specs.CanonicalWords.{words_of}
use Rattle.spl_evidence.specs.Line.{Line, HasForm, number_count, fraction_count}
use Rattle.spl_evidence.specs.Evidence.{multiplier_line, end_line}
use Rattle.spl_evidence.specs.Reading.{TakesTuple}
use Rattle.spl_evidence.specs.Refusal.{zero_text, IsAllowed}
use Rattle.spl_evidence.specs.declared.word.Word.{Word}
use Rattle.spl_evidence.specs.declared.word.Word.TheVariants.{Left, Right, Map, End}

pub no_items : {X : Type 0} (xs : List X) → length xs ≡ 0 → xs ≡ []
no_items [] e = refl
no_items (x ∷ xs) e = absurd (omega arith)

pub line_is : (l : Line) (w : Word) (ns : List ℕ) (ts : List FractionText) → l.word ≡ w → l.numbers ≡ ns
    → l.fractions ≡ ts → l ≡ record { word = w; numbers = ns; fractions = ts }
line_is l w ns ts a b c =
    ap (λ x. record { word = x; numbers = l.numbers; fractions = l.fractions }) a
    ∙ ap₂ (λ y z. record { word = w; numbers = y; fractions = z }) b c

-- ---- the one line that is due

pub first_due : (ws : List Word) (w : Word) → ws ≡ w ∷ [] → Contains ws w
first_due ws w e = subst (λ vs. Contains vs w) (sym e) (0, omega arith, refl)

pub only_due : (ws : List Word) (w v : Word) → ws ≡ w ∷ [] → Contains ws v → v ≡ w
only_due ws w v e h = go (subst (λ vs. Contains vs v) e h)
  where
    go : Contains (w ∷ []) v → v ≡ w
    go h =
        let first : h.0 ≡ 0 = omega (arith, h.1) in
        sym (ap (λ i. get_or (w ∷ []) i v) (sym first) ∙ h.2)

-- ---- lines with as many fractions as the dimension

pub tuple_due : (m : ℕ) (ws : List Word) (v : Word) → (w : Word) × (ws ≡ w ∷ []) × TakesTuple m w → Contains ws v
    → TakesTuple m v
tuple_due m ws v due h = subst (TakesTuple m) (sym (only_due ws due.0 v due.1 h)) due.2

pub map_due : (m : ℕ) (ws : List Word) (v : Word) → ws ≡ Map ∷ [] → Contains ws v → TakesTuple m v
map_due m ws v e h = tuple_due m ws v (Map, e, record { count = refl; allowed = λ ts. tt }) h

-- ---- the line `end`, and multipliers

pub end_line_is : (m : ℕ) (l : Line) → HasForm m l → l.word ≡ End → l ≡ end_line
end_line_is m l form is =
    line_is l End [] [] is (no_items l.numbers (form.number_count ∙ ap number_count is))
    (no_items l.fractions (form.fraction_count ∙ ap (fraction_count m) is))

-- the two sides
abbrev pub IsSide : Word → Type 0
IsSide w = (w ≡ Left) ⊎ (w ≡ Right)

pub side_of : (w : Word) → (w ≡ Left) ⊎ (w ≡ Right) ⊎ (w ≡ End) → w ≢ End → IsSide w
side_of w (inl e) other = inl e
side_of w (inr (inl e)) other = inr e
side_of w (inr (inr e)) other = absurd (other e)

side_counts : (m : ℕ) (w : Word) → IsSide w → (number_count w ≡ 2) × (fraction_count m w ≡ 1)
side_counts m w (inl e) = rw e (refl, refl)
side_counts m w (inr e) = rw e (refl, refl)

pub side_fractions : (m : ℕ) (l : Line) → HasForm m l → IsSide l.word → length l.fractions ≡ 1
side_fractions m l form side = form.fraction_count ∙ (side_counts m l.word side).1

pub side_allowed : (w : Word) (ts : List FractionText) → IsSide w → IsAllowed w ts → ts ≢ zero_text ∷ []
side_allowed w ts (inl e) h = subst (λ v. IsAllowed v ts) e h
side_allowed w ts (inr e) h = subst (λ v. IsAllowed v ts) e h

pub allowed_side : (w : Word) (ts : List FractionText) → IsSide w → ts ≢ zero_text ∷ [] → IsAllowed w ts
allowed_side w ts (inl e) h = subst (λ v. IsAllowed v ts) (sym e) h
allowed_side w ts (inr e) h = subst (λ v. IsAllowed v ts) (sym e) h

pub one_item : (ns : List ℕ) → length ns ≡ 1 → ns ≡ get_or ns 0 0 ∷ []
one_item [] e = absurd (omega arith)
one_item (a ∷ []) e = refl
one_item (a ∷ b ∷ ns) e = absurd (omega arith)

pub two_items : (ns : List ℕ) → length ns ≡ 2 → ns ≡ get_or ns 0 0 ∷ get_or ns 1 0 ∷ []
two_items [] e = absurd (omega arith)
two_items (a ∷ []) e = absurd (omega arith)
two_items (a ∷ b ∷ []) e = refl
two_items (a ∷ b ∷ d ∷ ns) e = absurd (omega arith)

pub multiplier_line_is : (m : ℕ) (l : Line) (w : Word) (ns : List ℕ) (j k : ℕ) (x : Pair ℕ) → HasForm m l
    → IsSide l.word → w ≡ l.word → ns ≡ l.numbers → j ≡ get_or ns 0 0 → k ≡ get_or ns 1 0
    → l.fractions ≡ words_of x ∷ [] → l ≡ multiplier_line w (j, k, x)
multiplier_line_is m l w ns j k x form side same numbers first second words =
    line_is l w (j ∷ k ∷ []) (words_of x ∷ []) (sym same)
    (sym numbers ∙ two_items ns (ap length numbers ∙ form.number_count ∙ (side_counts m l.word side).0)
    ∙ ap₂ (λ a b. a ∷ b ∷ []) (sym first) (sym second)) words
