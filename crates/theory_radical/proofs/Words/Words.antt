-- Words of two letters, and turning them round: the first letter goes to the end.
use Rattle.std.specs.Prelude.{◌≡◌, ℕ, zero, suc, ◌+◌, ◌*◌, ◌≤◌, Bool, true, false, cond, List, [], ◌∷◌, ◌++◌, length}
use Rattle.std.specs.Prelude.{eqb}
use Rattle.std.proofs.Common.{refl, sym, ◌∙◌, ap, ap₂, arith, length-append, append_assoc, append-nil}
use Rattle.std.proofs.lemmas.Bool.{eq-eqb, eqb-true}
use Rattle.theory_rings.proofs.Numbers.ClosedSets.{IsClosed}

abbrev pub turn : List Bool → List Bool
turn [] = []
turn (x ∷ w) = w ++ (x ∷ [])

-- turned k times
abbrev pub turns : ℕ → List Bool → List Bool
turns zero w = w
turns (suc k) w = turns k (turn w)

pub length-turn : (w : List Bool) → length (turn w) ≡ length w
length-turn [] = refl
length-turn (x ∷ w) = length-append w (x ∷ []) ∙ omega arith

pub length-turns : (k : ℕ) (w : List Bool) → length (turns k w) ≡ length w
length-turns zero w = refl
length-turns (suc k) w = length-turns k (turn w) ∙ length-turn w

pub turns-add : (a b : ℕ) (w : List Bool) → turns (a + b) w ≡ turns b (turns a w)
turns-add zero b w = let e : 0 + b ≡ b = omega arith in ap (λ k. turns k w) e
turns-add (suc a) b w = let e : suc a + b ≡ suc (a + b) = omega arith in ap (λ k. turns k w) e ∙ turns-add a b (turn w)

pub turns-turn : (k : ℕ) (w : List Bool) → turns k (turn w) ≡ turn (turns k w)
turns-turn k w = let e : suc k ≡ k + 1 = omega arith in ap (λ i. turns i w) e ∙ turns-add k 1 w

pub turns-append : (u v : List Bool) → turns (length u) (u ++ v) ≡ v ++ u
turns-append [] v = sym (append-nil v)
turns-append (x ∷ u) v = ap (turns (length u)) (append_assoc u v (x ∷ [])) ∙ turns-append u (v ++ (x ∷ []))
    ∙ append_assoc v (x ∷ []) u

-- turned by its length a word is itself
pub turns-length : (w : List Bool) → turns (length w) w ≡ w
turns-length w = ap (turns (length w)) (sym (append-nil w)) ∙ turns-append w []

-- turning can be undone
pub turn_injective : (u v : List Bool) → length u ≡ length v → turn u ≡ turn v → u ≡ v
turn_injective [] [] l e = refl
turn_injective [] (y ∷ v) l e = absurd (omega arith)
turn_injective (x ∷ u) [] l e = absurd (omega arith)
turn_injective (x ∷ u) (y ∷ v) l e =
    sym (turns-length (x ∷ u)) ∙ ap (turns (length u)) e
    ∙ (let q : length u ≡ length v = omega arith in ap (λ k. turns k (turn (y ∷ v))) q) ∙ turns-length (y ∷ v)

pub turns_injective : (k : ℕ) (u v : List Bool) → length u ≡ length v → turns k u ≡ turns k v → u ≡ v
turns_injective zero u v l e = e
turns_injective (suc k) u v l e =
    turn_injective u v l (turns_injective k (turn u) (turn v) (length-turn u ∙ l ∙ sym (length-turn v)) e)

-- the numbers of turns that leave w as it is are closed under sums and differences
pub fixing_closed : (w : List Bool) → IsClosed (λ k. turns k w ≡ w)
fixing_closed w = record {
  sums = λ a b x y. turns-add a b w ∙ ap (turns b) x ∙ y;
  differences = λ a b x y. sym (ap (turns b) x) ∙ sym (turns-add a b w) ∙ y;
}

-- words as numbers
abbrev pub code : List Bool → ℕ
code [] = 1
code (x ∷ w) = cond x 1 0 + 2 * code w

code-pos : (w : List Bool) → 1 ≤ code w
code-pos [] = omega arith
code-pos (true ∷ w) = let h = code-pos w in omega arith
code-pos (false ∷ w) = let h = code-pos w in omega arith

pub code_injective : (u v : List Bool) → code u ≡ code v → u ≡ v
code_injective [] [] e = refl
code_injective [] (true ∷ v) e = let h = code-pos v in absurd (omega arith)
code_injective [] (false ∷ v) e = let h = code-pos v in absurd (omega arith)
code_injective (true ∷ u) [] e = let h = code-pos u in absurd (omega arith)
code_injective (false ∷ u) [] e = let h = code-pos u in absurd (omega arith)
code_injective (true ∷ u) (true ∷ v) e = ap (λ w. true ∷ w) (code_injective u v (omega arith))
code_injective (true ∷ u) (false ∷ v) e = absurd (omega arith)
code_injective (false ∷ u) (true ∷ v) e = absurd (omega arith)
code_injective (false ∷ u) (false ∷ v) e = ap (λ w. false ∷ w) (code_injective u v (omega arith))

-- a test of equality
abbrev pub same_word : List Bool → List Bool → Bool
same_word u v = eqb (code u) (code v)

pub same_word-sound : (u v : List Bool) → same_word u v ≡ true → u ≡ v
same_word-sound u v e = code_injective u v (eqb-true (code u) (code v) e)

pub same_word-complete : (u v : List Bool) → u ≡ v → same_word u v ≡ true
same_word-complete u v e = eq-eqb (code u) (code v) (ap code e)

-- w is left as it is by q turns
abbrev pub is_fixed : ℕ → List Bool → Bool
is_fixed q w = same_word (turns q w) w

iff_same : (b c : Bool) → (b ≡ true → c ≡ true) → (c ≡ true → b ≡ true) → b ≡ c
iff_same true c f g = sym (f refl)
iff_same false true f g = g refl
iff_same false false f g = refl

pub is_fixed-turn : (q : ℕ) (w : List Bool) → is_fixed q (turn w) ≡ is_fixed q w
is_fixed-turn q w = iff_same (is_fixed q (turn w)) (is_fixed q w)
    (λ h. same_word-complete (turns q w) w
    (turn_injective (turns q w) w (length-turns q w)
    (sym (turns-turn q w) ∙ same_word-sound (turns q (turn w)) (turn w) h)))
    (λ h. same_word-complete (turns q (turn w)) (turn w) (turns-turn q w ∙ ap turn (same_word-sound (turns q w) w h)))

abbrev pub head_of : List Bool → Bool
head_of [] = true
head_of (x ∷ w) = x

abbrev pub tail_of : List Bool → List Bool
tail_of [] = []
tail_of (x ∷ w) = w

-- k copies of a word, one after the other
abbrev pub repeat : ℕ → List Bool → List Bool
repeat zero u = []
repeat (suc k) u = u ++ repeat k u

pub length-repeat : (k : ℕ) (u : List Bool) → length (repeat k u) ≡ k * length u
length-repeat zero u = omega arith
length-repeat (suc k) u = let e = length-append u (repeat k u) in let h = length-repeat k u in
    let d : suc k * length u ≡ length u + k * length u = omega arith in omega arith

pub repeat_comm : (k : ℕ) (u : List Bool) → repeat k u ++ u ≡ u ++ repeat k u
repeat_comm zero u = sym (append-nil u)
repeat_comm (suc k) u = append_assoc u (repeat k u) u ∙ ap (λ w. u ++ w) (repeat_comm k u)

prefix : (c a b d : List Bool) → length c ≤ length a → a ++ b ≡ c ++ d → (t : List Bool) × (a ≡ c ++ t) × (t ++ b ≡ d)
prefix [] a b d l e = (a, refl, e)
prefix (x ∷ c) [] b d l e = absurd (omega arith)
prefix (x ∷ c) (y ∷ a) b d l e =
    let r = prefix c a b d (omega arith) (ap tail_of e) in
    (r.0, ap₂ (λ z w. z ∷ w) (ap head_of e) r.1, r.2)

-- what commutes with u, and is k times as long, is k copies of u
pub repeat_of_commutes : (k : ℕ) (u v : List Bool) → length v ≡ k * length u → v ++ u ≡ u ++ v → v ≡ repeat k u
repeat_of_commutes zero u [] l e = refl
repeat_of_commutes zero u (x ∷ v) l e = absurd (let z : 0 * length u ≡ 0 = omega arith in omega arith)
repeat_of_commutes (suc k) u v l e =
    let m : suc k * length u ≡ length u + k * length u = omega arith in
    let r = prefix u v u v (omega arith) e in
    let la = length-append u r.0 in let lb = ap length r.1 in
    r.1 ∙ ap (λ w. u ++ w) (repeat_of_commutes k u r.0 (omega arith) (r.2 ∙ r.1))
