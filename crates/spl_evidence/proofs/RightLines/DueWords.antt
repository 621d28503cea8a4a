-- What is due behind so many lines.
use Rattle.std.proofs.Common.{◌≡◌, ◌≢◌, ℕ, ◌<◌, ◌≤◌, cond, List, [], ◌∷◌, refl, subst, arith}
use Rattle.std.specs.Prelude.{Contains}
use Rattle.std.proofs.lemmas.Bool.{lt-ltb, le-ltb, eq-eqb, ne_eqb}
use Rattle.spl_evidence.specs.Refusal.{up_to, end_at}
use Rattle.spl_evidence.specs.declared.word.Word.{Word}
use Rattle.spl_evidence.specs.declared.word.Word.TheVariants.{End}

pub first_of : (w : Word) (ws : List Word) → Contains (w ∷ ws) w
first_of w ws = (0, omega arith, refl)

pub none_of : (w : Word) → Contains [] w → ⊥
none_of w h = absurd (omega (arith, h.1))

pub due_more : (count most : ℕ) (w : Word) (next : List Word) → count < most → Contains (up_to count most w next) w
due_more count most w next below = rw (lt-ltb count most below) (first_of w [])

pub due_next : (count most : ℕ) (v w : Word) (next : List Word) → most ≤ count → Contains next w
    → Contains (up_to count most v next) w
due_next count most v w next past h = rw (le-ltb count most past) h

pub due_end : (count most : ℕ) → count ≡ most → Contains (end_at count most) End
due_end count most same = rw (eq-eqb count most same) (first_of End [])

pub not_past : (count most : ℕ) (v w : Word) (next : List Word) → most ≤ count → (Contains next w → ⊥)
    → Contains (up_to count most v next) w → ⊥
not_past count most v w next past none h =
    none (subst (λ b. Contains (cond b (v ∷ []) next) w) (le-ltb count most past) h)

pub not_behind_end : (count most : ℕ) (w : Word) → count ≢ most → Contains (end_at count most) w → ⊥
not_behind_end count most w other h =
    none_of w (subst (λ b. Contains (cond b (End ∷ []) []) w) (ne_eqb count most other) h)

pub second_of : (v w : Word) (ws : List Word) → Contains (v ∷ w ∷ ws) w
second_of v w ws = (1, omega arith, refl)

pub third_of : (u v w : Word) (ws : List Word) → Contains (u ∷ v ∷ w ∷ ws) w
third_of u v w ws = (2, omega arith, refl)
