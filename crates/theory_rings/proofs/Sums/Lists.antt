-- Lists built as tables.
use Rattle.std.specs.Prelude.{◌≡◌, ℕ, zero, suc, ◌<◌, ◌≤◌, [], ◌∷◌, ◌++◌, length, get_or}
use Rattle.std.proofs.Common.{refl, sym, ◌∙◌, ap₂, arith, length-append, ⊎_elim}
use Rattle.std.proofs.lemmas.Bool.{cases_lt}
use Rattle.std.proofs.lemmas.List.{get_or_push, get_or_past}
use Rattle.std.proofs.Math.ListN.{get_or-append}
use Rattle.std.specs.List.{All}
use Rattle.std.proofs.lemmas.List.Elements.{All-nil, All-push}
use Rattle.theory_rings.specs.Sum.{table}

pub length-table : {X : Type 0} (n : ℕ) (f : ℕ → X) → length (table n f) ≡ n
length-table zero f = refl
length-table (suc n) f = omega (arith, length-append (table n f) (f n ∷ []), length-table n f)

pub get_or-table : {X : Type 0} (n : ℕ) (f : ℕ → X) (k : ℕ) (d : X) → k < n → get_or (table n f) k d ≡ f k
get_or-table zero f k d l = absurd (omega arith)
get_or-table (suc n) f k d l =
    ⊎_elim (λ h. get_or-append (table n f) (f n ∷ []) d k (omega (arith, length-table n f)) ∙ get_or-table n f k d h)
    (λ h. let e : k ≡ n = omega arith in rw e (get_or_push (table n f) (f n) d n (length-table n f)))
    (cases_lt k n)

-- past its end too, where f is the default there
pub get_or-table_default : {X : Type 0} (n : ℕ) (f : ℕ → X) (d : X) → ((k : ℕ) → n ≤ k → f k ≡ d) → (k : ℕ)
    → get_or (table n f) k d ≡ f k
get_or-table_default n f d h k =
    ⊎_elim (get_or-table n f k d) (λ l. get_or_past (table n f) k d (omega (arith, length-table n f)) ∙ sym (h k l))
    (cases_lt k n)

pub table_congr : {X : Type 0} (n : ℕ) (f g : ℕ → X) → ((k : ℕ) → k < n → f k ≡ g k) → table n f ≡ table n g
table_congr zero f g h = refl
table_congr (suc n) f g h =
    ap₂ (λ xs x. xs ++ x ∷ []) (table_congr n f g (λ k l. h k (omega arith))) (h n (omega arith))

pub All-table : {X : Type 0} (P : X → Type 0) (n : ℕ) (f : ℕ → X) → ((k : ℕ) → k < n → P (f k)) → All P (table n f)
All-table P zero f h = All-nil P
All-table P (suc n) f h = All-push P (table n f) (f n) (All-table P n f (λ k l. h k (omega arith))) (h n (omega arith))
