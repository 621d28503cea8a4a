-- Loops that test all of n facts.
use Rattle.std.specs.Prelude.{◌≡◌, ◌<◌, ◌↔◌, ℕ, Bool, true, false, IsTrue}
use Rattle.std.proofs.Common.{refl}
use Rattle.std.proofs.lemmas.Bool.{both_ways}

-- one of them fails
pub one_fails : (Q : ℕ → Type 0) (n i : ℕ) (r : Bool) → i < n → IsTrue r ↔ Q i → r ≡ false
    → IsTrue false ↔ ((j : ℕ) → j < n → Q j)
one_fails Q n i r l t e = (
  λ y. absurd (both_ways false refl y),
  λ w. absurd (both_ways r e (t.1 (w i l))),
)

-- all hold
pub all_hold : (Q : ℕ → Type 0) (n : ℕ) → ((j : ℕ) → j < n → Q j) → IsTrue true ↔ ((j : ℕ) → j < n → Q j)
all_hold Q n h = (λ _. h, λ _. refl)
