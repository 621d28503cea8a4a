-- What a test says that came out, and one whose statement is put in other words.
use Rattle.std.specs.Prelude.{◌↔◌, Bool, true, false, IsTrue}
use Rattle.std.proofs.Common.{refl}
use Rattle.std.proofs.lemmas.Bool.{both_ways}

pub yes : {P : Type 0} → P → IsTrue true ↔ P
yes p = ((λ _. p), (λ _. refl))

pub no : {P : Type 0} → (P → ⊥) → IsTrue false ↔ P
no d = ((λ t. absurd (both_ways false refl t)), (λ p. absurd (d p)))

pub reworded : {P Q : Type 0} (b : Bool) → (IsTrue b ↔ P) → (P → Q) → (Q → P) → IsTrue b ↔ Q
reworded b h f g = ((λ t. f (h.0 t)), (λ q. h.1 (g q)))
