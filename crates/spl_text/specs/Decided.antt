-- A word spells something, or nothing.
use Rattle.std.specs.Prelude.{◌≡◌, ◌≢◌, ◌⊎◌, ℕ, List}

-- the word is the text of a thing that is right, or of none
abbrev pub SpellsOrNot : {X : Type 0} → (X → Type 0) → (X → List ℕ) → List ℕ → Type 0
SpellsOrNot {X} IsRight text word = ((x : X) × IsRight x × (word ≡ text x)) ⊎ ((x : X) → IsRight x → word ≢ text x)
