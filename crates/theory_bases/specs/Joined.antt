-- Lists one after the other.
use Rattle.std.specs.Prelude.{ℕ, zero, suc, List, [], ◌++◌}

-- f 0, .., f (n − 1), one after the other, built at its end
abbrev pub joined : {X : Type 0} → ℕ → (ℕ → List X) → List X
joined zero f = []
joined (suc n) f = joined n f ++ f n
