-- Sums over an index range, of which sums in a ring and counts in ℕ are cases.
use Rattle.std.specs.Prelude.{ℕ, zero, suc, List, [], ◌∷◌, ◌++◌, get_or}
use Rattle.theory_rings.specs.Ring.{AddCommMonoidOn}
use Rattle.theory_rings.specs.Ops.{Ops}

-- f 0 + .. + f (n − 1), by a 0 and a +
abbrev pub sum_by_ops : {V : Type 0} → V → (V → V → V) → ℕ → (ℕ → V) → V
sum_by_ops z plus zero f = z
sum_by_ops z plus (suc n) f = plus (sum_by_ops z plus n f) (f n)

-- in a commutative monoid
abbrev pub sum : {V : Type 0} → AddCommMonoidOn V → ℕ → (ℕ → V) → V
sum M n f = sum_by_ops M.zero M.◌⊕◌ n f

-- in a program's field
abbrev pub sum_of : {E : Type 0} → Ops E → ℕ → (ℕ → E) → E
sum_of o n f = sum_by_ops o.zero o.add n f

-- the list f 0, .., f (n − 1), built at its end, as a loop that counts and pushes builds it
abbrev pub table : {X : Type 0} → ℕ → (ℕ → X) → List X
table zero f = []
table (suc n) f = table n f ++ f n ∷ []

-- item k of a list of values of a program's field, and 0 past its end
abbrev pub at : {E : Type 0} → Ops E → List E → ℕ → E
at o xs k = get_or xs k o.zero
