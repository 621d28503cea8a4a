-- How many members of a finite set pass a test.
use Rattle.std.specs.Prelude.{ℕ, Bool, cond, eqb}
use Rattle.theory_rings.specs.Sum.{sum}
use Rattle.theory_rings.specs.Naturals.{nat_monoid}
use Rattle.theory_rings.specs.Enumerated.{Enumerated}

-- 1 where the test holds, and else 0
abbrev pub one_if : Bool → ℕ
one_if b = cond b 1 0

module _ {X : Type 0} (E : Enumerated X) where
  -- how many members pass
  abbrev pub count : (X → Bool) → ℕ
  count P = sum nat_monoid E.size (λ i. one_if (P (E.member i)))

  -- whether two members are one
  abbrev pub same : X → X → Bool
  same x y = eqb (E.number x) (E.number y)
