-- What the answer to the question for an identity shows.
use Rattle.theory_rings.specs.Ops.{Ops}
use Rattle.theory_tables.specs.Algebras.{IsIdentity}
use Rattle.theory_tables.specs.Claims.{NoIdentityClaim}
use Rattle.theory_tables.specs.Structure.{Structure}
use Rattle.spl_algebra.specs.declared.identity.One.{One}
use Rattle.spl_algebra.specs.declared.identity.One.TheVariants.{Here, Refuted}

-- the tuple is an identity, or the multipliers refute that there is one
abbrev pub IsOne : {F E : Type 0} → Ops E → Structure E → One F E → Type 0
IsOne o A (Here tuple) = IsIdentity o A tuple
IsOne o A (Refuted left right) = NoIdentityClaim o A left right

-- the answer is an identity
abbrev pub IsHere : {F E : Type 0} → One F E → Type 0
IsHere (Here tuple) = Unit {0}
IsHere (Refuted left right) = ⊥

-- the answer refutes that there is one
abbrev pub IsRefuted : {F E : Type 0} → One F E → Type 0
IsRefuted (Here tuple) = ⊥
IsRefuted (Refuted left right) = Unit {0}
