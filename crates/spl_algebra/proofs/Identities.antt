-- An identity is answered exactly where there is one.
use Rattle.std.specs.Prelude.{◌↔◌}
use Rattle.theory_rings.specs.Ops.{Ops, FieldLaws}
use Rattle.theory_tables.specs.Structure.{Structure, IsOver}
use Rattle.theory_tables.specs.Algebras.{HasIdentity}
use Rattle.theory_tables.proofs.Algebras.Exclusions.{claims_exclude}
use Rattle.spl_algebra.specs.Identity.{IsOne, IsHere, IsRefuted}
use Rattle.spl_algebra.specs.declared.identity.One.{One}
use Rattle.spl_algebra.specs.declared.identity.One.TheVariants.{Here, Refuted}

module _ {F E : Type 0} (o : Ops E) (L : FieldLaws o) (A : Structure E) (over : IsOver o A) where
  pub here_exactly : (answer : One F E) → IsOne o A answer → IsHere answer ↔ HasIdentity o A
  here_exactly (Here tuple) h = (λ _. record { one = tuple; is_one = h }, λ _. tt)
  here_exactly (Refuted left right) claim =
      (λ n. absurd n, (claims_exclude o L A over).no_identity left right claim)

  pub refuted_exactly : (answer : One F E) → IsOne o A answer
      → IsRefuted answer ↔ (HasIdentity o A → ⊥)
  refuted_exactly (Here tuple) h = (λ n. absurd n, λ none. none (record { one = tuple; is_one = h }))
  refuted_exactly (Refuted left right) claim =
      (λ _. (claims_exclude o L A over).no_identity left right claim, λ _. tt)
