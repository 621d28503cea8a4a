-- The operations of the fractions depend on the operations of the field alone.
use Rattle.std.specs.Prelude.{◌≡◌, ℕ}
use Rattle.std.proofs.Common.{ap, subst}
use Rattle.std.proofs.Math.Nat.{ℕ_set}
use Rattle.theory_rings.specs.Ops.{Ops, FieldLaws}
use Rattle.theory_rings.proofs.Rings.LawsProof.{laws_unique}
use Rattle.theory_fractions.specs.FractionOps.{fraction_ops}

pub fraction_ops_same : (o p : Ops ℕ) (L : FieldLaws o) (M : FieldLaws p) → o ≡ p
    → fraction_ops o L ≡ fraction_ops p M
fraction_ops_same o p L M e =
    subst (λ q. (N : FieldLaws q) → fraction_ops o L ≡ fraction_ops q N) e
    (λ N. ap (fraction_ops o) (laws_unique ℕ_set o L N)) M
