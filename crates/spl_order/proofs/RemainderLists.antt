-- How lists of remainders grow, and what their items are.
use Rattle.std.specs.Prelude.{◌≡◌, ◌+◌, ℕ, List, [], ◌∷◌, ◌++◌, length, get_or}
use Rattle.std.proofs.Common.{◌∙◌, ap, arith, length-append}
use Rattle.theory_rings.specs.Ops.{Ops}
use Rattle.theory_rings.specs.Sum.{at}
use Rattle.theory_tables.proofs.Rows.Spans.{grow_at}
use Rattle.theory_remainders.specs.RemainderLaws.{IsRemainder, IsRemainderOf}
use Rattle.spl_order.specs.Coordinates.{AreRemainders}

module _ {E : Type 0} (o : Ops E) (m : List E) (items : List (List E)) where
  pub no_remainders : (rest : List (List E)) → rest ≡ [] → AreRemainders o m items 0 rest
  no_remainders rest e = record {
    count = ap length e;
    small = λ p l. absurd (omega arith);
    values = λ p l. absurd (omega arith);
  }

  pub more_remainders : (n : ℕ) (before after : List (List E)) (x : List E) → AreRemainders o m items n before
      → after ≡ before ++ x ∷ [] → IsRemainder o m x → IsRemainderOf o (at o (get_or items n [])) m x
      → AreRemainders o m items (n + 1) after
  more_remainders n before after x h e small v = record {
    count = ap length e ∙ length-append before (x ∷ []) ∙ omega (arith, h.count);
    small = grow_at (λ _. IsRemainder o m) [] n before after x h.count h.small small e;
    values = grow_at (λ p y. IsRemainderOf o (at o (get_or items p [])) m y) [] n before after x h.count h.values v e;
  }
