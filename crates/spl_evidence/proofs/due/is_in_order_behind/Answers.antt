use Rattle.std.proofs.Common.{◌↔◌, [], ◌∷◌, sym, subst}
use Rattle.std.specs.Prelude.{IsTrue}
use Rattle.spl_evidence.specs.Refusal.{NumbersAreInOrder}
use Rattle.spl_evidence.proofs.due.is_in_order_behind.Goals as goal

pub returns-in-Unit : goal.returns-in-Unit
returns-in-Unit c =
    let numbers = c.args.first ∷ c.args.second ∷ [] in
    λ h. subst
    (λ w. IsTrue c.is_next_unit.result ↔ NumbersAreInOrder c.args.n c.args.before.now
    (record { word = w; numbers = numbers; fractions = [] })) (sym c.in-Unit.is)
    (c.is_next_unit.ensures (h c.in-Unit.is))
