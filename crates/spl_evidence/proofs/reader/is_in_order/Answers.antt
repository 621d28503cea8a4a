use Rattle.std.proofs.Common.{◌↔◌, sym, subst}
use Rattle.std.specs.Prelude.{IsTrue}
use Rattle.spl_evidence.specs.Refusal.{IsInOrder}
use Rattle.spl_evidence.proofs.Orders.{order_of}
use Rattle.spl_evidence.proofs.reader.is_in_order.Goals as goal

pub returns-in-Some : goal.returns-in-Some
returns-in-Some c =
    λ q l w form range.
    subst (λ b. IsTrue c.is_in_order_behind.result ↔ IsInOrder c.args.n b l) (sym c.in-Some.is)
    (order_of c.args.n q c.in-Some.before l c.args.line.now c.is_in_order_behind.result c.as_slice-numbers.result.now
    c.number_at.result c.number_at-in-Some.result w form range c.as_slice-numbers.ensures c.number_at.ensures
    c.number_at-in-Some.ensures c.is_in_order_behind.ensures)
