use Rattle.std.proofs.Common.{subst, ◌<◌, ℕ, [], length, get_or, IsTrue, ◌↔◌}
use Rattle.spl_field.specs.SmallField.{small_ops, small_laws}
use Rattle.theory_fractions.specs.PolynomialLists.{Divides}
use Rattle.spl_order.specs.Values.{HasRow}
use Rattle.spl_order.specs.Members.{row_product}
use Rattle.spl_order.proofs.MemberTests.{passes_tells}
use Rattle.spl_order.proofs.members_at.passes.Goals as goal

pub returns : goal.returns
returns c =
    let o = small_ops c.args.f.now in
    let L = small_laws c.args.f.now in
    let items = c.in_ok-items.items in
    passes_tells o L c.args.n c.args.test.now.part c.args.test.now.columns c.args.row.now items
    (subst (λ z. HasRow o (row_product o L c.args.row.now z) c.args.n items) c.as_slice.ensures c.in_ok-items.ensures)
    c.in_ok-passed.passed
    (subst (λ z. IsTrue c.in_ok-passed.passed
    ↔ ((p : ℕ) → p < length z → Divides o c.args.test.now.part (get_or z p []))) c.as_slice-2.ensures
    c.in_ok-passed.ensures)
