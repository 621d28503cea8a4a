use Rattle.std.proofs.Common.{ℕ, List, ◌≡◌, ◌≢◌, ◌<◌, ◌≤◌, subst, sym, arith, length, slice_index_or}
use Rattle.std.specs.declared.cmp.Ordering.TheVariants.{Less}
use Rattle.spl_poly.specs.Order.{poly_cmp}
use Rattle.spl_factor.specs.Factorisation.{Powers}
use Rattle.spl_factor.specs.Steps.{IsNext}
use Rattle.spl_factor.proofs.Quotients.{leading_one}
use Rattle.spl_factor.proofs.Insertion.{next_unchanged, divides_left, next_inserted}
use Rattle.spl_factor.proofs.work.take.Goals as goal

pub returns-then-divided-eq0-clause-next : goal.returns-then-divided-eq0-clause-next
returns-then-divided-eq0-clause-next c =
    let d = c.in_ok-divided in
    next_unchanged c.args.f.now c.order_law.ensures c.args.p d.divided.exponent c.args.work.rest c.args.work.list.items
    d.divided.rest c.requires.work d.ensures.rest d.ensures.whole c.if-divided-eq0.true

pub returns-then-divided-eq0-clause-fewer : goal.returns-then-divided-eq0-clause-fewer
returns-then-divided-eq0-clause-fewer c = λ h.
    let d = c.in_ok-divided in
    absurd (d.ensures.no_more (divides_left c.args.f.now c.order_law.ensures c.args.p d.divided.exponent
    c.args.work.rest c.args.work.list.items d.divided.rest c.requires.work d.ensures.rest d.ensures.whole
    c.if-divided-eq0.true h))

pub returns-clause-next : goal.returns-clause-next
returns-clause-next c =
    let f = c.args.f.now in
    let d = c.in_ok-divided in
    let list = c.args.work.list.items in
    let same = c.as_slice.ensures.value in
    let n = c.if-divided-eq0.false in
    subst (λ l. IsNext f c.args.work.rest list d.divided.rest l) (sym c.in_ok-insert.ensures.items)
    (next_inserted f c.order_law.ensures c.args.p d.divided.exponent c.args.work.rest list d.divided.rest
    c.requires.work d.ensures.rest d.ensures.whole c.place-i.result (omega arith)
    record {
      monic = leading_one f c.args.p c.requires.list;
      irreducible = c.requires.irreducible;
      exponent = omega arith;
    }
    d.ensures.no_more
    (subst (λ l. c.place-i.result ≤ length l) same c.place-i.ensures.within)
    (subst (λ (l : Powers). (i : ℕ) (d : (List ℕ) × ℕ) → i < c.place-i.result
    → poly_cmp (slice_index_or l i d).0 c.args.p ≡ Less) same c.place-i.ensures.before)
    (subst (λ (l : Powers). (d : (List ℕ) × ℕ) → c.place-i.result < length l
    → poly_cmp (slice_index_or l c.place-i.result d).0 c.args.p ≢ Less) same c.place-i.ensures.next))
