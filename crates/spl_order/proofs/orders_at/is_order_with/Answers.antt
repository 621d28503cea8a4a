use Rattle.std.proofs.Common.{◌↔◌, ℕ, List, false, refl, sym, subst, ◌∙◌, ap, length, IsTrue}
use Rattle.std.proofs.lemmas.Bool.{both_ways}
use Rattle.theory_fractions.specs.Fraction.{Pair}
use Rattle.spl_field.specs.SmallField.{small_ops, small_laws}
use Rattle.spl_fraction.specs.Fractions.{field_of}
use Rattle.spl_fraction.specs.FractionsOver.{fractions_over}
use Rattle.theory_places.specs.Places.{Finite}
use Rattle.theory_places.specs.FractionPlaces.{IsIntegralAt}
use Rattle.theory_bases.specs.TupleLattices.{TupleLattice}
use Rattle.theory_bases.specs.Bases.{IsBasis, tuples_of}
use Rattle.spl_order.proofs.ProductTests.{order_tells}
use Rattle.spl_order.proofs.orders_at.is_order_with.Goals as goal

pub holds_at-requires-clause-order : goal.holds_at-requires-clause-order
holds_at-requires-clause-order c =
    let F = field_of c.args.f.now in
    subst (λ m. IsBasis (small_ops F) (small_laws F) m c.args.order.now)
    (sym (ap length c.as_slice.ensures ∙ c.requires.one.tuple.right_length)) c.requires.order

pub returns-then-not-branch : goal.returns-then-not-branch
returns-then-not-branch c =
    let F = field_of c.args.f.now in
    let o = small_ops F in
    let L = small_laws F in
    let A = c.args.a.now in
    let one = c.args.one.now in
    let r = c.in_ok-holds_at.field-0 in
    let T = λ (m : ℕ) (v : List (Pair ℕ)). TupleLattice (fractions_over F) (IsIntegralAt o (Finite c.args.place.now)) m
    (tuples_of o L c.args.order.now) v in
    let holds : IsTrue r ↔ T A.dim one = subst (λ m. IsTrue r ↔ T m one) c.requires.one.tuple.right_length
    (subst (λ v. IsTrue r ↔ T (length v) v) c.as_slice.ensures c.in_ok-holds_at.ensures) in
    let tells = order_tells o L c.args.place.now c.requires.place A c.requires.over c.args.order.now c.requires.order one
    c.requires.one in (
      λ t. absurd (both_ways false refl t),
      λ s. absurd (both_ways r c.if-not-branch.true (holds.1 (tells.0 s).0)),
    )

pub returns : goal.returns
returns c =
    let F = field_of c.args.f.now in
    let o = small_ops F in
    let L = small_laws F in
    let A = c.args.a.now in
    let one = c.args.one.now in
    let r = c.in_ok-holds_at.field-0 in
    let T = λ (m : ℕ) (v : List (Pair ℕ)). TupleLattice (fractions_over F) (IsIntegralAt o (Finite c.args.place.now)) m
    (tuples_of o L c.args.order.now) v in
    let holds : IsTrue r ↔ T A.dim one = subst (λ m. IsTrue r ↔ T m one) c.requires.one.tuple.right_length
    (subst (λ v. IsTrue r ↔ T (length v) v) c.as_slice.ensures c.in_ok-holds_at.ensures) in
    let tells = order_tells o L c.args.place.now c.requires.place A c.requires.over c.args.order.now c.requires.order one
    c.requires.one in (
      λ t. tells.1 (holds.0 c.if-not-branch.false, c.in_ok-closed.ensures.0 t),
      λ s. c.in_ok-closed.ensures.1 (tells.0 s).1,
    )
