use Rattle.std.proofs.Common.{◌↔◌, ℕ, List, IsTrue, length, ap, sym, subst, ◌∙◌}
use Rattle.theory_fractions.specs.Fraction.{Pair}
use Rattle.theory_places.specs.Places.{Finite}
use Rattle.theory_places.specs.FractionPlaces.{IsIntegralAt}
use Rattle.theory_bases.specs.TupleLattices.{TupleLattice}
use Rattle.theory_bases.specs.Bases.{IsBasis, tuples_of}
use Rattle.spl_field.specs.SmallField.{small_ops, small_laws}
use Rattle.spl_fraction.specs.Fractions.{field_of}
use Rattle.spl_fraction.specs.FractionsOver.{fractions_over}
use Rattle.spl_ramified.proofs.OrderConditions.{identity_held}
use Rattle.spl_ramified.proofs.order_fault.holds_identity.Goals as goal

pub holds_at-requires-clause-order : goal.holds_at-requires-clause-order
holds_at-requires-clause-order c =
    let F = field_of c.args.f.now in
    subst (λ m. IsBasis (small_ops F) (small_laws F) m c.args.order.now)
    (sym (ap length c.as_slice.ensures ∙ c.requires.one.tuple.right_length)) c.requires.basis

pub returns : goal.returns
returns c =
    let F = field_of c.args.f.now in
    let o = small_ops F in
    let L = small_laws F in
    let A = c.args.a.now in
    let one = c.args.one.now in
    let os = tuples_of o L c.args.order.now in
    let r = c.in_ok-held.held in
    let T = λ (m : ℕ) (v : List (Pair ℕ)). TupleLattice (fractions_over F) (IsIntegralAt o (Finite c.args.place.now)) m
    os v in
    let holds : IsTrue r ↔ T A.dim one = subst (λ m. IsTrue r ↔ T m one) c.requires.one.tuple.right_length
    (subst (λ v. IsTrue r ↔ T (length v) v) c.as_slice.ensures c.in_ok-held.ensures) in
    let e = identity_held o L A c.requires.over c.args.place.now c.requires.place os c.requires.basis.independent one
    c.requires.one in
    ((λ t. e.1 (holds.0 t)), (λ h. holds.1 (e.0 h)))
