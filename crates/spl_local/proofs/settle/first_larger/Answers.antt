use Rattle.std.proofs.Common.{◌≡◌, ◌<◌, ◌≤◌, List, ℕ, get_or, ◌∙◌, subst, sym, arith, ⊎_elim}
use Rattle.std.proofs.lemmas.Bool.{cases_lt}
use Rattle.std.proofs.lemmas.List.{get_or_default}
use Rattle.std.proofs.lemmas.List.Elements.{All-get_or}
use Rattle.theory_tables.specs.Subspace.{Rows}
use Rattle.theory_tables.specs.Algebras.{SpansIdeal}
use Rattle.spl_residue.specs.Residue.{residue_ops}
use Rattle.spl_fraction.specs.Fractions.{field_of}
use Rattle.spl_local.specs.Growth.{DoesNotGrowBy}
use Rattle.spl_local.proofs.settle.first_larger.Goals as goal

pub larger_order-requires-clause-ideal : goal.larger_order-requires-clause-ideal
larger_order-requires-clause-ideal c =
    let z = c.args.residue.now in
    let i = c.loop-i.i in
    let x = c.index-ideals-i.result in
    let P : Rows (List ℕ) → Type 0 = λ s. SpansIdeal (residue_ops z.field) z.algebra s.rows in
    subst P (sym c.index-ideals-i.is) (All-get_or P c.args.ideals.now i x c.loop-i-test.true c.requires.ideals)

pub loop-i-init : goal.loop-i-init
loop-i-init c = λ j d l. absurd (omega (arith, l))

pub loop-i-preserved : goal.loop-i-preserved
loop-i-preserved c = λ j d l.
    let i = c.loop-i.i in
    let x = c.index-ideals-i.result in
    let P : Rows (List ℕ) → Type 0 = λ s. DoesNotGrowBy (field_of c.args.f.now) c.args.a.now c.args.place.now
    c.args.order.now s.rows in
    let this : P x = c.in_ok-next.ensures.none c.in_default.is in
    ⊎_elim (λ (h : j < i). c.loop-i.invariant j d h)
    (λ (h : i ≤ j). let e : i ≡ j = omega (arith, h, l) in
    subst (λ k. P (get_or c.args.ideals.now k d)) e
    (subst P (c.index-ideals-i.is ∙ get_or_default c.args.ideals.now i x d c.loop-i-test.true) this)) (cases_lt j i)

pub returns-clause-none : goal.returns-clause-none
returns-clause-none c = λ _ j d l. c.loop-i.invariant j d (omega (arith, l, c.loop-i-test.false))
