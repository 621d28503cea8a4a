use Rattle.std.proofs.Common.{List, ℕ, subst, sym}
use Rattle.std.specs.List.{All}
use Rattle.theory_fractions.proofs.FractionField.{fraction_laws}
use Rattle.theory_remainders.proofs.RemainderField.{remainder_laws}
use Rattle.theory_tables.specs.Subspace.{Rows}
use Rattle.theory_tables.specs.Algebras.{SpansIdeal}
use Rattle.theory_left_orders.proofs.FractionResidues.{residue_rings}
use Rattle.spl_field.specs.SmallField.{small_ops, small_laws}
use Rattle.spl_fraction.specs.Fractions.{field_of}
use Rattle.spl_residue.specs.Residue.{residue_ops}
use Rattle.spl_local.specs.Growth.{small_tuples, DoesNotGrowBy}
use Rattle.spl_local.proofs.Growth.{order_at_place}
use Rattle.spl_local.proofs.States.{ideals_are, is_state}
use Rattle.spl_local.proofs.settle.next_step.Goals as goal

pub residue_algebra-requires-clause-order : goal.residue_algebra-requires-clause-order
residue_algebra-requires-clause-order c =
    let F = field_of c.args.f.now in
    let o = small_ops F in
    let L = small_laws F in
    let m = c.args.place.now in
    let s = c.requires.place in
    let M = fraction_laws o L in
    let N = remainder_laws o L m s.irreducible in
    order_at_place o L m s M N (residue_rings o L M m s N) c.args.a.now c.requires.over c.requires.associative
    (small_tuples F c.args.order.now) c.requires.order

pub radical_and_ideals-requires-clause-unital : goal.radical_and_ideals-requires-clause-unital
radical_and_ideals-requires-clause-unital c = record {
  over = c.in_ok-residue.ensures.over;
  associative = c.in_ok-residue.ensures.associative c.requires.associative;
  identity = c.in_ok-residue.ensures.identity c.requires.associative;
}

pub first_larger-requires-clause-ideals : goal.first_larger-requires-clause-ideals
first_larger-requires-clause-ideals c =
    let z = c.in_ok-residue.residue in
    let r = residue_ops z.field in
    subst (λ (l : List (Rows (List ℕ))). All (λ (s : Rows (List ℕ)). SpansIdeal r z.algebra s.rows) l)
    (sym c.as_slice-ideals.ensures) (ideals_are r z.algebra c.in_ok-found.found.ideals c.in_ok-found.ensures.ideals)

pub returns : goal.returns
returns c =
    let F = field_of c.args.f.now in
    let A = c.args.a.now in
    let m = c.args.place.now in
    let order = c.args.order.now in
    let z = c.in_ok-residue.residue in
    let d = c.in_ok-found in
    let p = c.in_ok-preimage-in-None in
    let none : All (λ (s : Rows (List ℕ)). DoesNotGrowBy F A m order s.rows) d.found.ideals =
    subst (λ (l : List (Rows (List ℕ))). All (λ (s : Rows (List ℕ)). DoesNotGrowBy F A m order s.rows) l)
    c.as_slice-ideals.ensures (c.in_ok-next.ensures.none c.in-None.is) in
    is_state F A c.requires.over c.requires.associative c.requires.centre c.requires.apart m c.requires.place order
    c.requires.order z.field z.algebra c.in_ok-residue.ensures.residue d.found.radical d.ensures.basis d.ensures.width
    d.ensures.radical d.found.ideals d.ensures.ideals none p.preimage p.ensures.basis p.ensures.preimage
    c.state_of-state.result c.state_of-state.ensures
