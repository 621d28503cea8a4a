use Rattle.std.proofs.Common.{subst}
use Rattle.std.proofs.lemmas.Bool.{both_ways}
use Rattle.theory_bases.specs.Bases.{IsBasis}
use Rattle.theory_fractions.proofs.FractionField.{fraction_laws}
use Rattle.theory_remainders.proofs.RemainderField.{remainder_laws}
use Rattle.theory_left_orders.proofs.FractionResidues.{residue_rings}
use Rattle.spl_field.specs.SmallField.{small_ops, small_laws}
use Rattle.spl_fraction.specs.Fractions.{field_of}
use Rattle.spl_local.specs.Growth.{small_tuples}
use Rattle.spl_local.proofs.Growth.{ideal_at_place, is_step, does_not_grow, products_are, shape_is, preimages_are}
use Rattle.spl_local.proofs.settle.larger_order.Goals as goal

pub left_order-requires-clause-over_place : goal.left_order-requires-clause-over_place
left_order-requires-clause-over_place c =
    let F = field_of c.args.f.now in
    let o = small_ops F in
    let L = small_laws F in
    let A = c.args.a.now in
    let m = c.args.place.now in
    let s = c.requires.place in
    let B = c.args.residue.now.algebra in
    let M = fraction_laws o L in
    let N = remainder_laws o L m s.irreducible in
    let v = c.in_ok-preimage in
    ideal_at_place o L m s M N (residue_rings o L M m s N) A c.requires.over c.requires.associative
    (small_tuples F c.args.order.now) c.requires.order B.constants c.args.ideal.now.rows (small_tuples F v.preimage)
    (preimages_are F m s M A c.args.order.now c.args.residue.now.field B c.requires.residue c.requires.over
    c.requires.associative c.args.ideal.now.rows v.preimage v.ensures.preimage)

pub returns-then-branch-clause-none : goal.returns-then-branch-clause-none
returns-then-branch-clause-none c = λ _ M s N R.
    let F = field_of c.args.f.now in
    let o = small_ops F in
    let L = small_laws F in
    let A = c.args.a.now in
    let m = c.args.place.now in
    let B = c.args.residue.now.algebra in
    let rows = c.args.ideal.now.rows in
    let v = c.in_ok-preimage in
    let w = c.in_ok-left in
    let ib : IsBasis o L A.dim v.preimage =
    subst (λ n. IsBasis o L n v.preimage) c.requires.residue.dim v.ensures.basis in
    does_not_grow o L m s M N R A c.requires.over c.requires.associative (small_tuples F c.args.order.now)
    c.requires.order B.constants rows (small_tuples F v.preimage)
    (preimages_are F m s M A c.args.order.now c.args.residue.now.field B c.requires.residue c.requires.over
    c.requires.associative rows v.preimage v.ensures.preimage)
    ib.independent (small_tuples F w.left) w.ensures.over_polynomials
    (shape_is F m s M A c.args.order.now c.args.residue.now.field B c.requires.residue rows c.requires.ideal)
    ((c.in_ok-is_within.ensures A.dim w.ensures.basis c.requires.basis).0 c.if-branch.true)

pub returns-clause-some : goal.returns-clause-some
returns-clause-some c =
    let F = field_of c.args.f.now in
    let o = small_ops F in
    let L = small_laws F in
    let A = c.args.a.now in
    let m = c.args.place.now in
    let s = c.requires.place in
    let B = c.args.residue.now.algebra in
    let rows = c.args.ideal.now.rows in
    let M = fraction_laws o L in
    let N = remainder_laws o L m s.irreducible in
    let v = c.in_ok-preimage in
    let w = c.in_ok-left in
    let ib : IsBasis o L A.dim v.preimage =
    subst (λ n. IsBasis o L n v.preimage) c.requires.residue.dim v.ensures.basis in
    record {
      basis = w.ensures.basis;
      growth = record {
        step = is_step o L m s M N (residue_rings o L M m s N) A c.requires.over c.requires.associative
            (small_tuples F c.args.order.now) c.requires.order B.constants rows (small_tuples F v.preimage)
            (preimages_are F m s M A c.args.order.now c.args.residue.now.field B c.requires.residue c.requires.over
            c.requires.associative rows v.preimage v.ensures.preimage)
            ib.independent (small_tuples F w.left) w.ensures.over_polynomials
            (products_are F m s M A c.args.order.now c.args.residue.now.field B c.requires.residue)
            w.ensures.basis.independent;
        proper = λ h. both_ways c.in_ok-is_within.field-0 c.if-branch.false
            ((c.in_ok-is_within.ensures A.dim w.ensures.basis c.requires.basis).1 h);
      };
    }
