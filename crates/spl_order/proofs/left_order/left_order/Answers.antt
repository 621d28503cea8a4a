use Rattle.std.proofs.Common.{◌*◌, ◌^◌, ◌<◌, ℕ, [], get_or, subst, sym, ap, ◌∙◌}
use Rattle.spl_field.specs.SmallField.{small_ops, small_laws}
use Rattle.spl_fraction.specs.Fractions.{field_of}
use Rattle.spl_fraction.specs.FractionsOver.{fractions_over}
use Rattle.spl_residue.specs.Residue.{residue_ops}
use Rattle.theory_places.specs.Places.{Finite}
use Rattle.theory_places.specs.FractionPlaces.{IsIntegralAt, IsMonicIrreducible}
use Rattle.theory_spaces.specs.Tuples.{IsTuple}
use Rattle.theory_tables.specs.Structure.{product_of}
use Rattle.theory_bases.specs.TupleLattices.{TupleLattice}
use Rattle.theory_bases.specs.Bases.{IsBasis, tuples_of}
use Rattle.spl_order.specs.LeftOrders.{SpansLeftOrders, GivesLeftOrders}
use Rattle.spl_order.specs.Residues.{IsResidueField, AreProductResidues}
use Rattle.spl_order.proofs.LeftOrders.{ideal_products}
use Rattle.spl_order.proofs.left_order.left_order.Goals as goal

pub place_field-requires : goal.place_field-requires
place_field-requires c =
    subst (λ q. IsMonicIrreducible (small_ops q) c.args.place.now) (sym c.field.ensures) c.requires.place

pub residue_constants-requires-clause-field : goal.residue_constants-requires-clause-field
residue_constants-requires-clause-field c = c.in_ok-k.ensures.operations ∙ ap small_ops c.field.ensures

pub residue_constants-requires-clause-place : goal.residue_constants-requires-clause-place
residue_constants-requires-clause-place c =
    subst (IsMonicIrreducible (small_ops (field_of c.args.f.now))) (sym c.in_ok-k.ensures.polynomial) c.requires.place

pub residue_constants-requires-clause-products : goal.residue_constants-requires-clause-products
residue_constants-requires-clause-products c =
    let F = field_of c.args.f.now in
    let o = small_ops F in
    let L = small_laws F in
    let K = fractions_over F in
    let A = c.args.a.now in
    let T = tuples_of o L c.args.ideal.now in
    subst (λ m. (i j : ℕ) → i < A.dim → j < A.dim → TupleLattice K (IsIntegralAt o (Finite m)) A.dim T
    (product_of K A (get_or T i []) (get_or T j []))) (sym c.in_ok-k.ensures.polynomial)
    (ideal_products o L c.args.place.now c.requires.place A (tuples_of o L c.args.order.now) T
    c.requires.ideal.independent c.requires.over_place)

pub left_order_by_residues-requires-clause-place : goal.left_order_by_residues-requires-clause-place
left_order_by_residues-requires-clause-place c =
    subst (λ q. IsMonicIrreducible (small_ops q) c.args.place.now) (sym c.field-2.ensures) c.requires.place

pub left_order_by_residues-requires-clause-field : goal.left_order_by_residues-requires-clause-field
left_order_by_residues-requires-clause-field c =
    subst (λ q. IsResidueField q c.args.place.now c.in_ok-k.k) (c.field.ensures ∙ sym c.field-2.ensures) c.in_ok-k.ensures

pub left_order_by_residues-requires-clause-residues : goal.left_order_by_residues-requires-clause-residues
left_order_by_residues-requires-clause-residues c =
    let r = residue_ops c.in_ok-k.k in
    let A = c.args.a.now in
    subst (λ n. IsTuple r (n * n * n) c.as_slice.result.now) (sym c.dim-n.ensures.dim)
    (subst (IsTuple r (A.dim * A.dim * A.dim)) (sym c.as_slice.ensures) c.in_ok-residues.ensures.shape)

pub left_order_by_residues-requires-clause-fits : goal.left_order_by_residues-requires-clause-fits
left_order_by_residues-requires-clause-fits c =
    subst (λ n. n * n * n < 2 ^ 64) (sym c.dim-n.ensures.dim) c.constants.ensures.fits

pub left_order_by_residues-requires-clause-ideal : goal.left_order_by_residues-requires-clause-ideal
left_order_by_residues-requires-clause-ideal c =
    let b = c.args.ideal.now in
    subst (λ q. IsBasis (small_ops q) (small_laws q) c.dim-n.result b) (sym c.field-2.ensures)
    (let F = field_of c.args.f.now in
    subst (λ n. IsBasis (small_ops F) (small_laws F) n b) (sym c.dim-n.ensures.dim) c.requires.ideal)

pub returns : goal.returns
returns c =
    let F = field_of c.args.f.now in
    let o = small_ops F in
    let L = small_laws F in
    let A = c.args.a.now in
    let m = c.args.place.now in
    let k = c.in_ok-k.k in
    let r = residue_ops k in
    let b = c.args.ideal.now in
    let out = c.in_ok-left.left in
    let R : AreProductResidues o L m r A (tuples_of o L b) c.as_slice.result.now =
    subst (AreProductResidues o L m r A (tuples_of o L b)) (sym c.as_slice.ensures)
    (subst (λ p. AreProductResidues o L p r A (tuples_of o L b) c.in_ok-residues.residues) c.in_ok-k.ensures.polynomial
    c.in_ok-residues.ensures) in
    let G : GivesLeftOrders o L m r c.dim-n.result c.as_slice.result.now b out =
    subst (λ q. GivesLeftOrders (small_ops q) (small_laws q) m r c.dim-n.result c.as_slice.result.now b out)
    c.field-2.ensures c.in_ok-left.ensures.left in
    let S : SpansLeftOrders o L m A (tuples_of o L c.args.order.now) (tuples_of o L b) (tuples_of o L out) =
    G A (sym c.dim-n.ensures.dim) c.requires.over c.requires.associative R (tuples_of o L c.args.order.now) in
    record {
      basis = subst (λ n. IsBasis o L n out) c.dim-n.ensures.dim
          (subst (λ q. IsBasis (small_ops q) (small_laws q) c.dim-n.result out) c.field-2.ensures
          c.in_ok-left.ensures.basis);
      at_place = S.at_place c.requires.over_place;
      over_polynomials = S.over_polynomials;
    }
