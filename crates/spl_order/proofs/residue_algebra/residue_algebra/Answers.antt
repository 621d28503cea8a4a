use Rattle.std.proofs.Common.{◌≡◌, ◌<◌, ◌*◌, ℕ, [], get_or, MatchOption, IfSome, subst, sym, ◌∙◌, ap}
use Rattle.spl_field.specs.SmallField.{small_ops, small_laws}
use Rattle.spl_fraction.specs.Fractions.{field_of}
use Rattle.spl_residue.specs.Residue.{field_of as residue_field_of, polynomial_of, residue_ops}
use Rattle.theory_fractions.specs.PolynomialLists.{IsOver as IsListOver}
use Rattle.theory_fractions.specs.FractionOps.{fraction_ops}
use Rattle.theory_remainders.specs.Irreducible.{IsIrreducible}
use Rattle.theory_places.specs.Places.{Finite}
use Rattle.theory_places.specs.FractionPlaces.{IsIntegralAt, IsMonicIrreducible}
use Rattle.theory_spaces.specs.Tuples.{IsTuple}
use Rattle.theory_tables.specs.Structure.{product_of}
use Rattle.theory_bases.specs.TupleLattices.{TupleLattice}
use Rattle.theory_bases.specs.Bases.{tuples_of}
use Rattle.spl_order.specs.Residues.{AreProductResidues}
use Rattle.spl_order.proofs.MappedRows.{some_of_not_none}
use Rattle.spl_order.proofs.ResidueValues.{same_remainders}
use Rattle.spl_order.proofs.ResidueTables.{order_products, residue_laws}
use Rattle.spl_order.proofs.residue_algebra.residue_algebra.Goals as goal

pub new-requires : goal.new-requires
new-requires c =
    let place = c.args.place.now in
    subst (λ q. IsListOver (small_ops q) place) (sym c.field.ensures)
    (let s = c.requires.place in let p = s.polynomial in p.over)

pub unwrap-field-requires : goal.unwrap-field-requires
unwrap-field-requires c =
    some_of_not_none _ _ c.in_ok-new.field-0 c.in_ok-new.ensures.value
    (λ n. n (subst (λ q. IsIrreducible (small_ops q) c.args.place.now) (sym c.field.ensures)
    (let s = c.requires.place in s.irreducible)))

pub residue_constants-requires-clause-field : goal.residue_constants-requires-clause-field
residue_constants-requires-clause-field c =
    let k = c.unwrap-field.result in
    let q = small_ops c.field.result.now in
    subst (λ t. IfSome t (λ k. small_ops (residue_field_of k) ≡ q)) c.unwrap-field.ensures c.in_ok-new.ensures.ops
    ∙ ap small_ops c.field.ensures

pub residue_constants-requires-clause-place : goal.residue_constants-requires-clause-place
residue_constants-requires-clause-place c =
    let s = field_of c.args.f.now in
    let o = small_ops s in
    let place = c.args.place.now in
    let k = c.unwrap-field.result in
    let q = small_ops c.field.result.now in
    let v = subst (λ t. MatchOption t (IsIrreducible q place → ⊥)
    (λ k. IsIrreducible q place × (polynomial_of k ≡ place))) c.unwrap-field.ensures c.in_ok-new.ensures.value in
    let e : polynomial_of k ≡ place = v.1 in
    subst (IsMonicIrreducible o) (sym e) c.requires.place

pub residue_constants-requires-clause-products : goal.residue_constants-requires-clause-products
residue_constants-requires-clause-products c =
    let s = field_of c.args.f.now in
    let o = small_ops s in
    let place = c.args.place.now in
    let k = c.unwrap-field.result in
    let q = small_ops c.field.result.now in
    let v = subst (λ t. MatchOption t (IsIrreducible q place → ⊥)
    (λ k. IsIrreducible q place × (polynomial_of k ≡ place))) c.unwrap-field.ensures c.in_ok-new.ensures.value in
    let e : polynomial_of k ≡ place = v.1 in
    let L = small_laws s in
    let K = fraction_ops o L in
    let A = c.args.a.now in
    let T = tuples_of o L c.args.order.now in
    subst (λ m. (i j : ℕ) → i < A.dim → j < A.dim
    → TupleLattice K (IsIntegralAt o (Finite m)) A.dim T (product_of K A (get_or T i []) (get_or T j []))) (sym e)
    (order_products o L place c.requires.place A T c.requires.order)

pub new-requires-2-clause-over : goal.new-requires-2-clause-over
new-requires-2-clause-over c =
    subst (λ n. IsTuple (residue_ops c.unwrap-field.result) (n * n * n) c.in_ok-constants.constants)
    (sym c.dim-m.ensures.dim) (let H = c.in_ok-constants.ensures in H.shape)

pub returns : goal.returns
returns c =
    let s = field_of c.args.f.now in
    let o = small_ops s in
    let place = c.args.place.now in
    let k = c.unwrap-field.result in
    let q = small_ops c.field.result.now in
    let v = subst (λ t. MatchOption t (IsIrreducible q place → ⊥)
    (λ k. IsIrreducible q place × (polynomial_of k ≡ place))) c.unwrap-field.ensures c.in_ok-new.ensures.value in
    let e : polynomial_of k ≡ place = v.1 in
    let ops : small_ops (residue_field_of k) ≡ o =
    subst (λ t. IfSome t (λ k. small_ops (residue_field_of k) ≡ q)) c.unwrap-field.ensures c.in_ok-new.ensures.ops
    ∙ ap small_ops c.field.ensures in
    let L = small_laws s in
    let A = c.args.a.now in
    let T = tuples_of o L c.args.order.now in
    let r = residue_ops k in
    let B = c.in_ok-algebra.algebra in
    let dim : B.dim ≡ A.dim = c.in_ok-algebra.ensures.dim ∙ c.dim-m.ensures.dim in
    let H : AreProductResidues o L place r A T B.constants =
    subst (λ m. AreProductResidues o L m r A T B.constants) e
    (subst (AreProductResidues o L (polynomial_of k) r A T) (sym c.in_ok-algebra.ensures.constants)
    c.in_ok-constants.ensures) in
    let S = c.requires.place in
    let laws = residue_laws o L place S A T r (same_remainders (small_ops (residue_field_of k)) o
    (small_laws (residue_field_of k)) L (polynomial_of k) place k.irreducible S.irreducible ops e) B dim H
    c.requires.order c.requires.over in
    record {
      residue = record {
        field = record { operations = ops; polynomial = e };
        dim = dim;
        products = H;
      };
      over = subst (λ n. IsTuple r (n * n * n) B.constants) (sym dim) H.shape;
      associative = λ assoc. (laws assoc).0;
      identity = λ assoc. (laws assoc).1;
    }
