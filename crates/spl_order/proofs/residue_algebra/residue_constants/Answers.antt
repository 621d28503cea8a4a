use Rattle.std.proofs.Common.{◌<◌, ℕ, [], get_or, length, subst, sym}
use Rattle.spl_field.specs.SmallField.{small_ops, small_laws}
use Rattle.spl_fraction.specs.Fractions.{field_of}
use Rattle.spl_fraction.specs.FractionsOver.{fractions_over}
use Rattle.spl_residue.specs.Residue.{polynomial_of, residue_ops}
use Rattle.theory_fractions.specs.PolynomialLists.{IsPolynomialList}
use Rattle.theory_places.specs.Places.{Finite}
use Rattle.theory_places.specs.FractionPlaces.{IsIntegralAt, IsMonicIrreducible}
use Rattle.theory_tables.specs.Structure.{IsOver}
use Rattle.theory_bases.specs.Bases.{IsBasis, fraction_over, tuples_of}
use Rattle.spl_numerators.specs.Numerators.{AreNumerators}
use Rattle.spl_order.specs.Coordinates.{AreCoordinatesAt}
use Rattle.spl_order.specs.Residues.{AreResiduesOver}
use Rattle.spl_order.proofs.FieldResidues.{operations}
use Rattle.spl_order.proofs.ResidueTables.{integral_items, product_residues}
use Rattle.spl_order.proofs.residue_algebra.residue_constants.Goals as goal

pub product_coordinates-requires : goal.product_coordinates-requires
product_coordinates-requires c =
    let n = c.in_ok-numerators.numerators in
    record {
      over = subst (λ q. IsOver (fractions_over q) c.args.a.now) (sym c.field.ensures) c.requires.over;
      numerators = subst (λ q. AreNumerators (small_ops q) (small_laws q) n.denominator c.args.a.now n.entries)
          (sym c.field.ensures) c.in_ok-numerators.ensures;
      order = subst (λ q. IsBasis (small_ops q) (small_laws q) c.args.a.now.dim c.args.order.now) (sym c.field.ensures)
          c.requires.basis;
      place = subst (λ q. IsMonicIrreducible (small_ops q) c.modulus.result.now) (sym c.field.ensures)
          (subst (IsMonicIrreducible (small_ops (field_of c.args.f.now))) (sym c.modulus.ensures.value) c.requires.place);
    }

pub residues_over-requires : goal.residues_over-requires
residues_over-requires c =
    let s = field_of c.args.f.now in
    let o = small_ops s in
    let L = small_laws s in
    let m = polynomial_of c.args.k.now in
    let A = c.args.a.now in
    let T = tuples_of o L c.args.order.now in
    let found = c.in_ok-found.found in
    let C : AreCoordinatesAt o L m A T found.scale found.items =
    subst (λ q. AreCoordinatesAt (small_ops q) (small_laws q) m A (tuples_of (small_ops q) (small_laws q) c.args.order.now)
    found.scale found.items) c.field.ensures (subst (λ m. AreCoordinatesAt (small_ops c.field.result.now)
    (small_laws c.field.result.now) m A (tuples_of (small_ops c.field.result.now) (small_laws c.field.result.now)
    c.args.order.now) found.scale found.items) c.modulus.ensures.value c.in_ok-found.ensures) in
    let X = C.coordinates in
    record {
      field = c.requires.field;
      place = c.requires.place;
      d = X.polynomial;
      nonzero = X.nonzero;
      items = subst (λ xs. (p : ℕ) → p < length xs → IsPolynomialList o (get_or xs p [])) (sym c.as_slice.ensures)
          (λ p l. C.polynomials p (subst (λ n. p < n) C.count l));
      integral = subst (λ xs. (p : ℕ) → p < length xs
          → IsIntegralAt o (Finite m) (fraction_over o L found.scale (get_or xs p []))) (sym c.as_slice.ensures)
          (λ p l. integral_items o L m c.requires.place A T found.scale found.items C
          (let B = c.requires.basis in B.independent) c.requires.products p (subst (λ n. p < n) C.count l));
    }

pub returns : goal.returns
returns c =
    let s = field_of c.args.f.now in
    let o = small_ops s in
    let L = small_laws s in
    let m = polynomial_of c.args.k.now in
    let r = residue_ops c.args.k.now in
    let A = c.args.a.now in
    let T = tuples_of o L c.args.order.now in
    let found = c.in_ok-found.found in
    let constants = c.in_ok-constants.constants in
    let C : AreCoordinatesAt o L m A T found.scale found.items =
    subst (λ q. AreCoordinatesAt (small_ops q) (small_laws q) m A (tuples_of (small_ops q) (small_laws q) c.args.order.now)
    found.scale found.items) c.field.ensures (subst (λ m. AreCoordinatesAt (small_ops c.field.result.now)
    (small_laws c.field.result.now) m A (tuples_of (small_ops c.field.result.now) (small_laws c.field.result.now)
    c.args.order.now) found.scale found.items) c.modulus.ensures.value c.in_ok-found.ensures) in
    product_residues o L m c.requires.place A T found.scale found.items C
    (let B = c.requires.basis in B.independent) c.requires.products r
    (sym (operations s c.args.k.now c.requires.field c.requires.place)) constants
    (subst (λ n. AreResiduesOver o L m r found.scale found.items n constants) C.count
    (subst (λ x. AreResiduesOver o L m r found.scale x (length x) constants) c.as_slice.ensures
    c.in_ok-constants.ensures))
