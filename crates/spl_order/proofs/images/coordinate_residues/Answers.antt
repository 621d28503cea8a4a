use Rattle.std.proofs.Common.{◌≡◌, ◌<◌, ℕ, [], length, get_or, refl, sym, ap, subst, ◌∙◌}
use Rattle.spl_field.specs.declared.small.SmallField.{SmallField}
use Rattle.spl_field.specs.SmallField.{small_ops, small_laws}
use Rattle.spl_fraction.specs.Fractions.{field_of}
use Rattle.spl_residue.specs.Residue.{polynomial_of, residue_ops}
use Rattle.theory_fractions.specs.PolynomialLists.{IsPolynomialList}
use Rattle.theory_fractions.proofs.CommonDenominators.{nonzero_of_monic}
use Rattle.theory_places.specs.Places.{Finite}
use Rattle.theory_places.specs.FractionPlaces.{IsIntegralAt}
use Rattle.theory_rows.specs.Rows.{IsPolynomialMatrix}
use Rattle.theory_bases.specs.Bases.{IsBasis, fraction_over, tuples_of}
use Rattle.spl_order.specs.Members.{AreCoordinateColumns}
use Rattle.spl_order.specs.Residues.{AreResiduesOver}
use Rattle.spl_order.specs.Values.{HasMatrix, product_entry}
use Rattle.spl_order.proofs.WithinAt.{carried}
use Rattle.spl_order.proofs.CoordinateResidues.{columns_of, product_of, rows-matrix, coordinates-integral, residues-of}
use Rattle.spl_order.proofs.images.coordinate_residues.Goals as goal

pub coordinate_columns-requires : goal.coordinate_columns-requires
coordinate_columns-requires c =
    let F = field_of c.args.f.now in
    let g = c.field.result.now in
    let h = c.requires.inside in
    let d-is = c.denominator.ensures.value in
    let C = λ (T : SmallField → ℕ → Type 0). carried F g c.field.ensures c.args.n c.args.n refl T in
    record {
      basis = C (λ f w. IsBasis (small_ops f) (small_laws f) w c.args.order.now) c.requires.order;
      denominator = subst (IsPolynomialList (small_ops g)) (sym d-is)
          (C (λ f _. IsPolynomialList (small_ops f) c.args.inside.now.denominator) h.polynomial);
      nonzero = λ e. nonzero_of_monic (small_ops F) (small_laws F) c.args.inside.now.denominator
          (let l = h.least in l.monic) (sym d-is ∙ e);
    }

pub product-requires : goal.product-requires
product-requires c =
    let F = field_of c.args.f.now in
    let o = small_ops F in
    let n = c.args.n in
    let h = c.requires.inside in
    let found = c.in_ok-found.found in
    let A : AreCoordinateColumns o (small_laws F) n (tuples_of o (small_laws F) c.args.order.now)
    c.args.inside.now.denominator found.scale found.columns =
    columns_of F c.field.result.now c.field.ensures n c.args.order.now c.denominator.result.now
    c.args.inside.now.denominator found.scale found.columns c.denominator.ensures.value c.in_ok-found.ensures in
    let g = c.field-2.result.now in
    let count : length c.as_slice-2.result.now ≡ n = ap length c.as_slice-2.ensures ∙ A.count in
    record {
      a = carried F g c.field-2.ensures (length c.as_slice-2.result.now) n count
          (λ f w. IsPolynomialMatrix (small_ops f) w c.as_slice.result.now)
          (subst (IsPolynomialMatrix o n) (sym (c.as_slice.ensures ∙ c.numerators.ensures)) h.rows);
      b = carried F g c.field-2.ensures n n refl
          (λ f w. IsPolynomialMatrix (small_ops f) w c.as_slice-2.result.now)
          (subst (IsPolynomialMatrix o n) (sym c.as_slice-2.ensures) A.matrix);
    }

pub residue_rows-requires : goal.residue_rows-requires
residue_rows-requires c =
    let F = field_of c.args.f.now in
    let o = small_ops F in
    let L = small_laws F in
    let n = c.args.n in
    let found = c.in_ok-found.found in
    let A : AreCoordinateColumns o L n (tuples_of o L c.args.order.now) c.args.inside.now.denominator found.scale
    found.columns =
    columns_of F c.field.result.now c.field.ensures n c.args.order.now c.denominator.result.now
    c.args.inside.now.denominator found.scale found.columns c.denominator.ensures.value c.in_ok-found.ensures in
    let rows = c.in_ok-rows.rows in
    let R : HasMatrix o (product_entry o L (length found.columns) c.args.inside.now.numerators found.columns)
    (length c.args.inside.now.numerators) n rows =
    product_of F c.field-2.result.now c.field-2.ensures n c.as_slice.result.now c.args.inside.now.numerators
    c.as_slice-2.result.now found.columns rows (c.as_slice.ensures ∙ c.numerators.ensures) c.as_slice-2.ensures
    c.in_ok-rows.ensures in
    record {
      field = c.requires.field;
      place = c.requires.place;
      d = A.polynomial;
      nonzero = A.nonzero;
      rows = subst (IsPolynomialMatrix o n) (sym c.as_slice-3.ensures)
          (rows-matrix o L (polynomial_of c.args.k.now) c.requires.place n c.args.order.now c.args.inside.now
          c.requires.order c.requires.inside found.scale found.columns A rows R);
      integral = subst (λ z. (i l : ℕ) → i < length z → l < n → IsIntegralAt o (Finite (polynomial_of c.args.k.now))
          (fraction_over o L found.scale (get_or (get_or z i []) l []))) (sym c.as_slice-3.ensures)
          (coordinates-integral o L (polynomial_of c.args.k.now) c.requires.place n c.args.order.now c.args.inside.now
          c.requires.order c.requires.inside found.scale found.columns A rows R c.requires.within);
    }

pub returns : goal.returns
returns c =
    let F = field_of c.args.f.now in
    let o = small_ops F in
    let L = small_laws F in
    let n = c.args.n in
    let found = c.in_ok-found.found in
    let A : AreCoordinateColumns o L n (tuples_of o L c.args.order.now) c.args.inside.now.denominator found.scale
    found.columns =
    columns_of F c.field.result.now c.field.ensures n c.args.order.now c.denominator.result.now
    c.args.inside.now.denominator found.scale found.columns c.denominator.ensures.value c.in_ok-found.ensures in
    let rows = c.in_ok-rows.rows in
    let R : HasMatrix o (product_entry o L (length found.columns) c.args.inside.now.numerators found.columns)
    (length c.args.inside.now.numerators) n rows =
    product_of F c.field-2.result.now c.field-2.ensures n c.as_slice.result.now c.args.inside.now.numerators
    c.as_slice-2.result.now found.columns rows (c.as_slice.ensures ∙ c.numerators.ensures) c.as_slice-2.ensures
    c.in_ok-rows.ensures in
    let r = residue_ops c.args.k.now in
    let p = polynomial_of c.args.k.now in
    let e = c.in_ok-residues in
    let items = e.residues.items in
    residues-of o L p c.requires.place n c.args.order.now c.args.inside.now
    c.requires.order c.requires.inside found.scale found.columns A rows R r items
    (e.ensures.count ∙ ap length c.as_slice-3.ensures)
    (subst (λ z. (i : ℕ) → i < length z → AreResiduesOver o L p r found.scale (get_or z i []) n (get_or items i []))
    c.as_slice-3.ensures e.ensures.each)
