use Rattle.std.proofs.Common.{◌≡◌, ap, sym, subst, ◌∙◌, length, ℕ}
use Rattle.spl_field.specs.declared.small.SmallField.{SmallField}
use Rattle.spl_field.specs.SmallField.{small_ops, small_laws}
use Rattle.spl_fraction.specs.Fractions.{field_of}
use Rattle.theory_fractions.specs.PolynomialLists.{IsPolynomialList}
use Rattle.theory_fractions.proofs.CommonDenominators.{nonzero_of_monic}
use Rattle.theory_places.specs.FractionPlaces.{IsMonicIrreducible}
use Rattle.theory_rows.specs.Rows.{IsPolynomialMatrix}
use Rattle.theory_bases.specs.Bases.{IsBasis}
use Rattle.spl_order.proofs.ProductEntries.{square_count}
use Rattle.spl_order.proofs.WithinAt.{carried, tells_of, tuples_within}
use Rattle.spl_order.proofs.within_at.is_within_at.Goals as goal

pub are_within_at-requires : goal.are_within_at-requires
are_within_at-requires c =
    let F = field_of c.args.f.now in
    let o = small_ops F in
    let g = c.field.result.now in
    let a = c.args.a.now in
    let n = c.requires.bases.0 in
    let ha = c.requires.bases.1 in
    let count : c.len.result ≡ n =
    c.len.ensures ∙ ap length c.numerators-rows.ensures ∙ square_count o (small_laws F) n a ha in
    let z-is = c.as_slice.ensures ∙ c.numerators-rows.ensures in
    let d-is = c.denominator.ensures.value in
    let C = λ (T : SmallField → ℕ → Type 0). carried F g c.field.ensures c.len.result n count T in
    record {
      rows = C (λ f w. IsPolynomialMatrix (small_ops f) w c.as_slice.result.now)
          (subst (IsPolynomialMatrix o n) (sym z-is) ha.rows);
      denominator = subst (IsPolynomialList (small_ops g)) (sym d-is)
          (C (λ f _. IsPolynomialList (small_ops f) a.denominator) ha.polynomial);
      nonzero = λ e. nonzero_of_monic o (small_laws F) a.denominator (let l = ha.least in l.monic) (sym d-is ∙ e);
      b = C (λ f w. IsBasis (small_ops f) (small_laws f) w c.args.b.now) c.requires.bases.2;
      place = C (λ f _. IsMonicIrreducible (small_ops f) c.args.place.now) c.requires.place;
    }

pub returns : goal.returns
returns c = λ n ha hb.
    let F = field_of c.args.f.now in
    let o = small_ops F in
    let a = c.args.a.now in
    let count : c.len.result ≡ n =
    c.len.ensures ∙ ap length c.numerators-rows.ensures ∙ square_count o (small_laws F) n a ha in
    let p = tells_of F c.field.result.now c.field.ensures c.len.result n count c.args.b.now c.args.place.now
    c.in_ok-within.within c.as_slice.result.now a.numerators (c.as_slice.ensures ∙ c.numerators-rows.ensures)
    c.denominator.result.now a.denominator c.denominator.ensures.value c.in_ok-within.ensures in
    let w = tuples_within o (small_laws F) c.args.place.now c.requires.place n a c.args.b.now ha hb in
    ((λ t. w.0 (p.0 t)), (λ h. p.1 (w.1 h)))
