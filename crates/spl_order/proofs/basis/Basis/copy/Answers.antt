use Rattle.std.proofs.Common.{◌∙◌, sym, ap₂, subst, All}
use Rattle.spl_field.specs.SmallField.{small_ops, small_laws}
use Rattle.spl_poly.specs.Operations.{IsOver}
use Rattle.spl_fraction.specs.Fractions.{field_of}
use Rattle.theory_bases.specs.Bases.{IsBasis}
use Rattle.spl_order.proofs.basis.Basis.copy.Goals as goal

pub copied_rows-requires : goal.copied_rows-requires
copied_rows-requires c =
    let o = small_ops (field_of c.args.f.now) in
    let L = small_laws (field_of c.args.f.now) in
    let b = subst (IsBasis o L c.requires.0) (sym c.self.view_is) c.requires.1 in
    subst (λ q. All (All (IsOver (small_ops q))) c.as_slice.result.now) (sym c.field.ensures)
    (subst (All (All (IsOver o))) (sym c.as_slice.ensures) (λ k d l. let r = b.rows k d l in r.over))

pub copy-requires : goal.copy-requires
copy-requires c =
    let o = small_ops (field_of c.args.f.now) in
    let L = small_laws (field_of c.args.f.now) in
    let b = subst (IsBasis o L c.requires.0) (sym c.self.view_is) c.requires.1 in
    let p = b.polynomial in
    subst (λ q. IsOver (small_ops q) c.self.inside.denominator) (sym c.field-2.ensures) p.over

pub returns : goal.returns
returns c =
    ap₂ (λ d r. record { denominator = d; numerators = r }) c.in_ok-denominator.ensures.value
    (c.in_ok-numerators.ensures ∙ c.as_slice.ensures) ∙ c.self.view_is
