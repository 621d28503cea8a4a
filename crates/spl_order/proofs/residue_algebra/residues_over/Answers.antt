use Rattle.std.proofs.Common.{◌≡◌, ◌≢◌, MatchOption, ◌∙◌, ap, subst, sym}
use Rattle.theory_fractions.specs.PolynomialLists.{IsOver, IsPolynomialList}
use Rattle.spl_field.specs.SmallField.{small_ops, small_laws}
use Rattle.spl_fraction.specs.Fractions.{field_of}
use Rattle.spl_residue.specs.Residue.{polynomial_of, residue_ops}
use Rattle.theory_places.specs.Places.{Finite}
use Rattle.theory_places.specs.FractionPlaces.{IsIntegralAt, IsMonicIrreducible}
use Rattle.theory_reductions.specs.Reductions.{IsResidueOf}
use Rattle.theory_bases.specs.Bases.{fraction_over}
use Rattle.spl_order.specs.Members.{IsPartAt}
use Rattle.spl_order.proofs.FieldResidues.{over_field, unit_remains, multiple_residue}
use Rattle.spl_order.proofs.PlaceParts.{part_quotient}
use Rattle.spl_order.proofs.PlaceResidues.{part_divides}
use Rattle.spl_order.proofs.MappedRows.{some_of_not_none}
use Rattle.spl_order.proofs.ResidueTables.{more_residues}
use Rattle.spl_order.proofs.Values.{read_is}
use Rattle.spl_order.proofs.residue_algebra.residues_over.Goals as goal

pub place_part-requires : goal.place_part-requires
place_part-requires c = record {
  m = subst (λ q. IsMonicIrreducible (small_ops q) c.modulus.result.now) (sym c.field.ensures)
      (subst (IsMonicIrreducible (small_ops (field_of c.args.f.now))) (sym c.modulus.ensures.value) c.requires.place);
  s = subst (λ q. IsPolynomialList (small_ops q) c.args.d.now) (sym c.field.ensures) c.requires.d;
  nonzero = c.requires.nonzero;
}

pub reduce_poly-requires : goal.reduce_poly-requires
reduce_poly-requires c =
    let u = c.in_ok-unit in
    over_field (field_of c.args.f.now) c.args.k.now c.requires.field u.field-0.quotient
    (subst (λ q. IsOver (small_ops q) u.field-0.quotient) c.field-2.ensures u.ensures.quotient_over)

pub unwrap-inverse-requires : goal.unwrap-inverse-requires
unwrap-inverse-requires c =
    let s = field_of c.args.f.now in
    let o = small_ops s in
    let L = small_laws s in
    let k = c.args.k.now in
    let m = polynomial_of k in
    let d = c.args.d.now in
    let part = c.in_ok-part.part in
    let T : IsPartAt o L m d part =
    subst (λ q. IsPartAt (small_ops q) (small_laws q) m d part) c.field.ensures
    (subst (λ m. IsPartAt (small_ops c.field.result.now) (small_laws c.field.result.now) m d part)
    c.modulus.ensures.value c.in_ok-part.ensures) in
    let u = c.in_ok-unit in
    let unit = part_quotient s c.field-2.result.now c.field-2.ensures part d u.field-0.quotient u.field-0.remainder
    T.polynomial T.nonzero c.requires.d (part_divides o L m c.requires.place d c.requires.d c.requires.nonzero part T)
    u.ensures.value u.ensures.quotient_over u.ensures.quotient_trimmed u.ensures.remainder_over
    u.ensures.remainder_trimmed in
    let y = c.in_ok-lower in
    some_of_not_none _ _ c.in_ok-inv.field-0 c.in_ok-inv.ensures.value
    (unit_remains s k c.requires.field c.requires.place d c.requires.d c.requires.nonzero part T u.field-0.quotient unit.0
    unit.1 y.lower y.ensures.elem y.ensures.value)

pub divide-requires-in-loop-p-clause-self_over : goal.divide-requires-in-loop-p-clause-self_over
divide-requires-in-loop-p-clause-self_over c =
    let s = field_of c.args.f.now in
    let p = c.loop-p.p in
    let x = c.index-items-p.result in
    let e = read_is c.args.items.now p x c.loop-p-test.true c.index-items-p.is in
    subst (λ q. IsOver (small_ops q) x) (sym c.field-in-loop-p.ensures)
    (subst (IsOver (small_ops s)) (sym e) (let h = c.requires.items p c.loop-p-test.true in h.over))

pub reduce_poly-requires-in-loop-p : goal.reduce_poly-requires-in-loop-p
reduce_poly-requires-in-loop-p c =
    let u = c.in_ok-quotient in
    over_field (field_of c.args.f.now) c.args.k.now c.requires.field u.field-0.quotient
    (subst (λ q. IsOver (small_ops q) u.field-0.quotient) c.field-in-loop-p.ensures u.ensures.quotient_over)

pub loop-p-preserved : goal.loop-p-preserved
loop-p-preserved c =
    let s = field_of c.args.f.now in
    let o = small_ops s in
    let L = small_laws s in
    let k = c.args.k.now in
    let m = polynomial_of k in
    let r = residue_ops k in
    let d = c.args.d.now in
    let part = c.in_ok-part.part in
    let T : IsPartAt o L m d part =
    subst (λ q. IsPartAt (small_ops q) (small_laws q) m d part) c.field.ensures
    (subst (λ m. IsPartAt (small_ops c.field.result.now) (small_laws c.field.result.now) m d part)
    c.modulus.ensures.value c.in_ok-part.ensures) in
    let u = c.in_ok-unit in
    let unit = part_quotient s c.field-2.result.now c.field-2.ensures part d u.field-0.quotient u.field-0.remainder
    T.polynomial T.nonzero c.requires.d (part_divides o L m c.requires.place d c.requires.d c.requires.nonzero part T)
    u.ensures.value u.ensures.quotient_over u.ensures.quotient_trimmed u.ensures.remainder_over
    u.ensures.remainder_trimmed in
    let y = c.in_ok-lower in
    let inverse = c.unwrap-inverse.result in
    let value = subst (λ q. MatchOption q (y.lower ≡ r.zero) (λ z. (y.lower ≢ r.zero) × (z ≡ r.inv y.lower)))
    c.unwrap-inverse.ensures c.in_ok-inv.ensures.value in
    let p = c.loop-p.p in
    let x = c.index-items-p.result in
    let items = c.args.items.now in
    let l = c.loop-p-test.true in
    let e = read_is items p x l c.index-items-p.is in
    let hx : IsPolynomialList o x = subst (IsPolynomialList o) (sym e) (c.requires.items p l) in
    let i = c.requires.integral p l in
    let q = c.in_ok-quotient in
    let divided = T.tells x hx in
    let integral = subst (λ x. IsIntegralAt o (Finite m) (fraction_over o L d x)) (sym e) i in
    let multiple = part_quotient s c.field-in-loop-p.result.now c.field-in-loop-p.ensures part x q.field-0.quotient
    q.field-0.remainder T.polynomial T.nonzero hx (divided.1 integral) q.ensures.value q.ensures.quotient_over
    q.ensures.quotient_trimmed q.ensures.remainder_over q.ensures.remainder_trimmed in
    let z = c.in_ok-upper in
    let w = c.in_ok-mul in
    more_residues o L m r d items p c.loop-p.residues c.push.new.self w.field-0 c.loop-p.invariant c.in_ok-push.ensures.ok
    w.ensures.elem
    (subst (λ x. IsResidueOf o m r (fraction_over o L d x) w.field-0) e
    (subst (IsResidueOf o m r (fraction_over o L d x)) (sym (w.ensures.value ∙ ap (r.mul z.upper) value.1))
    (multiple_residue s k c.requires.field c.requires.place d c.requires.d c.requires.nonzero part T u.field-0.quotient
    unit.0 unit.1 y.lower y.ensures.elem y.ensures.value x q.field-0.quotient hx multiple.0 multiple.1
    integral z.upper z.ensures.elem z.ensures.value)))
