use Rattle.std.proofs.Common.{◌≡◌, ◌≢◌, [], MatchOption, IfSome, subst}
use Rattle.theory_rings.specs.Ops.{IsElem}
use Rattle.spl_field.specs.SmallField.{small_ops, small_laws}
use Rattle.theory_fractions.specs.Fraction.{IsFraction}
use Rattle.theory_fractions.specs.FractionOps.{fraction_ops}
use Rattle.theory_bases.proofs.FractionsOver.{over_is}
use Rattle.spl_fraction.specs.Fractions.{field_of}
use Rattle.spl_order.proofs.MappedRows.{some_of_not_none}
use Rattle.spl_order.proofs.fractions.fraction.Goals as goal

pub make-requires-clause-num_over : goal.make-requires-clause-num_over
make-requires-clause-num_over c = c.requires.num.over

pub make-requires-clause-den_over : goal.make-requires-clause-den_over
make-requires-clause-den_over c = c.requires.den.over

pub unwrap-requires : goal.unwrap-requires
unwrap-requires c = some_of_not_none _ _ c.in_ok-make.field-0 c.in_ok-make.ensures.value c.requires.nonzero

pub returns : goal.returns
returns c =
    let o = small_ops (field_of c.args.f.now) in
    let L = small_laws (field_of c.args.f.now) in
    let u = c.args.num.now in
    let v = c.args.den.now in
    let value = subst (λ r. MatchOption r (v ≡ []) (λ w. (v ≢ []) × IsFraction o w u v)) c.unwrap.ensures
    c.in_ok-make.ensures.value in
    over_is o L v c.requires.den c.requires.nonzero u c.unwrap.result c.requires.num
    (subst (λ r. IfSome r (IsElem (fraction_ops o L))) c.unwrap.ensures c.in_ok-make.ensures.elem) value.1
