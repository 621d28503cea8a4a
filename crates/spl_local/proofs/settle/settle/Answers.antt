use Rattle.std.proofs.Common.{ℕ, subst, sym, arith}
use Rattle.theory_bases.specs.Bases.{BasisForm}
use Rattle.theory_growth.specs.Growths.{GrowthBound}
use Rattle.theory_growth.proofs.Elsewhere.{growths_fall}
use Rattle.spl_field.specs.SmallField.{small_ops, small_laws}
use Rattle.spl_fraction.specs.Fractions.{field_of}
use Rattle.spl_local.specs.Growth.{small_tuples, IsOverorder, IsGrown, IsNextStep}
use Rattle.spl_local.proofs.Overorders.{own_overorder, next_overorder}
use Rattle.spl_local.proofs.settle.settle.Goals as goal

pub loop-grown-init : goal.loop-grown-init
loop-grown-init c =
    let F = field_of c.args.f.now in
    let A = c.args.a.now in
    let m = c.args.place.now in
    let first = c.args.order.now in
    record {
      larger = subst (IsOverorder F A m first) (sym c.in_ok-grown.ensures)
          (own_overorder F A m first c.requires.basis c.requires.order);
      bound = subst (λ (b : BasisForm ℕ).
          GrowthBound (small_ops F) (small_laws F) A m (small_tuples F b) c.in_ok-left.left)
          (sym c.in_ok-grown.ensures) (c.in_ok-left.ensures m c.requires.place);
    }

pub overflow_sub-left : goal.overflow_sub-left
overflow_sub-left c =
    let F = field_of c.args.f.now in
    let A = c.args.a.now in
    let m = c.args.place.now in
    let v = c.loop-grown in
    let g : IsGrown F A m v.grown c.in-Grown.next =
    subst (IsNextStep F A m v.grown) c.in-Grown.is c.in_ok-next.ensures in
    let falls = growths_fall (small_ops F) (small_laws F) A m (small_tuples F v.grown) (small_tuples F c.in-Grown.next)
    v.left v.invariant.bound g.growth in
    falls.positive

pub loop-grown-smaller : goal.loop-grown-smaller
loop-grown-smaller c =
    let F = field_of c.args.f.now in
    let A = c.args.a.now in
    let m = c.args.place.now in
    let v = c.loop-grown in
    let g : IsGrown F A m v.grown c.in-Grown.next =
    subst (IsNextStep F A m v.grown) c.in-Grown.is c.in_ok-next.ensures in
    let falls = growths_fall (small_ops F) (small_laws F) A m (small_tuples F v.grown) (small_tuples F c.in-Grown.next)
    v.left v.invariant.bound g.growth in
    omega (arith, falls.positive)

pub loop-grown-preserved : goal.loop-grown-preserved
loop-grown-preserved c =
    let F = field_of c.args.f.now in
    let A = c.args.a.now in
    let m = c.args.place.now in
    let v = c.loop-grown in
    let g : IsGrown F A m v.grown c.in-Grown.next =
    subst (IsNextStep F A m v.grown) c.in-Grown.is c.in_ok-next.ensures in
    let falls = growths_fall (small_ops F) (small_laws F) A m (small_tuples F v.grown) (small_tuples F c.in-Grown.next)
    v.left v.invariant.bound g.growth in
    record {
      larger = next_overorder F A m c.args.order.now c.requires.over c.requires.associative c.requires.place v.grown
          c.in-Grown.next v.invariant.larger g;
      bound = falls.less;
    }
