use Rattle.std.proofs.Common.{◌≡◌, ◌+◌, get_or, refl, sym, subst, arith}
use Rattle.spl_field.specs.SmallField.{small_ops}
use Rattle.spl_fraction.specs.Fractions.{field_of}
use Rattle.spl_fraction.specs.declared.place.Place.TheVariants.{Finite}
use Rattle.spl_local.specs.Growth.{IsOverorder, IsUnimodular, IsRamifiedBy}
use Rattle.spl_local.specs.Everywhere.{IsSettledAt, IsUnimodularOff, IsLargerOrder, IsRamifiedFirst}
use Rattle.spl_local.proofs.FactorDivisors.{factor_irreducible, factor_at}
use Rattle.spl_local.proofs.PlaceSteps.{larger_step, off_step, all_off, ramified_first}
use Rattle.spl_local.proofs.everywhere.settle_factors.Goals as goal

pub loop-i-init : goal.loop-i-init
loop-i-init c =
    let F = field_of c.args.f.now in
    let A = c.args.a.now in
    record {
      larger = subst (IsLargerOrder F A c.args.order.now) (sym c.in_ok-grown.ensures)
          (record { basis = c.requires.basis; order = c.requires.order; within = λ x w. w });
      off = subst (IsUnimodularOff F A 0 c.args.factors.now) (sym c.in_ok-grown.ensures) c.requires.off;
    }

pub settle_at-requires-clause-place : goal.settle_at-requires-clause-place
settle_at-requires-clause-place c =
    let o = small_ops (field_of c.args.f.now) in
    let xs = c.args.factors.now in
    let i = c.loop-i.i in
    let d = c.index-factors-i.result in
    factor_irreducible o (get_or xs i d) (factor_at o xs c.requires.factors i d c.loop-i-test.true)

pub returns-in-Ramified-clause-places : goal.returns-in-Ramified-clause-places
returns-in-Ramified-clause-places c =
    let F = field_of c.args.f.now in
    let A = c.args.a.now in
    let o = small_ops F in
    let xs = c.args.factors.now in
    let v = c.loop-i in
    let d = c.index-factors-i.result in
    let x = get_or xs v.i d in
    let r = c.in-Ramified in
    let g : (r.place ≡ x.0) × IsOverorder F A x.0 v.grown r.larger × IsRamifiedBy F A x.0 r.larger r.radical =
    subst (IsSettledAt F A x.0 v.grown) r.is c.in_ok-larger.ensures in
    let h = v.invariant.larger in
    subst (λ p. IsRamifiedFirst F A (Finite p) r.larger r.radical) (sym g.0)
    (ramified_first F A c.requires.over c.requires.associative c.order_law.ensures xs c.requires.factors v.i d
    c.loop-i-test.true v.grown r.larger r.radical
    (factor_irreducible o x (factor_at o xs c.requires.factors v.i d c.loop-i-test.true)) h.order v.invariant.off g.1
    g.2)

pub returns-in-Ramified-clause-holds : goal.returns-in-Ramified-clause-holds
returns-in-Ramified-clause-holds c =
    let F = field_of c.args.f.now in
    let A = c.args.a.now in
    let v = c.loop-i in
    let x = get_or c.args.factors.now v.i c.index-factors-i.result in
    let r = c.in-Ramified in
    let g : (r.place ≡ x.0) × IsOverorder F A x.0 v.grown r.larger × IsRamifiedBy F A x.0 r.larger r.radical =
    subst (IsSettledAt F A x.0 v.grown) r.is c.in_ok-larger.ensures in
    larger_step F A c.args.order.now v.grown r.larger x.0 v.invariant.larger g.1

pub loop-i-preserved : goal.loop-i-preserved
loop-i-preserved c =
    let F = field_of c.args.f.now in
    let A = c.args.a.now in
    let v = c.loop-i in
    let d = c.index-factors-i.result in
    let x = get_or c.args.factors.now v.i d in
    let r = c.in-Unimodular in
    let g : IsOverorder F A x.0 v.grown r.larger × IsUnimodular F A x.0 r.larger =
    subst (IsSettledAt F A x.0 v.grown) r.is c.in_ok-larger.ensures in
    record {
      larger = larger_step F A c.args.order.now v.grown r.larger x.0 v.invariant.larger g.0;
      off = off_step F A c.args.factors.now v.i d v.grown r.larger v.invariant.off g.0 g.1 (v.i + 1) refl;
    }

pub returns-clause-places : goal.returns-clause-places
returns-clause-places c =
    let v = c.loop-i in
    all_off (field_of c.args.f.now) c.args.a.now c.args.factors.now v.i c.args.order.now v.grown
    (omega (arith, c.loop-i-test.false)) v.invariant.larger v.invariant.off
