use Rattle.std.proofs.Common.{◌≡◌, ◌<◌, ℕ, [], length, get_or, sym, subst, arith, below_more}
use Rattle.std.proofs.lemmas.Bool.{both_ways}
use Rattle.theory_spaces.specs.Tuples.{IsTuple}
use Rattle.theory_tables.specs.Split.{IsSquare}
use Rattle.theory_tables.proofs.Rows.Sums.{row_at}
use Rattle.spl_check.proofs.Maps.{combines_iff}
use Rattle.spl_check.proofs.Tests.{yes, no}
use Rattle.spl_check.proofs.split.multiply_by.Goals as goal

pub is_combination-requires : goal.is_combination-requires
is_combination-requires g c =
    let o = g.F.Field.ops c.args.f.now in
    let n = c.args.n in
    let maps = c.args.maps.now in
    let count = c.requires.count in
    let i = c.args.i in
    let j = c.loop-j.j in
    let j_in : j < c.args.algebra.now.dim = omega (arith, c.loop-j-test.true, c.dim-j-end.ensures.dim) in
    let i_maps : i < length maps = omega (arith, count, c.requires.place) in
    let j_maps : j < length maps = omega (arith, count, j_in) in
    let a_is : c.as_slice-a.result.now ≡ get_or maps i [] =
    row_at maps i c.index-maps-i.result c.as_slice-a.result.now i_maps c.index-maps-i.is c.as_slice-a.ensures in
    let b_is : c.as_slice.result.now ≡ get_or maps j [] =
    row_at maps j c.index-maps-j.result c.as_slice.result.now j_maps c.index-maps-j.is c.as_slice.ensures in
    record {
      zero_elem = c.requires.zero_elem;
      zero = c.requires.zero;
      left = subst (IsSquare o n) (sym a_is) (c.requires.maps i c.requires.place);
      right = subst (IsSquare o n) (sym b_is) (c.requires.maps j j_in);
      weights = subst (λ (m : ℕ). IsTuple o m c.basis_product-weights.result.now) (sym count)
          c.basis_product-weights.ensures.elem;
      maps = λ k k_in. c.requires.maps k (omega (arith, k_in, count));
      small = c.requires.small;
    }

pub loop-j-preserved : goal.loop-j-preserved
loop-j-preserved g c =
    let j_in : c.loop-j.j < c.args.algebra.now.dim = omega (arith, c.loop-j-test.true, c.dim-j-end.ensures.dim) in
    below_more _ _ c.loop-j.invariant (λ r s r_in s_in.
    (combines_iff (g.F.Field.ops c.args.f.now) (g.met.F.Field.laws c.args.f.now) c.args.algebra.now c.requires.over
    c.args.n c.args.maps.now c.requires.count c.args.i c.loop-j.j c.requires.place j_in c.index-maps-i.result
    c.index-maps-j.result c.as_slice-a.result.now c.as_slice.result.now c.basis_product-weights.result.now
    c.index-maps-i.is c.as_slice-a.ensures c.index-maps-j.is c.as_slice.ensures c.basis_product-weights.ensures.value
    r s).0 (c.in_ok-is_combination.ensures.0 c.if-not-branch.false r s r_in s_in))

pub returns : goal.returns
returns g c = yes (λ j r s j_in r_in s_in.
    c.loop-j.invariant j (omega (arith, j_in, c.loop-j-test.false, c.dim-j-end.ensures.dim)) r s r_in s_in)

pub returns-then-not-branch : goal.returns-then-not-branch
returns-then-not-branch g c =
    let j_in : c.loop-j.j < c.args.algebra.now.dim = omega (arith, c.loop-j-test.true, c.dim-j-end.ensures.dim) in
    no (λ h. both_ways c.in_ok-is_combination.field-0 c.if-not-branch.true
    (c.in_ok-is_combination.ensures.1 (λ r s r_in s_in.
    (combines_iff (g.F.Field.ops c.args.f.now) (g.met.F.Field.laws c.args.f.now) c.args.algebra.now c.requires.over
    c.args.n c.args.maps.now c.requires.count c.args.i c.loop-j.j c.requires.place j_in c.index-maps-i.result
    c.index-maps-j.result c.as_slice-a.result.now c.as_slice.result.now c.basis_product-weights.result.now
    c.index-maps-i.is c.as_slice-a.ensures c.index-maps-j.is c.as_slice.ensures c.basis_product-weights.ensures.value
    r s).1 (h c.loop-j.j r s j_in r_in s_in))))
