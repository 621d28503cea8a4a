use Rattle.std.proofs.Common.{◌≡◌, ◌<◌, ◌*◌, ℕ, [], List, get_or, sym, subst, ◌∙◌, arith, below_more}
use Rattle.std.proofs.lemmas.Bool.{both_ways}
use Rattle.std.proofs.lemmas.List.{get_or_default}
use Rattle.theory_spaces.specs.Tuples.{IsTuple}
use Rattle.spl_check.proofs.Maps.{UnitAt, units_of_numbers, numbers_of_units}
use Rattle.spl_check.proofs.Tests.{yes, no}
use Rattle.spl_check.proofs.split.give_matrix_units.Goals as goal

pub is_matrix_unit-requires : goal.is_matrix_unit-requires
is_matrix_unit-requires g c =
    let o = g.F.Field.ops c.args.f.now in
    let units = c.args.units.now in
    let fits = c.requires.fits in
    let p = c.loop-p.p in
    let p_in = c.loop-p-test.true in
    let is : c.as_slice.result.now ≡ get_or units p [] =
    c.as_slice.ensures ∙ c.index-units-p.is ∙ get_or_default units p c.index-units-p.result [] p_in in
    record {
      weights = subst (λ (m : ℕ). IsTuple o m c.as_slice.result.now) (sym fits.map_count)
          (subst (IsTuple o c.args.algebra.now.dim) (sym is) (fits.tuples p [] p_in));
      maps = λ k k_in. fits.square k (omega (arith, k_in, fits.map_count));
      small = c.requires.small;
      place = omega (arith, p_in, fits.unit_count);
    }

pub loop-p-preserved : goal.loop-p-preserved
loop-p-preserved g c =
    let o = g.F.Field.ops c.args.f.now in
    let units = c.args.units.now in
    let p = c.loop-p.p in
    let is : c.as_slice.result.now ≡ get_or units p [] =
    c.as_slice.ensures ∙ c.index-units-p.is ∙ get_or_default units p c.index-units-p.result [] c.loop-p-test.true in
    below_more _ _ c.loop-p.invariant
    (subst (λ (w : List g.row.F-Elem.Denot). (q : ℕ) → q < c.args.n * c.args.n
    → UnitAt o c.args.n c.args.maps.now w p q)
    is (c.in_ok-is_matrix_unit.ensures.0 c.if-not-branch.false))

pub returns : goal.returns
returns g c =
    let o = g.F.Field.ops c.args.f.now in
    yes (units_of_numbers o c.args.algebra.now c.args.n c.args.maps.now c.args.units.now c.requires.fits.map_count
    (λ p p_in. c.loop-p.invariant p (omega (arith, p_in, c.loop-p-test.false, c.requires.fits.unit_count))))

pub returns-then-not-branch : goal.returns-then-not-branch
returns-then-not-branch g c =
    let o = g.F.Field.ops c.args.f.now in
    let units = c.args.units.now in
    let p = c.loop-p.p in
    let p_in : p < c.args.n * c.args.n = omega (arith, c.loop-p-test.true, c.requires.fits.unit_count) in
    let is : c.as_slice.result.now ≡ get_or units p [] =
    c.as_slice.ensures ∙ c.index-units-p.is ∙ get_or_default units p c.index-units-p.result [] c.loop-p-test.true in
    no (λ h. both_ways c.in_ok-is_matrix_unit.field-0 c.if-not-branch.true
    (c.in_ok-is_matrix_unit.ensures.1
    (subst (λ (w : List g.row.F-Elem.Denot). (q : ℕ) → q < c.args.n * c.args.n
    → UnitAt o c.args.n c.args.maps.now w p q) (sym is)
    (numbers_of_units o c.args.algebra.now c.args.n c.args.maps.now units c.requires.fits.map_count h p p_in))))
