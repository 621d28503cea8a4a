use Rattle.std.proofs.Common.{◌≡◌, ◌≤◌, ◌⊎◌, ℕ, List, length, sym, ◌∙◌, ap, inr, subst, arith}
use Rattle.std.specs.List.{All}
use Rattle.theory_rings.specs.Ops.{IsElem}
use Rattle.theory_spaces.specs.Tuples.{IsTuple}
use Rattle.theory_tables.specs.Structure.{IsElement}
use Rattle.theory_tables.specs.Algebras.{IsCentral}
use Rattle.spl_blocks.specs.Splits.{AreTracesScalars, AreValues, trace_in}
use Rattle.spl_blocks.proofs.KeptSteps.{finer_self, finer_trans}
use Rattle.spl_blocks.proofs.ListSteps.{multiple_start, multiple_next}
use Rattle.spl_blocks.proofs.RefinedLists.{traces_step}
use Rattle.spl_blocks.proofs.refine.refined_by_traces.Goals as goal

pub loop-i-init : goal.loop-i-init
loop-i-init g c =
    let o = g.F.Field.ops c.args.f.now in
    let L = g.met.F.Field.laws c.args.f.now in
    let A = c.args.a.now in
    let y = c.in_ok-y in
    let P : List g.row.F-Elem.Denot → Type 0 = IsElement o A in
    record {
      elem = subst P (sym y.ensures) c.requires.element;
      multiple = multiple_start o L A c.requires.unital c.args.x.now c.requires.root c.args.z.now c.requires.element y.y
          y.ensures;
      split = c.requires.split;
      finer = finer_self o A c.args.items;
      full = λ h. h;
      done = inr (λ i l. absurd (omega (arith, l)));
    }

pub refined_by_trace-requires-clause-element : goal.refined_by_trace-requires-clause-element
refined_by_trace-requires-clause-element g c = c.loop-i.invariant.elem

pub refined_by_trace-requires-clause-split : goal.refined_by_trace-requires-clause-split
refined_by_trace-requires-clause-split g c = c.loop-i.invariant.split

pub scaled-requires-clause-items : goal.scaled-requires-clause-items
scaled-requires-clause-items g c =
    let o = g.F.Field.ops c.args.f.now in
    let P : List g.row.F-Elem.Denot → Type 0 = All (IsElem o) in
    subst P (sym c.as_slice.ensures) c.loop-i.invariant.elem.of_elements

pub refined_by_trace-requires-clause-central : goal.refined_by_trace-requires-clause-central
refined_by_trace-requires-clause-central g c =
    let o = g.F.Field.ops c.args.f.now in
    let A = c.args.a.now in
    let P : List g.row.F-Elem.Denot → Type 0 = λ y. IsCentral o A (trace_in o A c.args.q c.args.d y) in
    subst P (sym c.loop-i.invariant.multiple) (c.requires.traces.central c.loop-i._i c.loop-i-test.true)

pub refined_by_trace-requires-clause-values : goal.refined_by_trace-requires-clause-values
refined_by_trace-requires-clause-values g c =
    let o = g.F.Field.ops c.args.f.now in
    let A = c.args.a.now in
    let P : List g.row.F-Elem.Denot → Type 0 = λ y.
    AreValues o A c.args.one.now (trace_in o A c.args.q c.args.d y) c.args.constants.now in
    subst P (sym c.loop-i.invariant.multiple) (c.requires.traces.values c.loop-i._i c.loop-i-test.true)

pub loop-i-preserved : goal.loop-i-preserved
loop-i-preserved g c =
    let o = g.F.Field.ops c.args.f.now in
    let L = g.met.F.Field.laws c.args.f.now in
    let A = c.args.a.now in
    let u = c.requires.unital in
    let i = c.loop-i._i in
    let v = c.loop-i.invariant in
    let new = c.in_ok-list in
    let y = c.in_ok-y-2 in
    let P : ℕ → Type 0 = λ n. IsTuple o n y.y in
    let long = v.elem.right_length in
    record {
      elem = subst P (ap length c.as_slice.ensures ∙ long) y.ensures.elem;
      multiple = multiple_next o L A u c.args.x.now c.requires.root c.args.z.now c.requires.element i c.loop-i.y
          c.as_slice.result.now y.y c.as_slice.ensures v.multiple long y.ensures.value;
      split = new.ensures.split;
      finer = finer_trans o A new.list c.loop-i.list c.args.items new.ensures.finer v.finer;
      full = λ h. new.ensures.full (v.full h);
      done = traces_step o L A u c.args.one.now c.args.x.now c.args.q c.args.d c.args.n i c.args.z.now c.loop-i.y
          c.args.constants.now c.loop-i.list new.list c.requires.one c.requires.traces v.multiple new.ensures.finer
          new.ensures.full c.loop-i-test.true v.done new.ensures.done;
    }

pub returns : goal.returns
returns g c =
    let o = g.F.Field.ops c.args.f.now in
    let A = c.args.a.now in
    let v = c.loop-i.invariant in
    let ended : c.loop-i._i ≡ c.args.d = omega arith in
    let P : ℕ → Type 0 = λ k. (c.args.n ≤ length c.loop-i.list)
    ⊎ AreTracesScalars o A c.args.one.now c.args.x.now c.args.q c.args.d c.args.z.now k c.loop-i.list in
    record { split = v.split; finer = v.finer; full = v.full; done = subst P ended v.done }
