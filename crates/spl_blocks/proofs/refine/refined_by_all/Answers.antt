use Rattle.std.proofs.Common.{◌≡◌, ◌<◌, ◌≤◌, ◌⊎◌, ℕ, [], List, length, get_or, sym, ◌∙◌, ap, inr, subst, arith}
use Rattle.theory_spaces.specs.Tuples.{IsTuple}
use Rattle.theory_tables.proofs.Rows.Sums.{row_at}
use Rattle.spl_blocks.specs.Splits.{AreTracesScalars, HasValuedTraces, combination_of}
use Rattle.spl_blocks.proofs.RefinedLists.{solutions_step}
use Rattle.spl_blocks.proofs.refine.refined_by_all.Goals as goal

pub loop-t-init : goal.loop-t-init
loop-t-init g c = record { split = c.in_ok-items.ensures; done = inr (λ t l. absurd (omega (arith, l))) }

pub combination-requires-clause-weights : goal.combination-requires-clause-weights
combination-requires-clause-weights g c =
    let o = g.F.Field.ops c.args.f.now in
    let w = c.args.weights.now in
    let t = c.loop-t.t in
    let tin : t < length w = omega arith in
    let row = row_at w t c.index-weights-t.result c.as_slice.result.now tin c.index-weights-t.is c.as_slice.ensures in
    let P : List g.row.F-Elem.Denot → Type 0 = IsTuple o (length c.args.rows.now) in
    subst P (sym row) (c.requires.weights t [] tin)

pub refined_by_traces-requires-clause-traces : goal.refined_by_traces-requires-clause-traces
refined_by_traces-requires-clause-traces g c =
    let o = g.F.Field.ops c.args.f.now in
    let A = c.args.a.now in
    let w = c.args.weights.now in
    let t = c.loop-t.t in
    let tin : t < length w = omega arith in
    let row = row_at w t c.index-weights-t.result c.as_slice.result.now tin c.index-weights-t.is c.as_slice.ensures in
    let P : List g.row.F-Elem.Denot → Type 0 = λ z.
    HasValuedTraces o A c.args.one.now c.args.constants.now c.args.x.now c.args.q c.args.d z in
    subst P (sym (c.in_ok-z.ensures.value
    ∙ ap (λ (v : List g.row.F-Elem.Denot). combination_of o A v c.args.rows.now) row)) (c.requires.traces t tin)

pub loop-t-preserved : goal.loop-t-preserved
loop-t-preserved g c =
    let o = g.F.Field.ops c.args.f.now in
    let L = g.met.F.Field.laws c.args.f.now in
    let A = c.args.a.now in
    let w = c.args.weights.now in
    let rows = c.args.rows.now in
    let t = c.loop-t.t in
    let tin : t < length w = omega arith in
    let row = row_at w t c.index-weights-t.result c.as_slice.result.now tin c.index-weights-t.is c.as_slice.ensures in
    let new = c.in_ok-items-2 in
    let z = c.in_ok-z.ensures.value
    ∙ ap (λ (v : List g.row.F-Elem.Denot). combination_of o A v rows) row in
    let n = length w in
    let P : List g.row.F-Elem.Denot → Type 0 = λ y. (n ≤ length new.items)
    ⊎ AreTracesScalars o A c.args.one.now c.args.x.now c.args.q c.args.d y c.args.d new.items in
    record {
      split = new.ensures.split;
      done = solutions_step o L A c.requires.unital c.args.one.now c.args.x.now c.args.q c.args.d n t
          (λ a. combination_of o A (get_or w a []) rows) c.args.constants.now c.loop-t.items new.items c.requires.one
          (λ a la. c.requires.traces a (omega (arith, la, tin))) new.ensures.finer new.ensures.full
          c.loop-t.invariant.done (subst P z new.ensures.done);
    }

pub returns : goal.returns
returns g c =
    let o = g.F.Field.ops c.args.f.now in
    let A = c.args.a.now in
    let w = c.args.weights.now in
    let v = c.loop-t.invariant in
    let ended : c.loop-t.t ≡ length w = omega arith in
    let P : ℕ → Type 0 = λ b. (length w ≤ length c.loop-t.items) ⊎ ((t : ℕ) → t < b
    → AreTracesScalars o A c.args.one.now c.args.x.now c.args.q c.args.d
    (combination_of o A (get_or w t []) c.args.rows.now) c.args.d c.loop-t.items) in
    record { split = v.split; done = subst P ended v.done }
