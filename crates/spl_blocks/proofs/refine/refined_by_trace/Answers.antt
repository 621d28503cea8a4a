use Rattle.std.proofs.Common.{◌<◌, ◌≤◌, ◌⊎◌, List, length, sym, inl, inr, subst, arith}
use Rattle.std.proofs.lemmas.Result.{IfOk-weaker}
use Rattle.theory_tables.specs.Subspace.{Rows}
use Rattle.theory_tables.specs.Algebras.{IsCentral}
use Rattle.spl_blocks.specs.Splits.{AreSplit, Refines, AreScalars, AreValues, trace_in}
use Rattle.spl_blocks.proofs.KeptSteps.{finer_self}
use Rattle.spl_blocks.proofs.refine.refined_by_trace.Goals as goal

pub returns-then-len-n : goal.returns-then-len-n
returns-then-len-n g c =
    let o = g.F.Field.ops c.args.f.now in
    let large : c.args.n ≤ length c.args.items = omega arith in
    record {
      split = c.requires.split;
      finer = finer_self o c.args.a.now c.args.items;
      full = λ h. h;
      done = inl large;
    }

pub refined-requires-clause-central : goal.refined-requires-clause-central
refined-requires-clause-central g c =
    let o = g.F.Field.ops c.args.f.now in
    let P : List g.row.F-Elem.Denot → Type 0 = IsCentral o c.args.a.now in
    subst P (sym c.in_ok-t.ensures.value) c.requires.central

pub refined-requires-clause-values : goal.refined-requires-clause-values
refined-requires-clause-values g c =
    let o = g.F.Field.ops c.args.f.now in
    let P : List g.row.F-Elem.Denot → Type 0 = λ t. AreValues o c.args.a.now c.args.one.now t c.args.constants.now in
    subst P (sym c.in_ok-t.ensures.value) c.requires.values

pub refined-requires-clause-split : goal.refined-requires-clause-split
refined-requires-clause-split g c =
    let o = g.F.Field.ops c.args.f.now in
    let P : List (Rows g.row.F-Elem.Denot) → Type 0 = AreSplit o c.args.a.now in
    subst P (sym c.as_slice.ensures) c.requires.split

pub returns : goal.returns
returns g c =
    let o = g.F.Field.ops c.args.f.now in
    let A = c.args.a.now in
    let n = c.args.n in
    let items = c.args.items in
    let small : length items < n = omega arith in
    let S : List (Rows g.row.F-Elem.Denot) → Type 0 = AreSplit o A in
    let F : List (Rows g.row.F-Elem.Denot) → Type 0 = λ r. Refines o A r items in
    let H : List (Rows g.row.F-Elem.Denot) → Type 0 = λ r. Refines o A r c.as_slice.result.now in
    let U : List (Rows g.row.F-Elem.Denot) → Type 0 = λ r. n ≤ length items → n ≤ length r in
    let T : List (Rows g.row.F-Elem.Denot) → Type 0 = λ r. AreScalars o A c.args.one.now c.in_ok-t.t r in
    let D : List (Rows g.row.F-Elem.Denot) → Type 0 = λ r. (n ≤ length r)
    ⊎ AreScalars o A c.args.one.now (trace_in o A c.args.q c.args.d c.args.y.now) r in
    record {
      split = c.refined.ensures.split;
      finer = IfOk-weaker c.refined.result H F
          (λ r h. subst (λ (x : List (Rows g.row.F-Elem.Denot)). Refines o A r x) c.as_slice.ensures h)
          c.refined.ensures.finer;
      full = IfOk-weaker c.refined.result S U (λ r _ h. absurd (omega (arith, small, h))) c.refined.ensures.split;
      done = IfOk-weaker c.refined.result T D
          (λ r h. inr (subst (λ (t : List g.row.F-Elem.Denot). AreScalars o A c.args.one.now t r)
          c.in_ok-t.ensures.value h))
          c.refined.ensures.scalars;
    }
