use Rattle.std.proofs.Common.{◌≡◌, ◌+◌, ◌∷◌, [], ℕ, length, get_or, ◌∙◌, ap, subst, sym, arith, length-append}
use Rattle.std.proofs.lemmas.List.{get_or_default}
use Rattle.std.proofs.lemmas.List.Elements.{All-get_or}
use Rattle.theory_tables.specs.Matrix.{IsMatrix}
use Rattle.theory_tables.specs.Subspace.{Rows}
use Rattle.theory_tables.proofs.Rows.Spans.{grow_at}
use Rattle.spl_local.specs.PulledBack.{IsPulledBack}
use Rattle.spl_local.proofs.ideals.all_pulled_back.Goals as goal

pub pulled_back-requires-clause-below : goal.pulled_back-requires-clause-below
pulled_back-requires-clause-below g c =
    let o = g.F.Field.ops c.args.f.now in
    let i = c.loop-i.i in
    let x = c.index-below-i.result in
    let P : Rows g.row.F-Elem.Denot → Type 0 = λ s. IsMatrix o (length c.args.lifts.now) s.rows in
    subst P (sym c.index-below-i.is) (All-get_or P c.args.below.now i x c.loop-i-test.true c.requires.below)

pub loop-i-preserved : goal.loop-i-preserved
loop-i-preserved g c =
    let o = g.F.Field.ops c.args.f.now in
    let below = c.args.below.now in
    let i = c.loop-i.i in
    let x = c.index-below-i.result in
    let s = c.in_ok-pulled_back in
    let v = c.loop-i.invariant in
    let e = c.in_ok-push.ensures.ok in
    let Is : Rows g.row.F-Elem.Denot → Rows g.row.F-Elem.Denot → Type 0 =
    IsPulledBack o c.args.a.now c.args.lifts.now c.args.ideal.now.rows in
    record {
      count = ap length e ∙ length-append c.loop-i.above (s.field-0 ∷ []) ∙ ap (λ (j : ℕ). j + 1) v.count;
      each = λ j b a l. grow_at (λ j y. Is (get_or below j b) y) a i c.loop-i.above c.push.new.self s.field-0 v.count
          (λ k h. v.each k b a h)
          (subst (λ z. Is z s.field-0) (c.index-below-i.is ∙ get_or_default below i x b c.loop-i-test.true) s.ensures) e j l;
    }

pub returns : goal.returns
returns g c =
    let v = c.loop-i.invariant in
    let ended : c.loop-i.i ≡ length c.args.below.now = omega arith in
    record { count = v.count ∙ ended; each = λ j b a l. v.each j b a (omega (arith, l, ended)) }
