use Rattle.std.proofs.Common.{◌≡◌, ◌<◌, get_or, ap, subst, ◌∙◌, arith, ℕ, length}
use Rattle.theory_rings.specs.Sum.{table, at}
use Rattle.theory_spaces.specs.Tuples.{IsTuple}
use Rattle.theory_tables.proofs.Rows.Sums.{table_step, read_at}
use Rattle.spl_matrix.proofs.Beside.{IsTuple-push}
use Rattle.spl_matrix.proofs.basis.gathered.Goals as goal

pub loop-s-preserved : goal.loop-s-preserved
loop-s-preserved g c =
    let o = g.F.Field.ops c.args.f.now in
    let v = c.args.v.now in
    let places = c.args.places.now in
    let s = c.loop-s.s in
    let x = c.in_ok-copy.field-0 in
    let p_in : get_or places s 0 < length v = c.requires.within s c.loop-s-test.true in
    record {
      elem = IsTuple-push o s c.loop-s.items c.push.new.self x c.loop-s.invariant.elem c.in_ok-copy.ensures.elem
          c.in_ok-push.ensures.ok;
      value = table_step s (λ s. at o v (get_or places s 0)) c.loop-s.items c.push.new.self x
          c.loop-s.invariant.value
          (c.in_ok-copy.ensures.value
          ∙ read_at o v (get_or places s 0) c.index-v-places.result p_in c.index-v-places.is)
          c.in_ok-push.ensures.ok;
    }

pub returns : goal.returns
returns g c =
    let o = g.F.Field.ops c.args.f.now in
    let places = c.args.places.now in
    let ended : c.loop-s.s ≡ length places = omega arith in
    let P : ℕ → Type 0 = λ n. IsTuple o n c.loop-s.items in
    record {
      elem = subst P ended c.loop-s.invariant.elem;
      value = c.loop-s.invariant.value
          ∙ ap (λ (n : ℕ). table n (λ s. at o c.args.v.now (get_or places s 0))) ended;
    }
