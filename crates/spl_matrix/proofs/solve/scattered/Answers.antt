use Rattle.std.proofs.Common.{◌≡◌, ◌+◌, length, ap, ◌∙◌}
use Rattle.std.proofs.lemmas.List.{length_push}
use Rattle.theory_rings.specs.Ops.{IsElem}
use Rattle.theory_tables.specs.Solve.{IsScattered}
use Rattle.theory_tables.proofs.Rows.Sums.{All_step}
use Rattle.theory_tables.proofs.Rows.Spans.{grow_at}
use Rattle.spl_matrix.proofs.solve.scattered.Goals as goal

pub loop-j-preserved : goal.loop-j-preserved
loop-j-preserved g c =
    let o = g.F.Field.ops c.args.f.now in
    let item = c.in_ok-item.item in
    let inv = c.loop-j.invariant in
    let grown : length c.push.new.self ≡ c.loop-j.j + 1 = ap length c.in_ok-push.ensures.ok
    ∙ length_push c.loop-j.items item ∙ ap (λ k. k + 1) inv.elem.right_length in
    record {
      elem = record {
        right_length = grown;
        of_elements =
            All_step (IsElem o) c.loop-j.items c.push.new.self item inv.elem.of_elements c.in_ok-item.ensures.elem
            c.in_ok-push.ensures.ok;
      };
      value = grow_at (IsScattered o c.args.pivots.now c.args.c.now) o.zero c.loop-j.j c.loop-j.items c.push.new.self
          item inv.elem.right_length inv.value c.in_ok-item.ensures.value c.in_ok-push.ensures.ok;
    }
