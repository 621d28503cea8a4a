use Rattle.std.proofs.Common.{◌≡◌, ap, ◌∙◌, arith, ◌+◌, length}
use Rattle.std.proofs.lemmas.List.{length_push}
use Rattle.spl_matrix.specs.Spanning.{IsPlace}
use Rattle.theory_tables.proofs.Rows.Spans.{grow_at}
use Rattle.spl_matrix.proofs.kernel.places_of.Goals as goal

pub loop-j-preserved : goal.loop-j-preserved
loop-j-preserved c =
    let inv = c.loop-j.invariant in
    record {
      long = ap length c.in_ok-push.ensures.ok ∙ length_push c.loop-j.places c.place_of.result
          ∙ ap (λ k. k + 1) inv.long;
      each = grow_at (IsPlace c.args.indices.now) 0 c.loop-j.j c.loop-j.places c.push.new.self c.place_of.result
          inv.long inv.each c.place_of.ensures c.in_ok-push.ensures.ok;
    }

pub returns : goal.returns
returns c =
    let ended : c.loop-j.j ≡ c.args.w = omega arith in
    record {
      long = c.loop-j.invariant.long ∙ ended;
      each = λ j j_in. c.loop-j.invariant.each j (omega arith);
    }
