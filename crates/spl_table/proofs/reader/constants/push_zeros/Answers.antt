use Rattle.std.proofs.Common.{◌∷◌, [], arith}
use Rattle.std.proofs.lemmas.List.Elements.{All-push}
use Rattle.theory_rings.specs.Ops.{IsElem}
use Rattle.spl_fraction.specs.Fractions.{field_of}
use Rattle.spl_fraction.specs.FractionsOver.{fractions_over}
use Rattle.spl_table.proofs.Filling.{zeros_more, length_push}
use Rattle.spl_table.proofs.reader.constants.push_zeros.Goals as goal

pub loop-alloc-preserved : goal.loop-alloc-preserved
loop-alloc-preserved c =
    let l = c.loop-alloc in
    let more = length_push l.constants c.in_ok-zero.field-0 c.push.new.self c.in_ok-push.ensures.ok in
    record {
      items = zeros_more c.args.constants.now l.constants c.push.new.self
          ([], 1 ∷ []) c.in_ok-zero.field-0 l.invariant.items l.invariant.more c.in_ok-zero.ensures.pair
          c.in_ok-push.ensures.ok;
      more = omega (arith, more, l.invariant.more);
      within = omega arith;
      over = λ old. rw c.in_ok-push.ensures.ok
          (All-push (IsElem (fractions_over (field_of c.args.k.now))) l.constants c.in_ok-zero.field-0
          (l.invariant.over old) c.in_ok-zero.ensures.elem);
    }
