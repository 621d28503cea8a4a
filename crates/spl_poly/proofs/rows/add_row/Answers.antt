use Rattle.std.proofs.Common.{arith, sym, ◌∙◌, get_or, length, ◌≤◌, ◌<◌, ⊎_elim}
use Rattle.std.proofs.lemmas.Bool.{cases_lt}
use Rattle.std.proofs.lemmas.List.Elements.{All-set}
use Rattle.theory_rings.specs.Ops.{IsElem}
use Rattle.theory_rings.proofs.Rings.Elements.{at-elem}
use Rattle.spl_field.specs.SmallField.{small_ops}
use Rattle.theory_fractions.proofs.Coefficients.{add-past}
use Rattle.spl_poly.proofs.Writes.{set-done, set-left}
use Rattle.spl_poly.proofs.rows.add_row.Goals as goal

pub loop-j-preserved : goal.loop-j-preserved
loop-j-preserved c =
    let o = small_ops c.args.f.now in
    record {
      over = All-set (IsElem o) c.loop-j.r c.loop-j.j c.sum.result c.sum.ensures.elem c.loop-j.invariant.over;
      done = λ k l. set-done c.loop-j.r c.args.r.now
          (λ i x. o.add x (get_or c.args.by.now i 0)) 0 c.loop-j.j c.sum.result (omega arith)
          (λ i z b. c.loop-j.invariant.done i b) c.loop-j.invariant.left c.sum.ensures.value k (omega arith) l;
      left = set-left c.loop-j.r c.args.r.now (λ i x. o.add x (get_or c.args.by.now i 0)) 0 c.loop-j.j c.sum.result
          (omega arith)
          (λ i z b. c.loop-j.invariant.done i b) c.loop-j.invariant.left c.sum.ensures.value;
    }

pub returns-clause-added : goal.returns-clause-added
returns-clause-added c k =
    let o = small_ops c.args.f.now in
    ⊎_elim
    (λ (l : k < length c.args.by.now). c.loop-j.invariant.done k (omega arith))
    (λ (l : length c.args.by.now ≤ k). c.loop-j.invariant.left k (omega arith)
    ∙ sym (add-past o c.know_laws.ensures c.args.by.now k (get_or c.args.r.now k 0)
    (at-elem o c.know_laws.ensures c.args.r.now c.requires.r_over k) l))
    (cases_lt k (length c.args.by.now))
