use Rattle.std.proofs.Common.{ℕ, ◌≡◌, ◌+◌, ◌-◌, arith, sym, ◌∙◌, ap, get_or, length, ◌≤◌, ◌<◌, ⊎_elim}
use Rattle.std.proofs.lemmas.Bool.{cases_lt}
use Rattle.std.proofs.lemmas.List.{get_or-set_other}
use Rattle.std.proofs.lemmas.List.Elements.{All-set}
use Rattle.theory_rings.specs.Ops.{IsElem}
use Rattle.theory_rings.proofs.Rings.Elements.{at-elem}
use Rattle.spl_field.specs.SmallField.{small_ops}
use Rattle.theory_fractions.proofs.Coefficients.{add-zero_elem, mul-past}
use Rattle.spl_poly.proofs.Writes.{set-done, set-left}
use Rattle.spl_poly.proofs.rows.add_scaled_row.Goals as goal

pub loop-j-preserved : goal.loop-j-preserved
loop-j-preserved c =
    let o = small_ops c.args.f.now in
    let g : ℕ → ℕ → ℕ = λ i x. o.add x (o.mul c.args.c (get_or c.args.by.now (i - c.args.s) 0)) in
    let p : ℕ = c.args.s + c.loop-j.j in
    let e : c.loop-j.j ≡ p - c.args.s = omega arith in
    let value : c.sum.result ≡ g p (get_or c.loop-j.r p 0) =
    c.sum.ensures.value ∙ ap (o.add (get_or c.loop-j.r p 0))
    (c.product.ensures.value ∙ ap (λ i. o.mul c.args.c (get_or c.args.by.now i 0)) e) in
    record {
      over = All-set (IsElem o) c.loop-j.r p c.sum.result c.sum.ensures.elem c.loop-j.invariant.over;
      kept = λ k l. get_or-set_other c.loop-j.r p k c.sum.result 0 (λ e. absurd (omega arith))
          ∙ c.loop-j.invariant.kept k l;
      done = λ k l b. set-done c.loop-j.r c.args.r.now g c.args.s p c.sum.result (omega arith)
          c.loop-j.invariant.done c.loop-j.invariant.left value k l (omega arith);
      left = λ k l. set-left c.loop-j.r c.args.r.now g c.args.s p c.sum.result (omega arith)
          c.loop-j.invariant.done c.loop-j.invariant.left value k (omega arith);
    }

pub returns-clause-added : goal.returns-clause-added
returns-clause-added c j =
    let o = small_ops c.args.f.now in
    let p : ℕ = c.args.s + j in
    let e : p - c.args.s ≡ j = omega arith in
    ⊎_elim
    (λ (l : j < length c.args.by.now). c.loop-j.invariant.done p (omega arith) (omega arith)
    ∙ ap (λ i. o.add (get_or c.args.r.now p 0) (o.mul c.args.c (get_or c.args.by.now i 0))) e)
    (λ (l : length c.args.by.now ≤ j). c.loop-j.invariant.left p (omega arith)
    ∙ sym (ap (o.add (get_or c.args.r.now p 0))
    (mul-past o c.know_laws.ensures c.args.by.now j c.args.c c.requires.c_elem l)
    ∙ add-zero_elem o c.know_laws.ensures (get_or c.args.r.now p 0)
    (at-elem o c.know_laws.ensures c.args.r.now c.requires.r_over p)))
    (cases_lt j (length c.args.by.now))
