use Rattle.std.proofs.Common.{◌≡◌, ◌^◌, ℕ, [], get_or, length, List, ◌∙◌, ap, ap₂, subst}
use Rattle.theory_spaces.specs.Tuples.{IsTuple}
use Rattle.theory_tables.proofs.Rows.Sums.{table_step, All_step, row_at}
use Rattle.spl_blocks.specs.Fixed.{less_self, difference_of, power_in}
use Rattle.spl_blocks.proofs.Equations.{difference-is}
use Rattle.spl_blocks.proofs.fixed.less_selves.Goals as goal

pub loop-i-preserved : goal.loop-i-preserved
loop-i-preserved g c =
    let o = g.F.Field.ops c.args.f.now in
    let A = c.args.a.now in
    let rows = c.args.rows.now in
    let i = c.loop-i.i in
    let n = c.args.q ^ c.args.d in
    let d = c.in_ok-difference in
    let item = d.field-0 in
    let p = c.in_ok-power in
    let x = c.as_slice.result.now in
    let long : length x ≡ A.dim = ap length c.as_slice.ensures ∙ p.ensures.elem.right_length in
    let row : c.as_slice-in-loop-i.result.now ≡ get_or rows i [] = row_at rows i c.index-rows-i-in-loop-i.result
    c.as_slice-in-loop-i.result.now c.loop-i-test.true c.index-rows-i-in-loop-i.is c.as_slice-in-loop-i.ensures in
    let arg : c.index-rows-i.result ≡ get_or rows i [] = row_at rows i c.index-rows-i.result c.index-rows-i.result
    c.loop-i-test.true c.index-rows-i.is (λ _. c.index-rows-i.result) in
    let value : item ≡ less_self o A n (get_or rows i []) =
    difference-is o A x c.as_slice-in-loop-i.result.now item long d.ensures.value
    ∙ ap₂ (difference_of o A) (c.as_slice.ensures ∙ p.ensures.value
    ∙ ap (λ (z : List g.row.F-Elem.Denot). power_in o A z n) arg)
    row in
    let P : ℕ → Type 0 = λ k. IsTuple o k item in
    record {
      shape = All_step (IsTuple o A.dim) c.loop-i.out c.push.new.self item c.loop-i.invariant.shape
          (subst P long d.ensures.elem) c.in_ok-push.ensures.ok;
      value = table_step i (λ i. less_self o A n (get_or rows i [])) c.loop-i.out c.push.new.self item
          c.loop-i.invariant.value value c.in_ok-push.ensures.ok;
    }
