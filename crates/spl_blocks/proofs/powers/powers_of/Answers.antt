use Rattle.std.proofs.Common.{◌≡◌, ◌^◌, ℕ, [], get_or, length, List, ◌∙◌, ap, sym, arith}
use Rattle.theory_rings.specs.Sum.{table}
use Rattle.theory_spaces.specs.Tuples.{IsTuple}
use Rattle.theory_tables.proofs.Rows.Sums.{table_step, All_step, row_at}
use Rattle.spl_blocks.specs.Fixed.{power_in}
use Rattle.spl_blocks.proofs.powers.powers_of.Goals as goal

pub push-requires : goal.push-requires
push-requires g c = λ k d k_in. (c.loop-i.invariant.shape k d k_in).right_length
    ∙ sym c.in_ok-iterated_power.ensures.elem.right_length

pub loop-i-preserved : goal.loop-i-preserved
loop-i-preserved g c =
    let o = g.F.Field.ops c.args.f.now in
    let A = c.args.a.now in
    let rows = c.args.rows.now in
    let i = c.loop-i.i in
    let n = c.args.q ^ c.args.d in
    let item = c.in_ok-iterated_power in
    let row : c.index-rows-i.result ≡ get_or rows i [] = row_at rows i c.index-rows-i.result c.index-rows-i.result
    c.loop-i-test.true c.index-rows-i.is (λ _. c.index-rows-i.result) in
    record {
      shape = All_step (IsTuple o A.dim) c.loop-i.out c.push.new.self item.field-0 c.loop-i.invariant.shape
          item.ensures.elem c.in_ok-push.ensures.ok;
      value = table_step i (λ i. power_in o A (get_or rows i []) n) c.loop-i.out c.push.new.self item.field-0
          c.loop-i.invariant.value
          (item.ensures.value ∙ ap (λ (z : List g.row.F-Elem.Denot). power_in o A z n) row)
          c.in_ok-push.ensures.ok;
    }

pub returns : goal.returns
returns g c =
    let o = g.F.Field.ops c.args.f.now in
    let A = c.args.a.now in
    let rows = c.args.rows.now in
    let ended : c.loop-i.i ≡ length rows = omega arith in
    record {
      shape = c.loop-i.invariant.shape;
      value = c.loop-i.invariant.value
          ∙ ap (λ (k : ℕ). table k (λ i. power_in o A (get_or rows i []) (c.args.q ^ c.args.d))) ended;
    }
