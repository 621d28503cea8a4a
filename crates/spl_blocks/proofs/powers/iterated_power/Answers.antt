use Rattle.std.proofs.Common.{◌≡◌, ◌^◌, ◌∙◌, ap, arith, ℕ, List, sym, subst}
use Rattle.theory_tables.specs.Structure.{IsElement}
use Rattle.spl_blocks.specs.Fixed.{power_in}
use Rattle.spl_blocks.proofs.PowerSteps.{iterated_start, iterated_next}
use Rattle.spl_blocks.proofs.powers.iterated_power.Goals as goal

pub loop-i-init : goal.loop-i-init
loop-i-init g c =
    let o = g.F.Field.ops c.args.f.now in
    let L = g.met.F.Field.laws c.args.f.now in
    let A = c.args.a.now in
    let z = c.args.z.now in
    let x = c.in_ok-x in
    let P : List g.row.F-Elem.Denot → Type 0 = IsElement o A in
    record {
      elem = subst P (sym x.ensures) c.requires.element;
      value = iterated_start o L A c.requires.unital z c.requires.element c.args.q x.x x.ensures;
    }

pub loop-i-preserved : goal.loop-i-preserved
loop-i-preserved g c =
    let o = g.F.Field.ops c.args.f.now in
    let L = g.met.F.Field.laws c.args.f.now in
    let y = c.in_ok-x-2 in
    record {
      elem = y.ensures.elem;
      value = iterated_next o L c.args.a.now c.requires.unital c.args.z.now c.requires.element c.args.q c.loop-i._i
          c.loop-i.x y.x c.requires.positive c.loop-i.invariant.value y.ensures.value;
    }

pub returns : goal.returns
returns g c =
    let o = g.F.Field.ops c.args.f.now in
    let ended : c.loop-i._i ≡ c.args.d = omega arith in
    record {
      elem = c.loop-i.invariant.elem;
      value = c.loop-i.invariant.value
          ∙ ap (λ (n : ℕ). power_in o c.args.a.now c.args.z.now (c.args.q ^ n)) ended;
    }
