use Rattle.std.proofs.Common.{◌≡◌, ◌≤◌, List, arith}
use Rattle.std.proofs.lemmas.Result.{IfOk-weaker}
use Rattle.theory_tables.specs.Structure.{product_of}
use Rattle.spl_blocks.specs.Fixed.{power_in}
use Rattle.spl_blocks.proofs.PowerSteps.{power_even, power_odd}
use Rattle.spl_blocks.proofs.powers.+power.Goals as goal

pub returns-then-e-eq0-clause-value : goal.returns-then-e-eq0-clause-value
returns-then-e-eq0-clause-value g t c =
    let large : 2 ≤ c.args.e = omega arith in
    power_even (g.F.Field.ops c.args.f.now) (g.met.F.Field.laws c.args.f.now) c.args.a.now c.requires.unital
    c.args.z.now c.requires.element c.in_ok-half.half c.in_ok-square.square c.args.e large c.in_ok-half.ensures.value
    c.if-e-eq0.true c.in_ok-square.ensures.value

pub returns-clause-value : goal.returns-clause-value
returns-clause-value g t c =
    let o = g.F.Field.ops c.args.f.now in
    let A = c.args.a.now in
    let z = c.args.z.now in
    let large : 2 ≤ c.args.e = omega arith in
    let P : List g.row.F-Elem.Denot → Type 0 = λ r. r ≡ product_of o A z c.in_ok-square.square in
    let Q : List g.row.F-Elem.Denot → Type 0 = λ r. r ≡ power_in o A z c.args.e in
    IfOk-weaker c.mul-2.result P Q
    (λ r e. power_odd o (g.met.F.Field.laws c.args.f.now) A c.requires.unital z c.requires.element c.in_ok-half.half
    c.in_ok-square.square r c.args.e large c.in_ok-half.ensures.value c.if-e-eq0.false c.in_ok-square.ensures.value e)
    c.mul-2.ensures.value
