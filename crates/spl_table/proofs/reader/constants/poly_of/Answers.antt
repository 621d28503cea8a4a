use Rattle.std.proofs.Common.{◌≡◌, length, take, subst, sym, ap, ◌∙◌, arith}
use Rattle.std.proofs.Math.Seq.{take-length}
use Rattle.spl_field.specs.SmallField.{small_ops}
use Rattle.spl_poly.specs.Operations.{IsOver}
use Rattle.spl_table.proofs.Constants.{IsOver-small}
use Rattle.spl_table.proofs.reader.constants.poly_of.Goals as goal

pub returns-clause-over : goal.returns-clause-over
returns-clause-over c =
    let o = small_ops c.args.f.now in
    let at : c.loop-number.number-index ≡ length c.args.numbers.now = omega arith in
    let all : c.as_slice.result.now ≡ c.args.numbers.now =
    c.as_slice.ensures ∙ c.loop-number.invariant ∙ ap (λ i. take i c.args.numbers.now) at
    ∙ take-length c.args.numbers.now in
    c.from_slice.ensures.over o (subst (IsOver o) (sym all) (IsOver-small c.args.f.now c.args.numbers.now c.requires))
