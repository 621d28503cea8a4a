use Rattle.std.proofs.Common.{◌<◌, ap, ◌∙◌, arith}
use Rattle.std.proofs.lemmas.Bool.{both_ways}
use Rattle.theory_spaces.specs.Tuples.{tuple_scale}
use Rattle.theory_tables.specs.Structure.{basis_of}
use Rattle.spl_check.proofs.BasisProducts.{factor_unique}
use Rattle.spl_check.proofs.Tests.{yes, no}
use Rattle.spl_check.proofs.central.is_no_multiple.Goals as goal

pub returns : goal.returns
returns g c = no (λ h. h c.in_ok-c.c c.in_ok-c.ensures.elem
    (λ i i_in. c.loop-i.invariant i (omega (arith, i_in, c.loop-i-test.false, c.dim-m.ensures.dim))))

pub returns-then-not-branch : goal.returns-then-not-branch
returns-then-not-branch g c =
    let o = g.F.Field.ops c.args.f.now in
    let L = g.met.F.Field.laws c.args.f.now in
    let A = c.args.algebra.now in
    let i = c.loop-i.i in
    let i_in : i < A.dim = omega (arith, c.loop-i-test.true, c.dim-m.ensures.dim) in
    let some : 0 < A.dim = omega (arith, i_in) in
    yes (λ d hd h. both_ways c.in_ok-is_multiple_at.field-0 c.if-not-branch.true
    (c.in_ok-is_multiple_at.ensures.1 (h i i_in
    ∙ ap (λ z. tuple_scale o A.dim z (basis_of o A i))
    (factor_unique o L A c.args.a.now c.in_ok-c.c d some hd c.in_ok-c.ensures.value (h 0 some)))))
