use Rattle.std.proofs.Common.{subst, arith, ◌≡◌, ◌+◌, suc}
use Rattle.spl_factor.proofs.Splits.{AreImproper, none_improper, one_more_improper, some_is_proper}
use Rattle.spl_factor.proofs.Values.{elem_of}
use Rattle.spl_factor.proofs.splitting.factor_by.Goals as goal

pub loop-c-init : goal.loop-c-init
loop-c-init c = none_improper c.args.f.now c.args.g.now c.args.t.now

pub loop-c-preserved : goal.loop-c-preserved
loop-c-preserved c =
    let f = c.args.f.now in
    let d = c.in_ok-difference in
    let h = c.in_ok-h in
    let l = c.loop-c-test.true in
    let k = c.size-c-end.ensures.size in
    let e : suc c.loop-c.c ≡ c.loop-c.c + 1 = omega arith in
    subst (AreImproper f c.args.g.now c.args.t.now) e
    (one_more_improper f c.args.g.now c.args.t.now c.loop-c.c d.difference h.h c.loop-c.invariant
    (elem_of f c.loop-c.c (omega arith)) d.ensures.value
    c.requires.list h.ensures (λ p. cc (c.is_proper.ensures.1 p, c.if-is_proper.false)))

pub unreachable-requires : goal.unreachable-requires
unreachable-requires c =
    let past = c.loop-c-test.false in
    let e = c.size-c-end.ensures.size in
    some_is_proper c.args.f.now c.args.g.now c.args.t.now c.loop-c.c c.requires.list c.requires.polynomial
    c.requires.fixed c.requires.not_constant c.requires.smaller (omega arith) c.loop-c.invariant
