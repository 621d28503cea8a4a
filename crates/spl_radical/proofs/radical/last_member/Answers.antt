use Rattle.std.proofs.Common.{◌≡◌, ◌<◌, ◌+◌, ◌^◌, suc, sym, subst, arith}
use Rattle.spl_radical.specs.LiftNumbers.{level_of}
use Rattle.spl_radical.specs.LiftRing.{prime_of}
use Rattle.spl_radical.specs.Radical.{SpansChainMember}
use Rattle.spl_radical.proofs.ChainSteps.{is_ideal, nilpotent_is_radical, last_is_radical}
use Rattle.spl_radical.proofs.radical.last_member.Goals as goal

pub is_nilpotent_ideal-requires-clause-ideal : goal.is_nilpotent_ideal-requires-clause-ideal
is_nilpotent_ideal-requires-clause-ideal c =
    let l = c.loop-i in
    is_ideal c.args.k.now (level_of c.args.ring.now) c.args.b.now c.requires.over c.requires.associative
    c.requires.identity (suc l.i) l.member.rows l.invariant.spans

pub next_member-requires-clause-exponent : goal.next_member-requires-clause-exponent
next_member-requires-clause-exponent c = omega (arith, c.requires.level, c.loop-i-test.true)

pub next_member-requires-clause-member : goal.next_member-requires-clause-member
next_member-requires-clause-member c =
    let l = c.loop-i in
    let e : suc l.i ≡ l.i + 1 = omega arith in
    subst (λ n. SpansChainMember c.args.k.now (level_of c.args.ring.now) c.args.b.now n l.member.rows) e
    l.invariant.spans

pub loop-i-init : goal.loop-i-init
loop-i-init c = record { basis = c.requires.basis; width = c.requires.width; spans = c.requires.member }

pub loop-i-preserved : goal.loop-i-preserved
loop-i-preserved c =
    let next = c.in_ok-member in
    record { basis = next.ensures.basis; width = next.ensures.width; spans = next.ensures.member }

pub returns-then-branch-clause-radical : goal.returns-then-branch-clause-radical
returns-then-branch-clause-radical c =
    let l = c.loop-i in
    nilpotent_is_radical c.args.k.now (level_of c.args.ring.now) c.args.b.now c.requires.over c.requires.associative
    c.requires.identity (suc l.i) l.member.rows l.invariant.spans
    (c.in_ok-is_nilpotent_ideal.ensures.0 c.if-branch.true)

pub returns-clause-radical : goal.returns-clause-radical
returns-clause-radical c =
    let l = c.loop-i in
    let k = c.args.k.now in
    let n = level_of c.args.ring.now in
    let ended : l.i ≡ n = omega (arith, c.requires.level) in
    last_is_radical k n c.args.b.now c.requires.over c.requires.associative c.requires.identity
    (subst (λ i. c.args.b.now.dim < prime_of k ^ suc i) (sym c.requires.level) c.requires.enough) l.member.rows
    (subst (λ i. SpansChainMember k n c.args.b.now (suc i) l.member.rows) ended l.invariant.spans)
