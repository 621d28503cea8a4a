use Rattle.std.proofs.Common.{◌≡◌, ◌^◌, subst, arith}
use Rattle.theory_rings.specs.Power.{power_of}
use Rattle.spl_residue.specs.Residue.{residue_ops}
use Rattle.spl_radical.specs.LiftRing.{prime_of}
use Rattle.spl_radical.specs.Radical.{laws_of}
use Rattle.spl_radical.proofs.DigitElements.{first_root, next_root}
use Rattle.spl_radical.proofs.roots.iterated_root.Goals as goal

pub loop-i-init : goal.loop-i-init
loop-i-init c =
    let k = c.args.k.now in
    record { elem = c.requires; value = first_root (residue_ops k) (laws_of k) (prime_of k) c.args.a c.requires }

pub loop-i-preserved : goal.loop-i-preserved
loop-i-preserved c =
    let k = c.args.k.now in
    let l = c.loop-i in
    let r = c.in_ok-root in
    record {
      elem = r.ensures.elem;
      value = next_root (residue_ops k) (laws_of k) (prime_of k) l._i c.args.a l.root r.root r.ensures.elem
          l.invariant.value r.ensures.value;
    }

pub returns-clause-value : goal.returns-clause-value
returns-clause-value c =
    let k = c.args.k.now in
    let l = c.loop-i in
    let ended : l._i ≡ c.args.i = omega arith in
    subst (λ n. power_of (residue_ops k) l.root (prime_of k ^ n) ≡ c.args.a) ended l.invariant.value
