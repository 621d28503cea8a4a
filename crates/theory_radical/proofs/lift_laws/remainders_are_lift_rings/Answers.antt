use Rattle.theory_radical.proofs.Lifts.LiftRings.{times-one_exact}
use Rattle.theory_radical.proofs.Lifts.RemainderLifts.{remainder_down, remainder_down-coefficient, remainders_lift}
use Rattle.theory_radical.proofs.Lifts.RemainderLifts.{monic_lift}
use Rattle.theory_radical.proofs.lift_laws.remainders_are_lift_rings.Goals as goal

pub returns-clause-remainders : goal.returns-clause-remainders
returns-clause-remainders g c = λ p n down L f monic h monic' reduces P' I' E' J' P I E J.
    let s = g.S.CommutativeRing in
    let r = g.R.CommutativeRing in (
      remainder_down s.ring s.zero_test r.ring r.zero_test p n down L f monic h monic' reduces,
      remainder_down-coefficient s.ring s.zero_test r.ring r.zero_test p n down L f monic h monic' reduces,
      remainders_lift s.ring s.zero_test r.ring r.zero_test p n down L f monic h monic' reduces P' I' E' J' P I E J,
    )

pub returns-clause-lifts : goal.returns-clause-lifts
returns-clause-lifts g c = let s = g.S.CommutativeRing in let r = g.R.CommutativeRing in
    monic_lift s.ring s.zero_test r.ring r.zero_test

pub returns-clause-order : goal.returns-clause-order
returns-clause-order g c = times-one_exact g.S.CommutativeRing.ring g.R.CommutativeRing.ring
