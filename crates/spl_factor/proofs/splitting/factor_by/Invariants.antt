use Rattle.spl_factor.proofs.Splits.{AreImproper}
use Rattle.spl_factor.proofs.splitting.factor_by.Given as goal

abbrev pub invariant-loop-c : goal.invariant-loop-c
invariant-loop-c l = AreImproper l.f l.g l.t l.c
