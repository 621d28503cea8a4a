use Rattle.spl_ramified.proofs.Faults.{claim_by_faults}
use Rattle.spl_ramified.proofs.fault_laws.no_fault_says_ramified.Goals as goal

pub returns : goal.returns
returns g c = record { claim = λ o L A place os js. claim_by_faults o L A place os js }
