use Rattle.spl_cli.proofs.Correctness.{run_decides}
use Rattle.spl_cli.proofs.laws.run_decides.Goals as goal

pub returns : goal.returns
returns c = run_decides
