use Rattle.spl_cli.proofs.Correctness.{run_checks}
use Rattle.spl_cli.proofs.laws.run_checks.Goals as goal

pub returns : goal.returns
returns c = run_checks
