use Rattle.spl_cli.proofs.Correctness.{one_report}
use Rattle.spl_cli.proofs.laws.one_report.Goals as goal

pub returns : goal.returns
returns c = one_report
