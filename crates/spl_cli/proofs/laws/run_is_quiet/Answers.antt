use Rattle.spl_cli.proofs.Correctness.{run_is_quiet}
use Rattle.spl_cli.proofs.laws.run_is_quiet.Goals as goal

pub returns : goal.returns
returns g c =
    let S = g.S.Source in
    let K = g.K.Sink in
    run_is_quiet S.left S.faults S.steady K.written K.faults K.steady g.met.S.Source.quiet g.met.K.Sink.quiet
