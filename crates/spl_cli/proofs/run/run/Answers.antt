use Rattle.std.proofs.Common.{ℕ, List, ◌∙◌, sym, subst}
use Rattle.spl_cli.specs.Finish.{sink_state, Answers}
use Rattle.spl_cli.proofs.Running.{IsRun-usage, IsRun-answered, limit_of-form}
use Rattle.spl_cli.proofs.run.run.Goals as goal

pub returns-in_default : goal.returns-in_default
returns-in_default g c = IsRun-usage _ _ _ _ _ (sym c.form.ensures ∙ c.in_default.is) c.finish.ensures

pub returns-in-Ok : goal.returns-in-Ok
returns-in-Ok g c =
    let form = sym c.form.ensures ∙ c.in-Some.is in
    let sinks = sink_state g.K.Sink.written g.K.Sink.faults g.K.Sink.steady in
    let P : List ℕ → Type 0 = λ read.
    Answers c.args.words.now read (sinks c.args.sink.now) (sinks c.report_on.new.sink) c.report_on.result in
    IsRun-answered c.args.words.now _ form c.limit_of.result
    (limit_of-form c.args.words.now _ c.limit_of.result form c.limit_of.ensures.limit) _ _ _ _ _ c.in-Ok.input.items
    (record {
      taken = c.in-Ok.ensures.taken;
      most = c.in-Ok.ensures.most;
      whole = c.in-Ok.ensures.whole;
      no_fault = c.in-Ok.ensures.no_fault;
      stands = record { faults = c.in-Ok.ensures.faults; told = c.in-Ok.ensures.told; steady = c.in-Ok.ensures.steady };
    })
    (subst P c.as_slice.ensures.value (c.report_on.ensures c.args.words.now form))
