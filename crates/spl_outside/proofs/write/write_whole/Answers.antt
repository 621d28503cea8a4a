-- What a call takes is appended to what was taken before it.
use Rattle.std.proofs.Common.{◌∙◌, arith}
use Rattle.std.proofs.lemmas.Grind.{common_steps}
use Rattle.spl_outside.proofs.Pieces.{Appends-take}
use Rattle.spl_outside.proofs.write.write_whole.Goals as goal

pub loop-taken-preserved : goal.loop-taken-preserved
loop-taken-preserved g c = record {
  within = grind (arith, common_steps);
  grew = Appends-take (g.K.Sink.written c.args.sink.now) (g.K.Sink.written c.loop-taken.sink)
      (g.K.Sink.written c.write.new.self)
      c.args.bytes.now c.loop-taken.taken c.in_ok-taken.field-0 c.loop-taken.invariant.grew c.in_ok-taken.ensures.grew;
  faults = c.in_ok-taken.ensures.no_fault ∙ c.loop-taken.invariant.faults;
  told = cc;
  steady = cc;
}
