use Rattle.std.proofs.Common.{◌≡◌, ◌+◌, ◌-◌, ◌≤◌, length, is_some}
use Rattle.std.specs.Io.KnownBytes.{Consumes}
use Rattle.spl_cli.proofs.input.read_input.Given as goal

abbrev pub invariant-loop-input : goal.invariant-loop-input
invariant-loop-input g l =
    let S = g.S.Source in
    record {
      buffer : length l.buffer.items ≡ l.piece;
      taken : Consumes (S.left l.fn.source) (S.left l.source) l.input.items;
      most : length l.input.items ≤ l.limit + 1;
      faults : S.faults l.source ≡ S.faults l.fn.source;
      told : is_some (S.left l.source) ≡ is_some (S.left l.fn.source);
      steady : S.steady l.source ≡ S.steady l.fn.source;
    }

abbrev pub decreases-loop-input : goal.decreases-loop-input
decreases-loop-input g l = l.limit + 1 - length l.input.items
