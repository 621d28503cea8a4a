use Rattle.std.specs.Prelude.{◌≡◌, ◌++◌, take}
use Rattle.spl_radical.proofs.matrices.append.Given as goal

abbrev pub invariant-loop-t : goal.invariant-loop-t
invariant-loop-t l = l.out ≡ l.fn.out ++ take l.t l.numbers
