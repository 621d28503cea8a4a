use Rattle.std.proofs.Common.{◌≡◌, ◌+◌, ◌++◌, take}
use Rattle.spl_text.specs.Text.{numbers_text}
use Rattle.spl_text.proofs.writing.push_all.Given as goal

-- the numbers so far are written
abbrev pub invariant-loop-coefficient : goal.invariant-loop-coefficient
invariant-loop-coefficient l = l.out.items ≡ l.fn.out.items ++ numbers_text (take (l.coefficient-index + 1) l.fn.c)
