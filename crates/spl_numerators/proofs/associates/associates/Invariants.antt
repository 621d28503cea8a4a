use Rattle.std.proofs.Common.{◌≡◌, ◌<◌, ℕ}
use Rattle.spl_field.specs.SmallField.{small_ops, small_laws}
use Rattle.spl_numerators.specs.Sums.{left_item, right_item}
use Rattle.spl_numerators.proofs.associates.associates.Given as goal

abbrev pub invariant-loop-t : goal.invariant-loop-t
invariant-loop-t l = let o = small_ops l.f in let L = small_laws l.f in
    (t : ℕ) → t < l.t → left_item o L l.entries l.m l.i l.j l.k t ≡ right_item o L l.entries l.m l.i l.j l.k t
