use Rattle.std.specs.Prelude.{◌≡◌, ◌/◌, ◌^◌, ◌≤◌, suc}
use Rattle.spl_radical.proofs.radical.level_for.Given as goal

abbrev pub invariant-levels : goal.invariant-levels
invariant-levels l = record { low : l.p ^ l.level ≤ l.m; value : l.rest ≡ l.m / l.p ^ suc l.level }

abbrev pub decreases-levels : goal.decreases-levels
decreases-levels l = l.rest
