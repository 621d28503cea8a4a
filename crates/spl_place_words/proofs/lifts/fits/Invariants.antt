use Rattle.std.specs.Prelude.{◌≡◌, ◌^◌, ◌≤◌, suc}
use Rattle.spl_place_words.proofs.lifts.fits.Given as goal

abbrev pub invariant-loop-i : goal.invariant-loop-i
invariant-loop-i l = (l.power ≡ l.p ^ suc l.i) × (l.power ≤ 2 ^ 40)
