use Rattle.std.proofs.Common.{◌≡◌, take, reverse}
use Rattle.std.specs.Ordering.{nat_cmp}
use Rattle.std.specs.Cmp.Lexicographic.{slice_cmp}
use Rattle.spl_poly.proofs.rows.order_of_rows.Given as goal

abbrev pub invariant-loop-i : goal.invariant-loop-i
invariant-loop-i l = slice_cmp nat_cmp (reverse l.x) (reverse l.y) ≡ slice_cmp nat_cmp (reverse (take l.i l.x))
    (reverse (take l.i l.y))
