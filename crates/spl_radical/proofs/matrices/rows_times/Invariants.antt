use Rattle.std.specs.Prelude.{◌≡◌, ◌*◌, ◌%◌, [], length, get_or}
use Rattle.theory_rings.specs.Sum.{sum, table}
use Rattle.theory_rings.specs.Naturals.{nat_monoid}
use Rattle.spl_radical.specs.LiftNumbers.{residues_of, level_of}
use Rattle.spl_radical.specs.LiftRing.{size_of}
use Rattle.spl_radical.proofs.matrices.rows_times.Given as goal

abbrev pub invariant-loop-i : goal.invariant-loop-i
invariant-loop-i l = l.out ≡ table l.i (λ i. table (length l.columns) (λ t. sum nat_monoid (length l.columns)
    (λ r. get_or (get_or l.a i []) r 0 * get_or (get_or l.columns t []) r 0)
    % size_of (residues_of l.ring) (level_of l.ring)))
