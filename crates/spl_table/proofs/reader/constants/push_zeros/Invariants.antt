use Rattle.std.proofs.Common.{◌≡◌, ◌-◌, ◌≤◌, ◌++◌, ◌∷◌, [], length, replicate}
use Rattle.std.specs.List.{All}
use Rattle.theory_rings.specs.Ops.{IsElem}
use Rattle.spl_fraction.specs.Fractions.{field_of}
use Rattle.spl_fraction.specs.FractionsOver.{fractions_over}
use Rattle.spl_table.proofs.reader.constants.push_zeros.Given as goal

-- the constants that were there, and zeros
abbrev pub invariant-loop-alloc : goal.invariant-loop-alloc
invariant-loop-alloc l = record {
  items : l.constants ≡ l.fn.constants ++ replicate (length l.constants - length l.fn.constants) ([], 1 ∷ []);
  more : length l.fn.constants ≤ length l.constants;
  within : length l.constants ≤ l.fn.count;
  over : All (IsElem (fractions_over (field_of l.k))) l.fn.constants
      → All (IsElem (fractions_over (field_of l.k))) l.constants;
}

abbrev pub decreases-loop-alloc : goal.decreases-loop-alloc
decreases-loop-alloc l = l.fn.count - length l.constants
