use Rattle.std.proofs.Common.{length}
use Rattle.std.specs.List.{All}
use Rattle.theory_rings.specs.Ops.{IsElem}
use Rattle.spl_field.specs.SmallField.{small_ops}
use Rattle.spl_fraction.specs.Fractions.{field_of}
use Rattle.spl_fraction.specs.FractionsOver.{fractions_over}
use Rattle.spl_table.specs.Reading.{head_of, SoFar}
use Rattle.spl_table.proofs.reader.entries.read_entries.Given as goal

-- right entries stand before the rest, and have their constants
abbrev pub invariant-loop-text : goal.invariant-loop-text
invariant-loop-text l = record {
  so_far : SoFar (small_ops (field_of l.k)) (head_of (field_of l.k) l.n) l.bytes l.rest l.number l.constants;
  over : All (IsElem (fractions_over (field_of l.k))) l.constants;
}

abbrev pub decreases-loop-text : goal.decreases-loop-text
decreases-loop-text l = length l.rest
