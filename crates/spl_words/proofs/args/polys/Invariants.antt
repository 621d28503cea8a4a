use Rattle.std.specs.List.{All}
use Rattle.spl_field.specs.SmallField.{small_ops}
use Rattle.theory_rings.specs.Polynomial.{IsTrimmed}
use Rattle.spl_poly.specs.Operations.{IsOver}
use Rattle.spl_words.proofs.args.polys.Given as goal

abbrev pub invariant-loop-word : goal.invariant-loop-word
invariant-loop-word l = record {
  over : All (IsOver (small_ops l.f)) l.row;
  trimmed : All (IsTrimmed 0) l.row;
}
