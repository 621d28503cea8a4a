use Rattle.std.specs.List.{All}
use Rattle.theory_rings.specs.Ops.{IsElem}
use Rattle.spl_field.specs.SmallField.{small_ops}
use Rattle.spl_words.proofs.args.elements.Given as goal

abbrev pub invariant-loop-part : goal.invariant-loop-part
invariant-loop-part l = All (IsElem (small_ops l.f)) l.items.items
