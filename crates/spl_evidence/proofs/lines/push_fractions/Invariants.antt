use Rattle.std.proofs.Common.{◌≡◌, ◌++◌, take}
use Rattle.std.specs.Prelude.{codes}
use Rattle.std.specs.List.{flat_map}
use Rattle.spl_text.specs.Text.{fraction_text}
use Rattle.spl_fraction.specs.CanonicalWords.{words_of}
use Rattle.spl_evidence.proofs.lines.push_fractions.Given as goal

-- the fractions so far are written
abbrev pub invariant-loop-x : goal.invariant-loop-x
invariant-loop-x l =
    l.out.items ≡ l.fn.out.items ++ flat_map (λ x. codes " " ++ fraction_text (words_of x)) (take l.x-index l.a)
