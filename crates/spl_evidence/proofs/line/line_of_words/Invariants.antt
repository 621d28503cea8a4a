use Rattle.std.proofs.Common.{◌≡◌, ◌≢◌, ℕ, ◌<◌, get_or}
use Rattle.spl_evidence.specs.Line.{Line, HasForm, line_text}
use Rattle.spl_evidence.proofs.line.line_of_words.Given as goal

-- the text spells no line of the words so far
abbrev pub invariant-loop-word : goal.invariant-loop-word
invariant-loop-word l =
    (k : ℕ) → k < l.word-index → (line : Line) → get_or l.words k line.word ≡ line.word → HasForm l.m line
    → l.text ≢ line_text line
