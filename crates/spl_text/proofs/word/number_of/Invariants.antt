use Rattle.std.proofs.Common.{◌≡◌, ◌^◌, ◌<◌, drop}
use Rattle.std.specs.Str.{all_ascii_digits}
use Rattle.std.specs.Str.Parse.{digits_value, digits_value_after}
use Rattle.spl_text.proofs.word.number_of.Given as goal

-- the digits so far, and what the others still give
abbrev pub invariant-loop-byte : goal.invariant-loop-byte
invariant-loop-byte l =
    record {
      digits : all_ascii_digits (drop l.byte-index l.word) ≡ all_ascii_digits l.word;
      value : digits_value_after 10 l.number (drop l.byte-index l.word) ≡ digits_value 10 l.word;
      bound : l.number < 10 ^ l.byte-index;
    }
