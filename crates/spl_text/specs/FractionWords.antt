-- What a text says by the numbers of a fraction.
use Rattle.spl_text.specs.Text.{FractionText}
use Rattle.spl_text.specs.declared.fraction.FractionWords.{FractionWords}

-- the fraction as a text has it
abbrev pub text_of : FractionWords → FractionText
text_of f = record { numerator = f.numerator; denominator = f.denominator }
