use Rattle.std.proofs.Common.{ℕ}
use Rattle.spl_field.specs.SmallField.{small_ops, small_laws}
use Rattle.theory_fractions.specs.Fraction.{Pair}
use Rattle.spl_fraction.specs.CanonicalText.{IsCanonicalText}
use Rattle.theory_fractions.proofs.ElementClauses.{elem_of_lowest, lowest_of_elem}
use Rattle.spl_fraction.proofs.CanonicalTexts.{some_of_match, read_again}
use Rattle.spl_fraction.proofs.field.Fractions.read_fraction.Goals as goal

pub returns-clause-elem : goal.returns-clause-elem
returns-clause-elem c =
    let o = small_ops c.args.self.now.field in
    some_of_match ((w : Pair ℕ) → IsCanonicalText o c.args.text.now w → ⊥) c.in_ok-fraction_of_text.field-0
    (λ w h. elem_of_lowest o (small_laws c.args.self.now.field) w h.lowest) c.in_ok-fraction_of_text.ensures

pub returns-clause-again : goal.returns-clause-again
returns-clause-again c w h e =
    let o = small_ops c.args.self.now.field in
    read_again c.args.self.now.field c.args.text.now c.in_ok-fraction_of_text.field-0 w c.in_ok-fraction_of_text.ensures
    (lowest_of_elem o (small_laws c.args.self.now.field) w h) e
