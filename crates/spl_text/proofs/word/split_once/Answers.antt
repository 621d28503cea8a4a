use Rattle.std.proofs.Common.{◌==◌, sym, ◌∙◌, rules, tests}
use Rattle.std.proofs.lemmas.Iterator.{YieldsList-from_slice}
use Rattle.std.proofs.lemmas.Iterator.Search.{position_from_yields_List}
use Rattle.std.proofs.lemmas.List.{take_rest}
use Rattle.spl_text.proofs.Words.{split_at, lacks_all}
use Rattle.spl_text.proofs.word.split_once.Goals as goal

pub returns-in_err-place : goal.returns-in_err-place
returns-in_err-place c =
    let found = position_from_yields_List (λ b. b == c.args.separator) _ _ c.position.result c.position.ensures.ran
    (YieldsList-from_slice c.args.bytes.now cc) (λ x b q k. search (rules, tests)) in
    rw c.from_residual.ensures (lacks_all c.args.separator c.args.bytes.now (sym found ∙ c.in_err-place.was))

pub returns : goal.returns
returns c =
    let found = position_from_yields_List (λ b. b == c.args.separator) _ _ c.position.result c.position.ensures.ran
    (YieldsList-from_slice c.args.bytes.now cc) (λ x b q k. search (rules, tests)) in
    rw take_rest (split_at c.args.separator c.args.bytes.now c.in_ok-place.place (sym found ∙ c.in_ok-place.was))
