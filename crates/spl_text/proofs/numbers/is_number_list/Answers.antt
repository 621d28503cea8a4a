use Rattle.std.proofs.Common.{◌≡◌, ◌≢◌, ◌-◌, length, get_or, sym, ap₂, ◌∙◌}
use Rattle.std.proofs.lemmas.Bool.{eq-eqb, ne_eqb, eqb-false, not-true}
use Rattle.spl_text.proofs.NumberLists.{alone, list_from_last, last_of_list}
use Rattle.spl_text.proofs.numbers.is_number_list.Goals as goal

pub returns-then-count-eq1 : goal.returns-then-count-eq1
returns-then-count-eq1 c = (
  λ _. alone c.args.numbers.now c.requires (sym c.len-count.ensures ∙ c.if-count-eq1.true),
  λ _. eq-eqb c.len-count.result 1 c.if-count-eq1.true,
)

pub returns-else-count-eq1 : goal.returns-else-count-eq1
returns-else-count-eq1 c =
    let ns = c.args.numbers.now in
    let last = get_or c.as_slice.result.now (c.len-count.result - 1) 0 in
    let at : last ≡ get_or ns (length ns - 1) 0 =
    ap₂ (λ s n. get_or s (n - 1) 0) c.as_slice.ensures c.len-count.ensures in
    let several : length ns ≢ 1 = λ e. c.if-count-eq1.false (c.len-count.ensures ∙ e) in (
      λ h. list_from_last ns c.requires (λ e. eqb-false _ _ (not-true _ h) (at ∙ e)),
      λ list. rw (ne_eqb last 0 (λ e. last_of_list ns several list (sym at ∙ e))),
    )
