use Rattle.spl_text.proofs.NumberLists.{no_list}
use Rattle.spl_text.proofs.numbers.number_list_of.Goals as goal

pub returns-then-not-is_number_list : goal.returns-then-not-is_number_list
returns-then-not-is_number_list c =
    let found = rw c.in-Some.is at c.in_ok-numbers.ensures in
    no_list c.args.word.now c.in-Some.numbers found.0 found.1
    (λ list. let same = c.if-not-is_number_list.ensures.1 list in absurd cc)
