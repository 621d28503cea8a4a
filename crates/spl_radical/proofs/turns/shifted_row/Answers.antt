use Rattle.std.proofs.Common.{◌<◌, ◌+◌, ◌-◌, ◌%◌, length, All, List, ℕ, sym, ap, subst, ◌∙◌}
use Rattle.theory_rings.specs.Sum.{table}
use Rattle.theory_chains.specs.NumberRows.{shifted_number}
use Rattle.theory_tables.proofs.Rows.Sums.{row_at}
use Rattle.spl_radical.proofs.turns.shifted_row.Goals as goal

pub shifted-requires-clause-numbers : goal.shifted-requires-clause-numbers
shifted-requires-clause-numbers c = subst (All (λ x. x < c.args.q)) (sym (row_at c.args.rows.now c.args.i
    c.index-rows-i.result c.as_slice.result.now c.requires.place c.index-rows-i.is c.as_slice.ensures))
    c.requires.numbers

pub shifted-requires-clause-whole : goal.shifted-requires-clause-whole
shifted-requires-clause-whole c = subst (λ (y : List ℕ). (k : ℕ) → k < length y
    → k - k % length c.args.back.now + (length c.args.back.now - 1) < length y) (sym (row_at c.args.rows.now c.args.i
    c.index-rows-i.result c.as_slice.result.now c.requires.place c.index-rows-i.is c.as_slice.ensures)) c.requires.whole

pub returns : goal.returns
returns c = c.in_ok-shifted.ensures ∙ ap (λ y. table (length y)
    (shifted_number c.args.q (length c.args.back.now) c.args.back.now y)) (row_at c.args.rows.now c.args.i
    c.index-rows-i.result c.as_slice.result.now c.requires.place c.index-rows-i.is c.as_slice.ensures)
