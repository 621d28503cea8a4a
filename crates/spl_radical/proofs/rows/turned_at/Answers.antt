use Rattle.std.proofs.Common.{refl, ◌≡◌, ◌+◌, ◌-◌, ◌%◌, length, get_or, take, drop, cond, nat_lt, ◌∙◌, arith}
use Rattle.spl_radical.proofs.RowSteps.{turned_is, part_length, before_none, before_some}
use Rattle.spl_radical.proofs.rows.turned_at.Goals as goal
use Rattle.spl_radical.proofs.rows.turned_at.Goals.{then-u-d, else-u-d}

pub returns : goal.returns
returns c =
    let row = c.args.row.now in
    let k = c.args.k in
    let w = c.args.w in
    let d = length c.args.turns.now in
    let start = k - k % w + (w - d) in
    let before : c.if-u-d.before ≡ cond (nat_lt (k % w) d) 0 (get_or row (k - d) 0) =
    elim c.if-u-d.branch [
      | then-u-d x ↦ x.before-is ∙ before_none k w d (get_or row (k - d) 0) x.if-u-d.true
      | else-u-d x ↦ x.before-is ∙ before_some k w d (get_or row (k - d) 0) x.if-u-d.false
    ] in
    let m = start + d - start in
    let part = take m (drop start row) in
    turned_is c.args.q w d c.args.turns.now row k c.if-u-d.before (length part) m start c.added_rows.result before
    (part_length row start d (omega (arith, c.requires.whole, c.requires.digits))) (omega arith) refl
    c.added_rows.ensures
