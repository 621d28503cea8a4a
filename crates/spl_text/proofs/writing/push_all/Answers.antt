use Rattle.std.proofs.Common.{◌≡◌, ◌+◌, ◌<◌, length, get_or, take, drop, Ok, Err}
use Rattle.std.specs.Prelude.{Result, OnErr}
use Rattle.std.proofs.lemmas.List.{take_rest}
use Rattle.spl_text.specs.Text.{numbers_text}
use Rattle.spl_text.proofs.NumberLists.{after_comma, one_more}
use Rattle.spl_text.proofs.writing.push_all.Goals as goal

either_way : {T E P : Type 0} (r : Result T E) → P → OnErr r P
either_way (Ok x) p = tt
either_way (Err e) p = p

pub returns-in_err-push_number-2-clause-err : goal.returns-in_err-push_number-2-clause-err
returns-in_err-push_number-2-clause-err c =
    let l = c.loop-coefficient in
    either_way c.from_residual-in_err-push_number-2.result
    (after_comma c.args.out.now.items l.out.items c.push.new.self.items c.push_number-in-loop-coefficient.new.out.items
    (numbers_text (take (l.coefficient-index + 1) c.args.c.now))
    l.invariant c.in_ok-push.ensures.items c.in_err-push_number-2.ensures.err)

pub loop-coefficient-preserved : goal.loop-coefficient-preserved
loop-coefficient-preserved c =
    let l = c.loop-coefficient in
    let below : l.coefficient-index < length (drop 1 c.args.c.now) = rw take_rest at c.loop-coefficient-test.true in
    let item : c.from-in-loop-coefficient.result ≡ get_or (drop 1 c.args.c.now) l.coefficient-index 0 =
    rw take_rest at c.from-in-loop-coefficient.ensures in
    one_more c.args.c.now c.args.out.now.items l.out.items c.push.new.self.items
    c.push_number-in-loop-coefficient.new.out.items l.coefficient-index c.from-in-loop-coefficient.result
    below item l.invariant c.in_ok-push.ensures.items c.in_ok-push_number-2.ensures.ok
