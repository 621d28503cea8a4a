use Rattle.spl_table.proofs.Spellings.{no_second, no_third, no_fraction}
use Rattle.spl_table.proofs.reader.entry.entry_words.Goals as goal

pub returns-in_default-number_before : goal.returns-in_default-number_before
returns-in_default-number_before c =
    let first = c.in-Some.ensures in
    λ e is spelled. no_second c.args.line.now e is spelled c.in-Some.i c.in-Some.rest.now first.0 first.1
    c.in_default-number_before.ensures

pub returns-in_default-number_before-2 : goal.returns-in_default-number_before-2
returns-in_default-number_before-2 c =
    let first = c.in-Some.ensures in
    let second = c.in-Some-number_before.ensures in
    λ e is spelled. no_third c.args.line.now e is spelled c.in-Some.i c.in-Some.rest.now first.0 first.1
    c.in-Some-number_before.j c.in-Some-number_before.rest.now second.0 second.1
    c.in_default-number_before-2.ensures

pub returns-in_default-2 : goal.returns-in_default-2
returns-in_default-2 c =
    let first = c.in-Some.ensures in
    let second = c.in-Some-number_before.ensures in
    let third = c.in-Some-number_before-2.ensures in
    λ e is spelled. no_fraction c.args.line.now e is spelled c.in-Some.i c.in-Some.rest.now first.0 first.1
    c.in-Some-number_before.j c.in-Some-number_before.rest.now second.0 second.1
    c.in-Some-number_before-2.k c.in-Some-number_before-2.rest.now third.0 third.1
    (rw c.in_default-2.is at c.in_ok-value.ensures)
