use Rattle.std.proofs.Common.{◌++◌, sym, ap, ◌∙◌}
use Rattle.std.specs.List.{flat_map}
use Rattle.spl_text.specs.Text.{line}
use Rattle.spl_evidence.specs.Line.{line_text}
use Rattle.spl_evidence.specs.Evidence.{fractions_line, place_line}
use Rattle.spl_evidence.specs.declared.word.Word.TheVariants.{Order, Radical}
use Rattle.spl_evidence.proofs.Spellings.{three_pieces, ramified_spelled}
use Rattle.spl_evidence.proofs.writing.push_ramified.Goals as goal

pub returns : goal.returns
returns c =
    let old = c.args.out.now.items in
    let first = c.push_place.new.out.items in
    let second = c.push_tuples.new.out.items in
    let order = c.args.order.now in
    let radical = c.args.radical.now in
    three_pieces old first second c.push_tuples-2.new.out.items (line (line_text (place_line c.args.place.now)))
    (flat_map (λ a. line (line_text (fractions_line Order a))) order)
    (flat_map (λ a. line (line_text (fractions_line Radical a))) radical)
    c.in_ok-push_place.ensures
    (c.in_ok-push_tuples.ensures
    ∙ ap (λ xs. first ++ flat_map (λ a. line (line_text (fractions_line Order a))) xs) c.as_slice.ensures)
    (c.in_ok-push_tuples-2.ensures
    ∙ ap (λ xs. second ++ flat_map (λ a. line (line_text (fractions_line Radical a))) xs) c.as_slice-2.ensures)
    ∙ ap (λ t. old ++ t) (sym (ramified_spelled c.args.place.now order radical))
