use Rattle.std.proofs.Common.{◌++◌, sym, ap, ◌∙◌}
use Rattle.std.specs.Prelude.{codes}
use Rattle.spl_text.specs.Text.{line}
use Rattle.spl_evidence.specs.Line.{lines_text}
use Rattle.spl_evidence.specs.Evidence.{map_lines, unit_lines}
use Rattle.spl_evidence.proofs.Spellings.{three_pieces, split_spelled}
use Rattle.spl_evidence.proofs.writing.push_split.Goals as goal

pub returns : goal.returns
returns c =
    let old = c.args.out.now.items in
    let n = c.args.n in
    let first = c.extend_from_slice.new.self.items in
    let second = c.push_maps.new.out.items in
    three_pieces old first second c.push_units.new.out.items (line (codes "split"))
    (lines_text (map_lines 0 c.args.maps.now)) (lines_text (unit_lines n 0 c.args.units.now))
    c.in_ok-extend_from_slice.ensures.items
    (c.in_ok-push_maps.ensures ∙ ap (λ xs. first ++ lines_text (map_lines 0 xs)) c.as_slice.ensures)
    (c.in_ok-push_units.ensures ∙ ap (λ xs. second ++ lines_text (unit_lines n 0 xs)) c.as_slice-2.ensures)
    ∙ ap (λ t. old ++ t) (sym (split_spelled n c.args.maps.now c.args.units.now))
