use Rattle.std.proofs.Common.{◌++◌, sym, ap, ◌∙◌}
use Rattle.std.specs.Prelude.{codes}
use Rattle.std.specs.List.{flat_map}
use Rattle.spl_text.specs.Text.{line}
use Rattle.spl_evidence.specs.Line.{line_text}
use Rattle.spl_evidence.specs.Evidence.{multiplier_line}
use Rattle.spl_evidence.specs.declared.word.Word.TheVariants.{Left, Right}
use Rattle.spl_evidence.proofs.Spellings.{three_pieces, sides_spelled}
use Rattle.spl_evidence.proofs.writing.push_no_identity.Goals as goal

pub returns : goal.returns
returns c =
    let old = c.args.out.now.items in
    let first = c.extend_from_slice.new.self.items in
    let second = c.push_multipliers.new.out.items in
    let left = c.args.left.now in
    let right = c.args.right.now in
    three_pieces old first second c.push_multipliers-2.new.out.items (line (codes "noidentity"))
    (flat_map (λ item. line (line_text (multiplier_line Left item))) left)
    (flat_map (λ item. line (line_text (multiplier_line Right item))) right)
    c.in_ok-extend_from_slice.ensures.items
    (c.in_ok-push_multipliers.ensures
    ∙ ap (λ xs. first ++ flat_map (λ item. line (line_text (multiplier_line Left item))) xs) c.as_slice.ensures)
    (c.in_ok-push_multipliers-2.ensures
    ∙ ap (λ xs. second ++ flat_map (λ item. line (line_text (multiplier_line Right item))) xs) c.as_slice-2.ensures)
    ∙ ap (λ t. old ++ t) (sym (sides_spelled left right))
