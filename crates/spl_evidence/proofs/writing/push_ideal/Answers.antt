use Rattle.std.proofs.Common.{◌∷◌, [], ◌++◌, sym, ap, ◌∙◌}
use Rattle.std.specs.List.{flat_map}
use Rattle.spl_text.specs.Text.{line}
use Rattle.spl_evidence.specs.Line.{line_text}
use Rattle.spl_evidence.specs.Evidence.{tuple_line, kind_line}
use Rattle.spl_evidence.specs.declared.word.Word.TheVariants.{Ideal as IdealWord}
use Rattle.spl_evidence.specs.declared.evidence.Evidence.TheVariants.{Ideal}
use Rattle.spl_evidence.proofs.Spellings.{two_pieces, ideal_spelled}
use Rattle.spl_evidence.proofs.writing.push_ideal.Goals as goal

pub returns : goal.returns
returns c =
    let old = c.args.out.now.items in
    let first = c.push_ideal_count.new.out.items in
    let tuples = c.args.tuples.now in
    two_pieces old first c.push_tuples.new.out.items (line (line_text (kind_line (Ideal tuples))))
    (flat_map (λ a. line (line_text (tuple_line a))) tuples)
    (c.in_ok-push_ideal_count.ensures
    ∙ ap (λ d. old ++ line (line_text (record { word = IdealWord; numbers = d ∷ []; fractions = [] }))) c.len.ensures)
    (c.in_ok-push_tuples.ensures
    ∙ ap (λ xs. first ++ flat_map (λ a. line (line_text (tuple_line a))) xs) c.as_slice.ensures)
    ∙ ap (λ t. old ++ t) (sym (ideal_spelled tuples))
