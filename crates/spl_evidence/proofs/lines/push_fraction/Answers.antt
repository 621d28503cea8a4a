use Rattle.std.proofs.Common.{◌∷◌, [], ◌++◌, ap, ◌∙◌}
use Rattle.spl_fraction.specs.CanonicalText.{canonical_text}
use Rattle.spl_fraction.proofs.CanonicalTexts.{text_words}
use Rattle.spl_evidence.proofs.Spellings.{two_pieces}
use Rattle.spl_evidence.proofs.lines.push_fraction.Goals as goal

pub returns : goal.returns
returns c =
    two_pieces c.args.out.now.items c.extend_from_slice.new.self.items c.write_fraction.new.out.items (32 ∷ [])
    (canonical_text c.args.x.now) c.in_ok-extend_from_slice.ensures.items c.in_ok-write_fraction.ensures.ok
    ∙ ap (λ t. c.args.out.now.items ++ (32 ∷ t)) (text_words c.args.x.now)
