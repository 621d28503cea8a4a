use Rattle.std.proofs.Common.{◌∷◌, ◌++◌, sym, ap, ◌∙◌}
use Rattle.std.specs.Prelude.{codes}
use Rattle.spl_text.specs.Text.{line}
use Rattle.spl_fraction.specs.Fractions.{field_of}
use Rattle.spl_fraction.specs.FractionsOver.{fractions_over}
use Rattle.spl_evidence.specs.Line.{lines_text}
use Rattle.spl_evidence.specs.Evidence.{kind_line, body_lines, IsEvidenceText}
use Rattle.spl_evidence.proofs.Spellings.{evidence_spelled}
use Rattle.spl_evidence.proofs.writing.write_evidence.Goals as goal

pub returns-clause-text : goal.returns-clause-text
returns-clause-text c =
    let n = c.args.n in
    let e = c.args.e.now in
    record {
      fits = c.requires.fits;
      spelled = c.in_ok-extend_from_slice.ensures.items
          ∙ ap (λ t. t ++ line (codes "end")) (c.in_ok-push_body.ensures
          ∙ ap (λ t. t ++ lines_text (kind_line e ∷ body_lines n e)) c.in_ok-text.ensures.items)
          ∙ evidence_spelled n e;
    }

pub returns-clause-again : goal.returns-clause-again
returns-clause-again c =
    let written : IsEvidenceText (fractions_over (field_of c.args.f.now)) c.args.n c.extend_from_slice.new.self.items
    c.args.e.now = returns-clause-text c in
    λ bytes h. written.spelled ∙ sym h.spelled
