use Rattle.std.proofs.Common.{refl, sym, ◌∙◌, inl, append-nil, []}
use Rattle.spl_fraction.specs.Fractions.{field_of}
use Rattle.spl_evidence.specs.Line.{fractions_text}
use Rattle.spl_evidence.proofs.Readers.LineTerms.{words_are}
use Rattle.spl_evidence.proofs.terms.tuple_of.Goals as goal

pub returns-in-None : goal.returns-in-None
returns-in-None c =
    let none = rw c.in-None.is at c.in_ok-fractions_of.ensures in
    λ ts same forms e canonical. none ts [] same canonical (inl refl) (e ∙ sym (append-nil (fractions_text ts)))

pub returns-in-Some : goal.returns-in-Some
returns-in-Some c =
    let w = rw c.in-Some.is at c.in_ok-fractions_of.ensures in
    λ ts same forms e. (
      record { right_length = w.0; of_elements = w.1 },
      words_are (field_of c.args.f.now) ts c.in-Some.tuple c.in-Some.field-0-1.now (w.0 ∙ sym same) w.1 forms w.2
          (sym e ∙ w.3),
    )
