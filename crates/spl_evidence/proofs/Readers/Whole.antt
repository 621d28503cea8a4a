-- What was read of a whole text.
use Rattle.std.proofs.Common.{◌≡◌, ◌⊎◌, ℕ, ◌+◌, ◌*◌, List, ◌++◌, None, refl, sym, ap, ◌∙◌, inl, inr}
use Rattle.std.specs.Prelude.{Result, Ok, Err, IfOk, IfErr}
use Rattle.theory_rings.specs.Ops.{Ops}
use Rattle.theory_fractions.specs.Fraction.{Pair}
use Rattle.spl_field.specs.declared.small.SmallField.{SmallField}
use Rattle.spl_text.specs.Text.{IsNumber}
use Rattle.spl_fraction.specs.FractionsOver.{fractions_over}
use Rattle.spl_evidence.specs.Line.{lines_text}
use Rattle.spl_evidence.specs.Evidence.{Fits, first_line, lines_of, IsEvidenceText}
use Rattle.spl_evidence.specs.Refusal.{IsFaultBehind, IsFirstFault, IsRefusal}
use Rattle.spl_evidence.specs.Reading.{IfRefused}
use Rattle.spl_evidence.specs.declared.evidence.Evidence.{Evidence}
use Rattle.spl_evidence.specs.declared.refusal.EvidenceRefusal.{EvidenceRefusal}
use Rattle.spl_evidence.specs.declared.refusal.EvidenceKind.{EvidenceKind}
use Rattle.spl_evidence.specs.declared.refusal.EvidenceKind.TheVariants.{EvHeader, EvNoEnd, EvForm, EvRange, EvOrder}
use Rattle.spl_evidence.specs.declared.refusal.EvidenceKind.TheVariants.{EvTerms, EvAfterEnd}
use Rattle.spl_evidence.specs.declared.refusal.EvidenceFault.{EvidenceFault}
use Rattle.spl_evidence.specs.declared.refusal.EvidenceFault.TheVariants.{Refused, Memory}
use Rattle.spl_evidence.proofs.TextLaws.{evidence_unique, not_both}

module _ (f : SmallField) (n : ℕ) where
  abbrev K : Ops (Pair ℕ)
  K = fractions_over f

  module _ (first : ℕ) (bytes rest : List ℕ) (cut : bytes ≡ first_line ++ rest) where
    pub text_of_lines : (e : Evidence) → Fits K n e × (rest ≡ lines_text (lines_of n e)) → IsEvidenceText K n bytes e
    text_of_lines e h = record { fits = h.0; spelled = cut ∙ ap (λ t. first_line ++ t) h.1 }

    pub first_fault : (at : ℕ) (kind : EvidenceKind) → IsFaultBehind f n None (first + 1) rest at kind
        → IsFirstFault f n first bytes at kind
    first_fault at EvHeader h = absurd h.fault
    first_fault at EvNoEnd h = record { rest = rest; spelled = cut; fault = h }
    first_fault at EvForm h = record { rest = rest; spelled = cut; fault = h }
    first_fault at EvRange h = record { rest = rest; spelled = cut; fault = h }
    first_fault at EvOrder h = record { rest = rest; spelled = cut; fault = h }
    first_fault at EvTerms h = record { rest = rest; spelled = cut; fault = h }
    first_fault at EvAfterEnd h = record { rest = rest; spelled = cut; fault = h }

    pub refusal_of_lines : (r : Result Evidence EvidenceFault)
        → IfErr r (λ e. IfRefused e (IsFaultBehind f n None (first + 1) rest)) → (refusal : EvidenceRefusal)
        → r ≡ Err (Refused refusal) → IsRefusal f n first bytes refusal
    refusal_of_lines (Ok e) h refusal same = absurd cc
    refusal_of_lines (Err Memory) h refusal same = absurd cc
    refusal_of_lines (Err (Refused s)) h refusal same =
        let is : s ≡ refusal = cc in
        rw (sym is) (first_fault s.line s.kind h)

  -- the text of evidence is read as that, but for want of memory
  pub each_read : IsNumber (n * n) → (first : ℕ) (bytes : List ℕ) (r : Result Evidence EvidenceFault)
      → IfOk r (IsEvidenceText K n bytes)
      → ((refusal : EvidenceRefusal) → r ≡ Err (Refused refusal) → IsRefusal f n first bytes refusal)
      → (e : Evidence) → IsEvidenceText K n bytes e → (r ≡ Ok e) ⊎ (r ≡ Err Memory)
  each_read few first bytes (Ok g) ok refused e h =
      inl (ap (λ (x : Evidence). Ok x) (evidence_unique f n few bytes g e ok h))
  each_read few first bytes (Err Memory) ok refused e h = inr refl
  each_read few first bytes (Err (Refused refusal)) ok refused e h =
      absurd (not_both f n few bytes first e refusal h (refused refusal refl))
