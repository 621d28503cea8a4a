-- A text is that of at most one evidence, or has at most one refusal, and never both.
use Rattle.std.proofs.Common.{◌≡◌, ◌⊎◌, ℕ, ◌+◌, ◌*◌, List, [], ◌++◌, length, None, refl, sym, ap, subst, ◌∙◌, inl}
use Rattle.std.proofs.Common.{inr, append-nil}
use Rattle.std.proofs.lemmas.List.{append_cancel_left}
use Rattle.theory_rings.specs.Ops.{Ops}
use Rattle.theory_fractions.specs.Fraction.{Pair}
use Rattle.spl_field.specs.declared.small.SmallField.{SmallField}
use Rattle.spl_text.specs.Text.{IsNumber}
use Rattle.spl_fraction.specs.FractionsOver.{fractions_over}
use Rattle.spl_evidence.specs.Line.{lines_text}
use Rattle.spl_evidence.specs.Evidence.{first_line, lines_of, IsEvidenceText}
use Rattle.spl_evidence.specs.Refusal.{NothingIsDue, behind_all, LineFault, LacksFirst}
use Rattle.spl_evidence.specs.Refusal.{IsFaultOfLines, IsFirstFault, IsRefusal}
use Rattle.spl_evidence.specs.declared.evidence.Evidence.{Evidence}
use Rattle.spl_evidence.specs.declared.refusal.EvidenceRefusal.{EvidenceRefusal}
use Rattle.spl_evidence.specs.declared.refusal.EvidenceKind.{EvidenceKind}
use Rattle.spl_evidence.specs.declared.refusal.EvidenceKind.TheVariants.{EvHeader, EvNoEnd, EvForm, EvRange, EvOrder}
use Rattle.spl_evidence.specs.declared.refusal.EvidenceKind.TheVariants.{EvTerms, EvAfterEnd}
use Rattle.spl_evidence.proofs.Prefixes.{Stops-nothing, Stops-fault, same_lines, fault_unique, no_fault}
use Rattle.spl_evidence.proofs.RightLines.EvidenceLines.{lines_whole}
use Rattle.spl_evidence.proofs.SameEvidence.{same_evidence}

module _ (f : SmallField) (n : ℕ) where
  abbrev K : Ops (Pair ℕ)
  K = fractions_over f

  module _ (few : IsNumber (n * n)) (bytes : List ℕ) where
    pub evidence_unique : (e g : Evidence) → IsEvidenceText K n bytes e → IsEvidenceText K n bytes g → e ≡ g
    evidence_unique e g h q =
        let w = lines_whole f n few e h.fits in
        let v = lines_whole f n few g q.fits in
        let same : lines_text (lines_of n e) ≡ lines_text (lines_of n g) =
        append_cancel_left first_line (lines_text (lines_of n e)) (lines_text (lines_of n g))
        (sym h.spelled ∙ q.spelled) in
        same_evidence f n few e g h.fits q.fits
        (same_lines f n None (lines_of n e) (lines_of n g) [] [] w.0 v.0
        (Stops-nothing f n (behind_all f n None (lines_of n e)) [] w.1)
        (Stops-nothing f n (behind_all f n None (lines_of n g)) [] v.1)
        (append-nil (lines_text (lines_of n e)) ∙ same ∙ sym (append-nil (lines_text (lines_of n g))))).0

    -- a refusal is of the first line or of one behind it
    which : (first at : ℕ) (kind : EvidenceKind) → IsFirstFault f n first bytes at kind
        → ((kind ≡ EvHeader) × LacksFirst f n first bytes at) ⊎ IsFaultOfLines f n first bytes at kind
    which first at EvHeader w = inl (refl, w)
    which first at EvNoEnd w = inr w
    which first at EvForm w = inr w
    which first at EvRange w = inr w
    which first at EvOrder w = inr w
    which first at EvTerms w = inr w
    which first at EvAfterEnd w = inr w

    pub not_both : (first : ℕ) (e : Evidence) (r : EvidenceRefusal) → IsEvidenceText K n bytes e
        → IsRefusal f n first bytes r → ⊥
    not_both first e r h refused = go (which first r.line r.kind refused)
      where
        go : ((r.kind ≡ EvHeader) × LacksFirst f n first bytes r.line) ⊎ IsFaultOfLines f n first bytes r.line r.kind
            → ⊥
        go (inl w) = let lacks : LacksFirst f n first bytes r.line = w.1 in
            lacks.lacks (lines_text (lines_of n e)) h.spelled
        go (inr w) =
            let b = w.fault in
            let whole = lines_whole f n few e h.fits in
            let rest : lines_text (lines_of n e) ≡ lines_text b.lines ++ b.rest =
            append_cancel_left first_line (lines_text (lines_of n e)) w.rest (sym h.spelled ∙ w.spelled) ∙ b.spelled in
            let same = same_lines f n None (lines_of n e) b.lines [] b.rest whole.0 b.right
            (Stops-nothing f n (behind_all f n None (lines_of n e)) [] whole.1)
            (Stops-fault f n (behind_all f n None b.lines) b.rest r.kind b.fault)
            (append-nil (lines_text (lines_of n e)) ∙ rest) in
            let nothing : NothingIsDue (n * n) (behind_all f n None b.lines) =
            subst (λ ls. NothingIsDue (n * n) (behind_all f n None ls)) same.0 whole.1 in
            no_fault f n (behind_all f n None b.lines) b.rest r.kind nothing (sym same.1) b.fault

    -- one refusal is the other
    refusal_path : (a b : ℕ) (k l : EvidenceKind) → a ≡ b → k ≡ l
        → ◌≡◌ {A = EvidenceRefusal} (record { line = a; kind = k }) (record { line = b; kind = l })
    refusal_path a b k l p q = cc (p, q)

    of_lines : (first a b : ℕ) (k l : EvidenceKind) → IsFaultOfLines f n first bytes a k
        → IsFaultOfLines f n first bytes b l → (a ≡ b) × (k ≡ l)
    of_lines first a b k l v w =
        let x = v.fault in
        let y = w.fault in
        let rest : v.rest ≡ w.rest = append_cancel_left first_line v.rest w.rest (sym v.spelled ∙ w.spelled) in
        let same = same_lines f n None x.lines y.lines x.rest y.rest x.right y.right
        (Stops-fault f n (behind_all f n None x.lines) x.rest k x.fault)
        (Stops-fault f n (behind_all f n None y.lines) y.rest l y.fault)
        (sym x.spelled ∙ rest ∙ y.spelled) in
        let back : LineFault f n (behind_all f n None x.lines) x.rest l =
        subst (λ ls. LineFault f n (behind_all f n None ls) x.rest l) (sym same.0)
        (subst (λ t. LineFault f n (behind_all f n None y.lines) t l) (sym same.1) y.fault) in (
          x.at_line ∙ ap (λ ls. first + 1 + length ls) same.0 ∙ sym y.at_line,
          fault_unique f n (behind_all f n None x.lines) x.rest k l x.fault back,
        )

    pub refusal_unique : (first : ℕ) (r s : EvidenceRefusal) → IsRefusal f n first bytes r
        → IsRefusal f n first bytes s → r ≡ s
    refusal_unique first r s v w = go (which first r.line r.kind v) (which first s.line s.kind w)
      where
        go : ((r.kind ≡ EvHeader) × LacksFirst f n first bytes r.line) ⊎ IsFaultOfLines f n first bytes r.line r.kind
            → ((s.kind ≡ EvHeader) × LacksFirst f n first bytes s.line) ⊎ IsFaultOfLines f n first bytes s.line s.kind
            → r ≡ s
        go (inl x) (inl y) =
            let a : LacksFirst f n first bytes r.line = x.1 in
            let b : LacksFirst f n first bytes s.line = y.1 in
            refusal_path r.line s.line r.kind s.kind (a.at_line ∙ sym b.at_line) (x.0 ∙ sym y.0)
        go (inl x) (inr y) = let a : LacksFirst f n first bytes r.line = x.1 in absurd (a.lacks y.rest y.spelled)
        go (inr x) (inl y) = let b : LacksFirst f n first bytes s.line = y.1 in absurd (b.lacks x.rest x.spelled)
        go (inr x) (inr y) =
            let same = of_lines first r.line s.line r.kind s.kind x y in
            refusal_path r.line s.line r.kind s.kind same.0 same.1
