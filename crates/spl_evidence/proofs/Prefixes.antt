-- Right lines that begin a text, and what follows them, are the same however they are told.
use Rattle.std.proofs.Common.{◌≡◌, ◌≢◌, ℕ, ◌*◌, List, [], ◌∷◌, ◌++◌, Option, refl, sym, ap₂, subst, ◌∙◌}
use Rattle.std.proofs.Common.{append_assoc}
use Rattle.spl_field.specs.declared.small.SmallField.{SmallField}
use Rattle.spl_field.specs.SmallField.{size_of}
use Rattle.spl_text.specs.Text.{line, Lacks}
use Rattle.spl_text.proofs.Words.{line_unique, not_within}
use Rattle.spl_evidence.specs.Line.{Line, line_text, lines_text, HasForm}
use Rattle.spl_evidence.specs.Refusal.{behind, NothingIsDue, IsInRange, IsInOrder, HasTerms, IsRight, AreRight}
use Rattle.spl_evidence.specs.Refusal.{behind_all, EndsEarly, IsNoLine, IsLineWith, LineFault}
use Rattle.spl_evidence.specs.declared.word.Before.{Before}
use Rattle.spl_evidence.specs.declared.refusal.EvidenceKind.{EvidenceKind}
use Rattle.spl_evidence.specs.declared.refusal.EvidenceKind.TheVariants.{EvHeader, EvNoEnd, EvForm, EvRange, EvOrder}
use Rattle.spl_evidence.specs.declared.refusal.EvidenceKind.TheVariants.{EvTerms, EvAfterEnd}
use Rattle.spl_evidence.proofs.LineTexts.{Lacks-line_text, line_text_unique}

-- a finished line stands there
no_line_within : (text after rest : List ℕ) → rest ≡ line text ++ after → Lacks 10 rest → ⊥
no_line_within text after rest e lacks =
    not_within 10 rest text after (e ∙ append_assoc text (10 ∷ []) after) lacks

module _ (f : SmallField) (n : ℕ) where
  same_line : (l k : Line) (x y rest : List ℕ) → HasForm (n * n) l → HasForm (n * n) k
      → rest ≡ line (line_text l) ++ x → rest ≡ line (line_text k) ++ y → (l ≡ k) × (x ≡ y)
  same_line l k x y rest h g e d =
      let cut = line_unique (line_text l) (line_text k) x y (Lacks-line_text (n * n) l h) (Lacks-line_text (n * n) k g)
      (sym e ∙ d) in
      (line_text_unique (n * n) l k h g cut.0, cut.1)

  -- no right line begins the rest
  abbrev pub Stops : Option Before → List ℕ → Type 0
  Stops before rest = (l : Line) (after : List ℕ) → IsRight f n before l → rest ≢ line (line_text l) ++ after

  pub Stops-nothing : (before : Option Before) (rest : List ℕ) → NothingIsDue (n * n) before → Stops before rest
  Stops-nothing before rest nothing l after right e = nothing l.word right.due

  no_such_line : (Fault : Line → Type 0) (before : Option Before) (rest : List ℕ)
      → ((l : Line) → IsRight f n before l → Fault l → ⊥) → IsLineWith f n Fault before rest → Stops before rest
  no_such_line Fault before rest right_has_none w l after right e =
      let same = same_line w.at l w.after after rest w.form right.form w.next e in
      right_has_none l right (subst Fault same.0 w.fault)

  pub Stops-fault : (before : Option Before) (rest : List ℕ) (kind : EvidenceKind) → LineFault f n before rest kind
      → Stops before rest
  Stops-fault before rest EvHeader w l after right e = w
  Stops-fault before rest EvNoEnd w l after right e = no_line_within (line_text l) after rest e w.unfinished
  Stops-fault before rest EvForm w l after right e =
      w.no_line l right.form right.due
      (line_unique w.text (line_text l) w.after after w.one_line (Lacks-line_text (n * n) l right.form)
      (sym w.next ∙ e)).0
  Stops-fault before rest EvRange w l after right e =
      no_such_line (λ l. IsInRange (size_of f) n l → ⊥) before rest (λ l r no. no r.range) w l after right e
  Stops-fault before rest EvOrder w l after right e =
      no_such_line (λ l. IsInRange (size_of f) n l × (IsInOrder n before l → ⊥)) before rest
      (λ l r no. no.1 r.order) w l after right e
  Stops-fault before rest EvTerms w l after right e =
      no_such_line (λ l. IsInRange (size_of f) n l × IsInOrder n before l × (HasTerms f l → ⊥)) before rest
      (λ l r no. no.2 r.terms) w l after right e
  Stops-fault before rest EvAfterEnd w l after right e = w.nothing l.word right.due

  -- ---- the lines before are the same

  pub same_lines : (before : Option Before) (xs ys : List Line) (r s : List ℕ) → AreRight f n before xs
      → AreRight f n before ys → Stops (behind_all f n before xs) r → Stops (behind_all f n before ys) s
      → lines_text xs ++ r ≡ lines_text ys ++ s → (xs ≡ ys) × (r ≡ s)
  same_lines before [] [] r s p q er es e = (refl, e)
  same_lines before [] (y ∷ ys) r s p q er es e =
      absurd (er y (lines_text ys ++ s) q.0 (e ∙ append_assoc (line (line_text y)) (lines_text ys) s))
  same_lines before (x ∷ xs) [] r s p q er es e =
      absurd (es x (lines_text xs ++ r) p.0 (sym e ∙ append_assoc (line (line_text x)) (lines_text xs) r))
  same_lines before (x ∷ xs) (y ∷ ys) r s p q er es e =
      let whole : line (line_text x) ++ (lines_text xs ++ r) ≡ line (line_text y) ++ (lines_text ys ++ s) =
      sym (append_assoc (line (line_text x)) (lines_text xs) r) ∙ e
      ∙ append_assoc (line (line_text y)) (lines_text ys) s in
      let same = same_line x y (lines_text xs ++ r) (lines_text ys ++ s) (line (line_text x) ++ (lines_text xs ++ r))
      p.0.form q.0.form refl whole in
      let back : AreRight f n (behind before x) ys = subst (λ l. AreRight f n (behind before l) ys) (sym same.0) q.1 in
      let stops : Stops (behind_all f n (behind before x) ys) s =
      subst (λ l. Stops (behind_all f n (behind before l) ys) s) (sym same.0) es in
      let more = same_lines (behind before x) xs ys r s p.1 back er stops same.1 in
      (ap₂ (λ a b. a ∷ b) same.0 more.0, more.1)

  -- ---- the line behind them has one fault

  module _ (before : Option Before) (rest : List ℕ) where
    range : Line → Type 0
    range l = IsInRange (size_of f) n l

    order : Line → Type 0
    order l = IsInOrder n before l

    -- where a line ends early there is none
    early : (F : Line → Type 0) → EndsEarly f n before rest → IsLineWith f n F before rest → ⊥
    early F a b = no_line_within (line_text b.at) b.after rest b.next a.unfinished

    early_no_line : EndsEarly f n before rest → IsNoLine f n before rest → ⊥
    early_no_line a b = no_line_within b.text b.after rest b.next a.unfinished

    -- a line that is due is one
    a_line : (F : Line → Type 0) → IsNoLine f n before rest → IsLineWith f n F before rest → ⊥
    a_line F a b =
        a.no_line b.at b.form b.due
        (line_unique a.text (line_text b.at) a.after b.after a.one_line (Lacks-line_text (n * n) b.at b.form)
        (sym a.next ∙ b.next)).0

    -- faults of one line that exclude each other
    other : (F G : Line → Type 0) → ((l : Line) → F l → G l → ⊥) → IsLineWith f n F before rest
        → IsLineWith f n G before rest → ⊥
    other F G apart a b =
        let same = same_line a.at b.at a.after b.after rest a.form b.form a.next b.next in
        apart b.at (subst F same.0 a.fault) b.fault

    unordered : Line → Type 0
    unordered l = IsInRange (size_of f) n l × (IsInOrder n before l → ⊥)

    untermed : Line → Type 0
    untermed l = IsInRange (size_of f) n l × IsInOrder n before l × (HasTerms f l → ⊥)

    outside : Line → Type 0
    outside l = IsInRange (size_of f) n l → ⊥

    pub fault_unique : (a b : EvidenceKind) → LineFault f n before rest a → LineFault f n before rest b → a ≡ b
    unfolding unordered untermed outside
    fault_unique EvHeader b v w = absurd v
    fault_unique a EvHeader v w = absurd w
    fault_unique EvNoEnd EvNoEnd v w = refl
    fault_unique EvForm EvForm v w = refl
    fault_unique EvRange EvRange v w = refl
    fault_unique EvOrder EvOrder v w = refl
    fault_unique EvTerms EvTerms v w = refl
    fault_unique EvAfterEnd EvAfterEnd v w = refl
    fault_unique EvNoEnd EvForm v w = absurd (early_no_line v w)
    fault_unique EvForm EvNoEnd v w = absurd (early_no_line w v)
    fault_unique EvNoEnd EvRange v w = absurd (early outside v w)
    fault_unique EvRange EvNoEnd v w = absurd (early outside w v)
    fault_unique EvNoEnd EvOrder v w = absurd (early unordered v w)
    fault_unique EvOrder EvNoEnd v w = absurd (early unordered w v)
    fault_unique EvNoEnd EvTerms v w = absurd (early untermed v w)
    fault_unique EvTerms EvNoEnd v w = absurd (early untermed w v)
    fault_unique EvForm EvRange v w = absurd (a_line outside v w)
    fault_unique EvRange EvForm v w = absurd (a_line outside w v)
    fault_unique EvForm EvOrder v w = absurd (a_line unordered v w)
    fault_unique EvOrder EvForm v w = absurd (a_line unordered w v)
    fault_unique EvForm EvTerms v w = absurd (a_line untermed v w)
    fault_unique EvTerms EvForm v w = absurd (a_line untermed w v)
    fault_unique EvRange EvOrder v w = absurd (other outside unordered (λ l p q. p q.0) v w)
    fault_unique EvOrder EvRange v w = absurd (other outside unordered (λ l p q. p q.0) w v)
    fault_unique EvRange EvTerms v w = absurd (other outside untermed (λ l p q. p q.0) v w)
    fault_unique EvTerms EvRange v w = absurd (other outside untermed (λ l p q. p q.0) w v)
    fault_unique EvOrder EvTerms v w = absurd (other unordered untermed (λ l p q. p.1 q.1) v w)
    fault_unique EvTerms EvOrder v w = absurd (other unordered untermed (λ l p q. p.1 q.1) w v)
    fault_unique EvAfterEnd EvNoEnd v w = absurd (v.nothing w.word w.due)
    fault_unique EvNoEnd EvAfterEnd v w = absurd (w.nothing v.word v.due)
    fault_unique EvAfterEnd EvForm v w = absurd (v.nothing w.word w.due)
    fault_unique EvForm EvAfterEnd v w = absurd (w.nothing v.word v.due)
    fault_unique EvAfterEnd EvRange v w = absurd (v.nothing w.at.word w.due)
    fault_unique EvRange EvAfterEnd v w = absurd (w.nothing v.at.word v.due)
    fault_unique EvAfterEnd EvOrder v w = absurd (v.nothing w.at.word w.due)
    fault_unique EvOrder EvAfterEnd v w = absurd (w.nothing v.at.word v.due)
    fault_unique EvAfterEnd EvTerms v w = absurd (v.nothing w.at.word w.due)
    fault_unique EvTerms EvAfterEnd v w = absurd (w.nothing v.at.word v.due)

    -- and none where nothing is due, and nothing follows
    pub no_fault : (kind : EvidenceKind) → NothingIsDue (n * n) before → rest ≡ [] → LineFault f n before rest kind → ⊥
    no_fault EvHeader nothing e w = w
    no_fault EvNoEnd nothing e w = nothing w.word w.due
    no_fault EvForm nothing e w = nothing w.word w.due
    no_fault EvRange nothing e w = nothing w.at.word w.due
    no_fault EvOrder nothing e w = nothing w.at.word w.due
    no_fault EvTerms nothing e w = nothing w.at.word w.due
    no_fault EvAfterEnd nothing e w = w.some e
