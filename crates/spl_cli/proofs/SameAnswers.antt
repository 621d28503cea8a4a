-- What `check` answers to an input is the same whichever table the text in front is read as: two tables of one text
-- have the same operations, degree and constants.
use Rattle.std.specs.Prelude.{◌≡◌, ◌⊎◌, ℕ, ◌+◌, ◌*◌, ◌≤◌, ◌^◌, List, length}
use Rattle.std.proofs.Common.{inl, inr, ⊎_elim, sym, ◌∙◌, ap, ap₂, subst, arith}
use Rattle.std.proofs.Math.Nat.{mul-le-mul}
use Rattle.theory_rings.specs.Ops.{Ops}
use Rattle.theory_fractions.specs.Fraction.{Pair}
use Rattle.theory_tables.specs.Structure.{Structure, IsOver}
use Rattle.spl_field.specs.SmallField.{size_of as elements_of, characteristic, modulus_of}
use Rattle.spl_field.specs.declared.small.SmallField.{SmallField}
use Rattle.spl_text.specs.Text.{IsNumber}
use Rattle.spl_table.specs.TableText.{TableText, line_of_end}
use Rattle.spl_table.specs.Table.{field_of, degree_of, algebra_of, ops_of, IsTableOf, HasSameAlgebra}
use Rattle.spl_table.specs.Refusal.{front, IsRefusal}
use Rattle.spl_table.specs.declared.table.Table.{Table}
use Rattle.spl_table.specs.declared.refusal.Refusal.{Refusal}
use Rattle.spl_table.proofs.OneRefusal.{refusal_unique as table_refusal_unique}
use Rattle.spl_table.proofs.TextLaws.{table_unique, no_table_fault}
use Rattle.spl_table.proofs.Agreement.Tables.{tables_agree}
use Rattle.spl_evidence.specs.Claim.{Claim}
use Rattle.spl_evidence.specs.Evidence.{IsEvidenceText}
use Rattle.spl_evidence.specs.Refusal.{IsRefusal as IsRefusalOfEvidence}
use Rattle.spl_evidence.specs.declared.evidence.Evidence.{Evidence}
use Rattle.spl_evidence.specs.declared.refusal.EvidenceRefusal.{EvidenceRefusal}
use Rattle.spl_evidence.proofs.SameFractions.{refusal_same}
use Rattle.spl_evidence.proofs.TextLaws.{evidence_unique, not_both, refusal_unique}
use Rattle.spl_check.specs.Verdict.{AllHold, FailsFirst, conditions}
use Rattle.spl_check.specs.declared.verdict.Verdict.TheVariants.{No}
use Rattle.spl_check.proofs.SameConditions.{all_same, fails_same}
use Rattle.spl_check.proofs.Verdicts.{claim_of_all, all_of_claim, verdict_claim, first_unique}
use Rattle.spl_cli.specs.Report.{StandsInFront, IsTableAndEvidence, SaysYes, SaysNo, IsTooLong, IsTableRefused}
use Rattle.spl_cli.specs.Report.{IsEvidenceRefused, IsCheckRefused, refusal_text, evidence_refusal_text, no_text}

-- a degree is small
few : (T : Table) → IsNumber (degree_of T * degree_of T)
few T = let most : T.degree * T.degree ≤ 5 * 5 = mul-le-mul T.degree_high T.degree_high in omega (arith, most)

module _ (input : List ℕ) (T U : Table) (a : StandsInFront input T) (b : StandsInFront input U) where
  texts : (a.text ≡ b.text) × (a.rest ≡ b.rest)
  texts = table_unique front input a.text b.text a.rest b.rest a.is_text b.is_text

  agree : HasSameAlgebra T U
  agree =
      let is = a.is_text in
      tables_agree a.text is.well_formed T U a.is_table
      (subst (λ (t : TableText). IsTableOf t U) (sym texts.0) b.is_table)

  same_rest : a.rest ≡ b.rest
  same_rest = texts.1

  same_line : line_of_end a.text ≡ line_of_end b.text
  same_line = ap line_of_end texts.0

  -- what holds of the operations, the algebra and the degree of the one table and of what follows it holds of the other
  over : (P : Ops (Pair ℕ) → Structure (Pair ℕ) → ℕ → List ℕ → Type 0)
      → P (ops_of T) (algebra_of T) (degree_of T) a.rest → P (ops_of U) (algebra_of U) (degree_of U) b.rest
  over P h =
      subst (P (ops_of U) (algebra_of U) (degree_of U)) same_rest
      (subst (λ n. P (ops_of U) (algebra_of U) n a.rest) agree.degree
      (subst (λ (A : Structure (Pair ℕ)). P (ops_of U) A (degree_of T) a.rest) agree.algebra
      (subst (λ (o : Ops (Pair ℕ)). P o (algebra_of T) (degree_of T) a.rest) agree.operations h)))

  -- so does what holds of the field, where it holds of each by the same numbers
  over_field : (P : SmallField → Structure (Pair ℕ) → ℕ → Type 0)
      → ((f g : SmallField) (A : Structure (Pair ℕ)) (n : ℕ) → characteristic f ≡ characteristic g
      → modulus_of f ≡ modulus_of g → P f A n → P g A n)
      → P (field_of T) (algebra_of T) (degree_of T) → P (field_of U) (algebra_of U) (degree_of U)
  over_field P same h =
      subst (P (field_of U) (algebra_of U)) agree.degree
      (subst (λ (A : Structure (Pair ℕ)). P (field_of U) A (degree_of T)) agree.algebra
      (same (field_of T) (field_of U) (algebra_of T) (degree_of T) agree.characteristic agree.modulus h))

  elements : elements_of (field_of T) ≡ elements_of (field_of U)
  elements =
      let f : SmallField = field_of T in
      let g : SmallField = field_of U in
      f.power ∙ ap₂ (λ p m. p ^ length m) agree.characteristic agree.modulus ∙ sym g.power

  -- the text behind the table is that of one evidence
  one_evidence : (e g : Evidence) → IsEvidenceText (ops_of T) (degree_of T) a.rest e
      → IsEvidenceText (ops_of U) (degree_of U) b.rest g → e ≡ g
  one_evidence e g is_e is_g =
      evidence_unique (field_of U) (degree_of U) (few U) b.rest e g (over (λ o A n r. IsEvidenceText o n r e) is_e) is_g

  -- a refusal over the one field is one over the other
  refusal_over : (r : EvidenceRefusal)
      → IsRefusalOfEvidence (field_of T) (degree_of T) (line_of_end a.text + 1) a.rest r
      → IsRefusalOfEvidence (field_of U) (degree_of U) (line_of_end b.text + 1) b.rest r
  refusal_over r h =
      let f : SmallField = field_of U in
      subst (λ t. IsRefusalOfEvidence f (degree_of U) (line_of_end b.text + 1) t r) same_rest
      (subst (λ l. IsRefusalOfEvidence f (degree_of U) (l + 1) a.rest r) same_line
      (subst (λ n. IsRefusalOfEvidence f n (line_of_end a.text + 1) a.rest r) agree.degree
      (refusal_same (field_of T) f (degree_of T) elements agree.operations (line_of_end a.text + 1) a.rest r h)))

  -- evidence is not refused
  not_refused : (e : Evidence) (r : EvidenceRefusal) → IsEvidenceText (ops_of U) (degree_of U) b.rest e
      → IsRefusalOfEvidence (field_of T) (degree_of T) (line_of_end a.text + 1) a.rest r → ⊥
  not_refused e r is h =
      not_both (field_of U) (degree_of U) (few U) b.rest (line_of_end b.text + 1) e r is (refusal_over r h)

  one_refusal : (r s : EvidenceRefusal)
      → IsRefusalOfEvidence (field_of T) (degree_of T) (line_of_end a.text + 1) a.rest r
      → IsRefusalOfEvidence (field_of U) (degree_of U) (line_of_end b.text + 1) b.rest s → r ≡ s
  one_refusal r s h k =
      refusal_unique (field_of U) (degree_of U) (few U) b.rest (line_of_end b.text + 1) r s (refusal_over r h) k

-- a refused table is none
table_refused : (input : List ℕ) (U : Table) (b : StandsInFront input U) (r : Refusal) → IsRefusal front input r → ⊥
table_refused input U b r h = no_table_fault front input b.text b.rest b.is_text r h

pub over_of : (U : Table) → IsOver (ops_of U) (algebra_of U)
over_of U = record { right_length = U.count; of_elements = U.over }

module _ (input : List ℕ) (T U : Table) (e g : Evidence) (x : IsTableAndEvidence input T e)
    (y : IsTableAndEvidence input U g) where
  same_evidence : e ≡ g
  same_evidence = one_evidence input T U x.stands y.stands e g x.is_evidence y.is_evidence

  -- what is claimed of the one table is claimed of the other
  pub claim_over : Claim (field_of T) (algebra_of T) (degree_of T) e → Claim (field_of U) (algebra_of U) (degree_of U) g
  claim_over h =
      let text = y.is_evidence in
      claim_of_all (field_of U) (algebra_of U) (over_of U) (degree_of U) g U.dim text.fits
      (subst (λ (z : Evidence). AllHold (conditions (field_of U) (algebra_of U) (degree_of U) z)) same_evidence
      (over_field input T U x.stands y.stands (λ f A n. AllHold (conditions f A n e))
      (λ f g A n p m. all_same f g p m A n e)
      (all_of_claim (field_of T) (algebra_of T) (over_of T) (degree_of T) e h)))

  pub fails_over : (c : ℕ) → FailsFirst (conditions (field_of T) (algebra_of T) (degree_of T) e) c
      → FailsFirst (conditions (field_of U) (algebra_of U) (degree_of U) g) c
  fails_over c h =
      subst (λ (z : Evidence). FailsFirst (conditions (field_of U) (algebra_of U) (degree_of U) z) c) same_evidence
      (over_field input T U x.stands y.stands (λ f A n. FailsFirst (conditions f A n e) c)
      (λ f g A n p m. fails_same f g p m A n e c) h)

-- where a condition fails, the claim does
pub fails_claim : (input : List ℕ) (U : Table) (g : Evidence) → IsTableAndEvidence input U g → (c : ℕ)
    → FailsFirst (conditions (field_of U) (algebra_of U) (degree_of U) g) c
    → Claim (field_of U) (algebra_of U) (degree_of U) g → ⊥
fails_claim input U g y c fails claim =
    let text = y.is_evidence in
    let yes = (verdict_claim (field_of U) (algebra_of U) (over_of U) (degree_of U) g U.dim text.fits (No c) fails).1 claim in
    absurd (cc)

pub yes_or_no : (input bytes bytes' : List ℕ) → SaysYes input bytes → SaysNo input bytes' → ⊥
yes_or_no input bytes bytes' y n =
    fails_claim input n.table n.evidence n.read n.condition n.fails
    (claim_over input y.table n.table y.evidence n.evidence y.read n.read y.claim)

pub one_condition : (input bytes bytes' : List ℕ) → SaysNo input bytes → SaysNo input bytes' → bytes ≡ bytes'
one_condition input bytes bytes' n m =
    n.report
    ∙ ap no_text (first_unique (conditions (field_of m.table) (algebra_of m.table) (degree_of m.table) m.evidence)
    n.condition m.condition
    (fails_over input n.table m.table n.evidence m.evidence n.read m.read n.condition n.fails) m.fails)
    ∙ sym m.report

-- a table and evidence that are read are not refused
pub read_or_refused : (input bytes : List ℕ) (T : Table) (e : Evidence) → IsTableAndEvidence input T e
    → IsCheckRefused input bytes → ⊥
read_or_refused input bytes T e x r = ⊎_elim
    (λ (t : IsTooLong input bytes). let s = x.stands in omega (arith, t.long, s.within))
    (λ (t : IsTableRefused input bytes ⊎ IsEvidenceRefused input bytes). ⊎_elim
    (λ (u : IsTableRefused input bytes). table_refused input T x.stands u.refusal u.cause)
    (λ (u : IsEvidenceRefused input bytes).
    not_refused input u.table T u.stands x.stands e u.refusal x.is_evidence u.cause)
    t)
    r

-- the refusal of an input of `check` is one
pub one_check_refusal : (input bytes bytes' : List ℕ) → IsCheckRefused input bytes → IsCheckRefused input bytes'
    → bytes ≡ bytes'
one_check_refusal input bytes bytes' (inl a) (inl b) = a.report ∙ sym b.report
one_check_refusal input bytes bytes' (inl a) (inr (inl b)) = absurd (omega (arith, a.long, b.within))
one_check_refusal input bytes bytes' (inl a) (inr (inr b)) =
    let s = b.stands in absurd (omega (arith, a.long, s.within))
one_check_refusal input bytes bytes' (inr (inl a)) (inl b) = absurd (omega (arith, b.long, a.within))
one_check_refusal input bytes bytes' (inr (inr a)) (inl b) =
    let s = a.stands in absurd (omega (arith, b.long, s.within))
one_check_refusal input bytes bytes' (inr (inl a)) (inr (inl b)) =
    a.report ∙ ap refusal_text (table_refusal_unique input front a.refusal b.refusal a.cause b.cause) ∙ sym b.report
one_check_refusal input bytes bytes' (inr (inl a)) (inr (inr b)) =
    absurd (table_refused input b.table b.stands a.refusal a.cause)
one_check_refusal input bytes bytes' (inr (inr a)) (inr (inl b)) =
    absurd (table_refused input a.table a.stands b.refusal b.cause)
one_check_refusal input bytes bytes' (inr (inr a)) (inr (inr b)) =
    a.report ∙ ap evidence_refusal_text
    (one_refusal input a.table b.table a.stands b.stands a.refusal b.refusal a.cause b.cause) ∙ sym b.report
