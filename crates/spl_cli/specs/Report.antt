-- What a run reports: the status, and all the bytes that are written.
use Rattle.std.specs.Prelude.{◌≡◌, ◌⊎◌, ℕ, ◌+◌, ◌<◌, ◌≤◌, List, [], ◌++◌, length, codes, decimal, Some, None}
use Rattle.spl_table.specs.TableText.{TableText, line_of_end}
use Rattle.spl_table.specs.Table.{field_of, degree_of, algebra_of, ops_of, IsTableOf}
use Rattle.spl_table.specs.Refusal.{whole, front, front_limit, IsTableText, IsRefusal}
use Rattle.spl_table.specs.declared.table.Table.{Table}
use Rattle.spl_table.specs.declared.refusal.Refusal.{Refusal}
use Rattle.spl_table.specs.declared.refusal.Kind.{Kind}
use Rattle.spl_table.specs.declared.refusal.Kind.TheVariants.{TooLong, NotText, Header, FieldSize, FieldLaw, Degree}
use Rattle.spl_table.specs.declared.refusal.Kind.TheVariants.{Characteristic, EntryForm, EntryRange, EntryOrder}
use Rattle.spl_table.specs.declared.refusal.Kind.TheVariants.{ZeroDenominator, PolyDegree, NoEnd, AfterEnd, NotBuilt}
use Rattle.spl_evidence.specs.Claim.{Claim}
use Rattle.spl_evidence.specs.Evidence.{IsEvidenceText}
use Rattle.spl_evidence.specs.Refusal.{IsRefusal as IsRefusalOfEvidence}
use Rattle.spl_evidence.specs.declared.evidence.Evidence.{Evidence}
use Rattle.spl_evidence.specs.declared.refusal.EvidenceRefusal.{EvidenceRefusal}
use Rattle.spl_evidence.specs.declared.refusal.EvidenceKind.{EvidenceKind}
use Rattle.spl_evidence.specs.declared.refusal.EvidenceKind.TheVariants.{EvHeader, EvNoEnd, EvForm, EvRange, EvOrder}
use Rattle.spl_evidence.specs.declared.refusal.EvidenceKind.TheVariants.{EvTerms, EvAfterEnd}
use Rattle.spl_engine.specs.Kind.{IsEvidence, HasUnimodularOrders}
use Rattle.spl_check.specs.Verdict.{FailsFirst, conditions}
use Rattle.spl_cli.specs.declared.status.Status.{Status}
use Rattle.spl_cli.specs.declared.status.Status.TheVariants.{Done, No, Usage, Refused, ReadFault, WriteFault, Memory}
use Rattle.spl_cli.specs.declared.words.Form.{Form}
use Rattle.spl_cli.specs.declared.words.Form.TheVariants.{Decide, Check}
use Rattle.spl_cli.specs.Forms.{form_of, usage_text}

-- the name of a kind of refusal
abbrev pub kind_name : Kind → List ℕ
kind_name TooLong = codes "TooLong"
kind_name NotText = codes "NotText"
kind_name Header = codes "Header"
kind_name FieldSize = codes "FieldSize"
kind_name (FieldLaw element) = codes "FieldLaw"
kind_name Degree = codes "Degree"
kind_name Characteristic = codes "Characteristic"
kind_name EntryForm = codes "EntryForm"
kind_name EntryRange = codes "EntryRange"
kind_name EntryOrder = codes "EntryOrder"
kind_name ZeroDenominator = codes "ZeroDenominator"
kind_name PolyDegree = codes "PolyDegree"
kind_name NoEnd = codes "NoEnd"
kind_name AfterEnd = codes "AfterEnd"
kind_name NotBuilt = codes "NotBuilt"

-- after the name of a failed law of fields, the first element without inverse
abbrev pub element_text : Kind → List ℕ
element_text (FieldLaw element) = codes " " ++ decimal element
element_text _ = []

-- the name of a kind of refusal of evidence
abbrev pub evidence_kind_name : EvidenceKind → List ℕ
evidence_kind_name EvHeader = codes "EvHeader"
evidence_kind_name EvNoEnd = codes "EvNoEnd"
evidence_kind_name EvForm = codes "EvForm"
evidence_kind_name EvRange = codes "EvRange"
evidence_kind_name EvOrder = codes "EvOrder"
evidence_kind_name EvTerms = codes "EvTerms"
evidence_kind_name EvAfterEnd = codes "EvAfterEnd"

-- `refused LINE KIND`
abbrev pub refusal_text : Refusal → List ℕ
refusal_text r =
    codes "refused " ++ decimal r.line ++ codes " " ++ kind_name r.kind ++ element_text r.kind ++ codes "\n"

abbrev pub evidence_refusal_text : EvidenceRefusal → List ℕ
evidence_refusal_text r =
    codes "refused " ++ decimal r.line ++ codes " " ++ evidence_kind_name r.kind ++ codes "\n"

-- ---- `decide`

-- the input is the text of a table, and this is the table
pub record Stands (input : List ℕ) (table : Table) : Type 0 where
  pub text : TableText
  pub is_text : IsTableText whole input text []
  pub is_table : IsTableOf text table

-- the input is the text of a table whose algebra is central simple, its trace form nondegenerate, and orders over the
-- polynomials and at infinity are their own duals for it at all places. No part that is built decides it
pub record IsUndecided (input : List ℕ) (refusal : Refusal) : Type 0 where
  pub table : Table
  pub stands : Stands input table
  pub unimodular : HasUnimodularOrders (field_of table) (algebra_of table)
  pub line : refusal.line ≡ line_of_end stands.text
  pub kind : refusal.kind ≡ NotBuilt

-- the bytes are the text of evidence that no matrices split the table's algebra
pub record ShowsEvidence (table : Table) (bytes : List ℕ) : Type 0 where
  pub evidence : Evidence
  pub holds : IsEvidence (field_of table) (algebra_of table) (degree_of table) evidence
  pub text : IsEvidenceText (ops_of table) (degree_of table) bytes evidence

-- the input is the text of a table, and the bytes are the text of such evidence
pub record IsDecided (input bytes : List ℕ) : Type 0 where
  pub table : Table
  pub stands : Stands input table
  pub shows : ShowsEvidence table bytes

-- the input of `decide` is refused, and the bytes say as what
pub record IsRefused (input bytes : List ℕ) : Type 0 where
  pub refusal : Refusal
  pub cause : IsRefusal whole input refusal ⊎ IsUndecided input refusal
  pub report : bytes ≡ refusal_text refusal

-- ---- `check`

-- the input is within the limit, the text of a table stands in front of it, this is the table, and the rest follows
pub record StandsInFront (input : List ℕ) (table : Table) : Type 0 where
  pub within : length input ≤ front_limit
  pub text : TableText
  pub rest : List ℕ
  pub is_text : IsTableText front input text rest
  pub is_table : IsTableOf text table

-- the input is the text of this table, and that of this evidence follows
pub record IsTableAndEvidence (input : List ℕ) (table : Table) (evidence : Evidence) : Type 0 where
  pub stands : StandsInFront input table
  pub is_evidence : IsEvidenceText (ops_of table) (degree_of table) stands.rest evidence

-- `yes`, and the claim of the evidence holds
pub record SaysYes (input bytes : List ℕ) : Type 0 where
  pub table : Table
  pub evidence : Evidence
  pub read : IsTableAndEvidence input table evidence
  pub claim : Claim (field_of table) (algebra_of table) (degree_of table) evidence
  pub report : bytes ≡ codes "yes\n"

-- `no C`
abbrev pub no_text : ℕ → List ℕ
no_text condition = codes "no " ++ decimal condition ++ codes "\n"

-- `no C`, and the first condition of the evidence that fails is number C
pub record SaysNo (input bytes : List ℕ) : Type 0 where
  pub table : Table
  pub evidence : Evidence
  pub read : IsTableAndEvidence input table evidence
  pub condition : ℕ
  pub fails : FailsFirst (conditions (field_of table) (algebra_of table) (degree_of table) evidence) condition
  pub report : bytes ≡ no_text condition

-- the input has too many bytes
pub record IsTooLong (input bytes : List ℕ) : Type 0 where
  pub long : front_limit < length input
  pub report : bytes ≡ refusal_text (record { line = 0; kind = TooLong })

-- the table in front is refused
pub record IsTableRefused (input bytes : List ℕ) : Type 0 where
  pub within : length input ≤ front_limit
  pub refusal : Refusal
  pub cause : IsRefusal front input refusal
  pub report : bytes ≡ refusal_text refusal

-- the evidence behind the table is refused; its lines are counted on from those of the table
pub record IsEvidenceRefused (input bytes : List ℕ) : Type 0 where
  pub table : Table
  pub stands : StandsInFront input table
  pub refusal : EvidenceRefusal
  pub cause : IsRefusalOfEvidence (field_of table) (degree_of table) (line_of_end stands.text + 1) stands.rest refusal
  pub report : bytes ≡ evidence_refusal_text refusal

-- the input of `check` is refused, and the bytes say as what
abbrev pub IsCheckRefused : List ℕ → List ℕ → Type 0
IsCheckRefused input bytes = IsTooLong input bytes ⊎ (IsTableRefused input bytes ⊎ IsEvidenceRefused input bytes)

-- ---- the report

-- the work of a form is done, and the bytes are its report
abbrev pub IsDone : Form → List ℕ → List ℕ → Type 0
IsDone Decide input bytes = IsDecided input bytes
IsDone Check input bytes = SaysYes input bytes

-- the claim that is checked fails
abbrev pub IsNo : Form → List ℕ → List ℕ → Type 0
IsNo Decide input bytes = ⊥
IsNo Check input bytes = SaysNo input bytes

-- the input of a form is refused
abbrev pub IsRefusedBy : Form → List ℕ → List ℕ → Type 0
IsRefusedBy Decide input bytes = IsRefused input bytes
IsRefusedBy Check input bytes = IsCheckRefused input bytes

-- what words and an input may come to
abbrev pub Report : List (List ℕ) → List ℕ → Status → List ℕ → Type 0
Report words input Usage bytes = (form_of words ≡ None) × (bytes ≡ usage_text)
Report words input Done bytes = (form : Form) × (form_of words ≡ Some form) × IsDone form input bytes
Report words input No bytes = (form : Form) × (form_of words ≡ Some form) × IsNo form input bytes
Report words input Refused bytes = (form : Form) × (form_of words ≡ Some form) × IsRefusedBy form input bytes
Report words input ReadFault bytes = ⊥
Report words input WriteFault bytes = ⊥
Report words input Memory bytes = ⊥
