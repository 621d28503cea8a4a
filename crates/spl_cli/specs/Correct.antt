-- The main theorem: what `run` comes to with the words `decide` and `check`, unless a device fails or memory is
-- wanting; and over which sources and sinks no fault comes.
use Rattle.std.specs.Prelude.{◌≡◌, ◌≢◌, ◌⊎◌, ◌↔◌, ℕ, ◌+◌, ◌<◌, ◌≤◌, IsTrue, List, [], ◌∷◌, ◌++◌, length, codes, Some}
use Rattle.spl_table.specs.TableText.{TableText, line_of_end}
use Rattle.spl_table.specs.Table.{field_of, degree_of, algebra_of}
use Rattle.spl_table.specs.Refusal.{whole, front, front_limit, IsTableText, IsRefusal}
use Rattle.spl_table.specs.declared.table.Table.{Table}
use Rattle.spl_table.specs.declared.refusal.Refusal.{Refusal}
use Rattle.spl_table.specs.declared.refusal.Kind.TheVariants.{TooLong}
use Rattle.spl_evidence.specs.Claim.{Claim}
use Rattle.spl_evidence.specs.Refusal.{IsRefusal as IsRefusalOfEvidence}
use Rattle.spl_evidence.specs.declared.evidence.Evidence.{Evidence}
use Rattle.spl_evidence.specs.declared.evidence.Evidence.TheVariants.{Ramified}
use Rattle.spl_evidence.specs.declared.refusal.EvidenceRefusal.{EvidenceRefusal}
use Rattle.spl_check.specs.Verdict.{FailsFirst, conditions}
use Rattle.spl_cli.specs.declared.status.Status.{Status}
use Rattle.spl_cli.specs.declared.status.Status.TheVariants.{Done, No, Refused, ReadFault, WriteFault, Memory}
use Rattle.spl_cli.specs.declared.words.Form.TheVariants.{Decide}
use Rattle.spl_cli.specs.Forms.{form_of}
use Rattle.spl_cli.specs.Report.{refusal_text, evidence_refusal_text, no_text, IsDecided, IsUndecided, Report}
use Rattle.spl_cli.specs.Report.{StandsInFront, IsTableAndEvidence}
use Rattle.spl_cli.specs.Run.{SourceState, SinkState, IsTold, IsRun}

-- no device failed, and memory sufficed
pub record RunsWell (status : Status) : Type 0 where
  pub read : status ≢ ReadFault
  pub written : status ≢ WriteFault
  pub memory : status ≢ Memory

-- the input is refused, since no part that is built decides its table
pub record IsNotBuilt (input bytes : List ℕ) : Type 0 where
  pub refusal : Refusal
  pub undecided : IsUndecided input refusal
  pub report : bytes ≡ refusal_text refusal

-- the evidence is a ramified place
abbrev pub IsOfPlace : Evidence → Type 0
IsOfPlace (Ramified place order radical) = Unit {0}
IsOfPlace e = ⊥

-- what is written for an input, and the status that goes with it
pub record DecidesInput (input bytes : List ℕ) (status : Status) : Type 0 where
  -- an input that is no table text is refused with its first fault
  pub refused : (r : Refusal) → IsRefusal whole input r → (status ≡ Refused) × (bytes ≡ refusal_text r)
  -- for a table text evidence is written whose claim holds, of the first kind that fits: a failed law, a central element
  -- or a proper ideal, and then the algebra isn't central simple, and no matrices split it; or a ramified place, and then
  -- no matrices of any size ≥ 1 split it. Or else the algebra is central simple, and orders over the polynomials and at
  -- infinity are their own duals at all places
  pub decided : (t : TableText) → IsTableText whole input t []
      → ((status ≡ Done) × IsDecided input bytes) ⊎ ((status ≡ Refused) × IsNotBuilt input bytes)
  -- no input has both, but perhaps where the evidence is a ramified place
  pub excluded : (r : Refusal) → IsUndecided input r → (other : List ℕ) (d : IsDecided input other)
      → (let s = d.shows in IsOfPlace s.evidence)

-- what is written for an input of a table and evidence behind it, and the status that goes with it
pub record ChecksInput (input bytes : List ℕ) (status : Status) : Type 0 where
  -- an input of too many bytes is refused
  pub long : front_limit < length input
      → (status ≡ Refused) × (bytes ≡ refusal_text (record { line = 0; kind = TooLong }))
  -- a table with a fault is refused with its first one
  pub table : length input ≤ front_limit → (r : Refusal) → IsRefusal front input r
      → (status ≡ Refused) × (bytes ≡ refusal_text r)
  -- then evidence with a fault is, at a line that is counted on from those of the table
  pub evidence : (t : Table) (s : StandsInFront input t) (r : EvidenceRefusal)
      → IsRefusalOfEvidence (field_of t) (degree_of t) (line_of_end s.text + 1) s.rest r
      → (status ≡ Refused) × (bytes ≡ evidence_refusal_text r)
  -- for every table and evidence that are accepted: it is done exactly where the claim holds, and says `yes`
  pub done : (t : Table) (e : Evidence) → IsTableAndEvidence input t e
      → (status ≡ Done) ↔ Claim (field_of t) (algebra_of t) (degree_of t) e
  pub yes : (t : Table) (e : Evidence) → IsTableAndEvidence input t e → status ≡ Done → bytes ≡ codes "yes\n"
  -- it is No exactly where the claim fails, and says the number of the first condition that fails
  pub fails : (t : Table) (e : Evidence) → IsTableAndEvidence input t e
      → (status ≡ No) ↔ (Claim (field_of t) (algebra_of t) (degree_of t) e → ⊥)
  pub no : (t : Table) (e : Evidence) → IsTableAndEvidence input t e → (c : ℕ)
      → FailsFirst (conditions (field_of t) (algebra_of t) (degree_of t) e) c → bytes ≡ no_text c

-- a run of these words on a told input, into a sink that tells what is written, comes to this
abbrev pub RunComesTo : List (List ℕ) → (List ℕ → List ℕ → Status → Type 0) → Type 0
RunComesTo words Says = (source source' : SourceState) (sink sink' : SinkState) (status : Status)
    (input before : List ℕ) → IsRun words source source' sink sink' status
    → source.left ≡ Some input → sink.written ≡ Some before → RunsWell status
    → (bytes : List ℕ) × (sink'.written ≡ Some (before ++ bytes)) × Says input bytes status

abbrev pub RunDecides : Type 0
RunDecides = RunComesTo (codes "decide" ∷ []) DecidesInput

abbrev pub RunChecks : Type 0
RunChecks = RunComesTo (codes "check" ∷ []) ChecksInput

-- the input is the text of a table that has evidence, and is undecided too: by `excluded` above, of one with a ramified
-- place and orders that are their own duals at all places
pub record IsOpen (input : List ℕ) : Type 0 where
  pub bytes : List ℕ
  pub decided : IsDecided input bytes
  pub refusal : Refusal
  pub undecided : IsUndecided input refusal

-- words and an input have one status, and one text but for the evidence that `decide` writes; that no input of `decide`
-- is open is not shown yet
abbrev pub OneReport : Type 0
OneReport = (words : List (List ℕ)) (input : List ℕ) (status status' : Status) (bytes bytes' : List ℕ)
    → Report words input status bytes → Report words input status' bytes'
    → ((form_of words ≡ Some Decide) × IsOpen input)
    ⊎ ((status ≡ status') × (((status ≡ Done) × (form_of words ≡ Some Decide) → ⊥) → bytes ≡ bytes'))

-- some report on the source's input is longer than what is left of the room after the bytes that are there before
pub record HasLongReport (words : List (List ℕ)) (source : SourceState) (before : List ℕ) (room : ℕ) : Type 0 where
  pub input : List ℕ
  pub told : IsTold source input
  pub status : Status
  pub bytes : List ℕ
  pub report : Report words input status bytes
  pub long : room < length before + length bytes

-- a run without faults, as far as its source and its sink allow
pub record RunsQuietly (words : List (List ℕ)) (source : SourceState) (sink : SinkState) (status : Status)
    : Type 0 where
  -- over a source no call of which fails, no read fault comes
  pub read : IsTrue source.steady → status ≢ ReadFault
  -- over a sink that fails for want of room alone, a write fault comes only where a report is too long for it
  pub written : (before : List ℕ) (room : ℕ) → sink.written ≡ Some before → sink.steady ≡ Some room
      → status ≡ WriteFault → HasLongReport words source before room

-- a run over sources and sinks of some types, by what they mean
abbrev pub RunIsQuiet : {S K : Type 0} → (S → SourceState) → (K → SinkState) → Type 0
RunIsQuiet {S} {K} source_of sink_of = (words : List (List ℕ)) (source source' : S) (sink sink' : K) (status : Status)
    → IsRun words (source_of source) (source_of source') (sink_of sink) (sink_of sink') status
    → RunsQuietly words (source_of source) (sink_of sink) status
