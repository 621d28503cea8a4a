-- What a run of the program may do to its source and its sink, and what it may answer.
use Rattle.std.specs.Prelude.{◌≡◌, ◌≢◌, ◌⊎◌, ℕ, ◌+◌, ◌≤◌, Bool, List, drop, Option, Some, None, is_some, IfSome}
use Rattle.std.specs.Option.{option_map}
use Rattle.std.specs.Io.KnownBytes.{Appends, IsAtEnd}
use Rattle.spl_outside.specs.Faults.{Rose}
use Rattle.spl_outside.specs.Prefix.{AppendsPart, ConsumesAtMost}
use Rattle.spl_cli.specs.declared.status.Status.{Status}
use Rattle.spl_cli.specs.declared.status.Status.TheVariants.{Done, No, Usage, Refused, ReadFault, WriteFault, Memory}
use Rattle.spl_cli.specs.Forms.{form_of, limit_of}
use Rattle.spl_cli.specs.Report.{Report}

-- what a source means at one moment
pub record SourceState : Type 0 where
  pub left : Option (List ℕ)
  pub faults : ℕ
  pub steady : Bool

-- what a sink means at one moment
pub record SinkState : Type 0 where
  pub written : Option (List ℕ)
  pub faults : ℕ
  pub steady : Option ℕ

-- what stands of a source whatever happens
pub record SourceStands (source source' : SourceState) : Type 0 where
  pub faults : source.faults ≤ source'.faults
  pub told : is_some source'.left ≡ is_some source.left
  pub steady : source'.steady ≡ source.steady

-- what stands of a sink whatever happens
pub record SinkStands (sink sink' : SinkState) : Type 0 where
  pub faults : sink.faults ≤ sink'.faults
  pub told : is_some sink'.written ≡ is_some sink.written
  pub steady : sink'.steady ≡ sink.steady

-- a status with which a report was written whole
abbrev pub IsAnswer : Status → Type 0
IsAnswer status = (status ≡ Done) ⊎ (status ≡ No) ⊎ (status ≡ Usage) ⊎ (status ≡ Refused)

-- the input is the one that the source told, where it told one
abbrev pub IsTold : SourceState → List ℕ → Type 0
IsTold source input = IfSome source.left (λ bytes. bytes ≡ input)

-- what a run with this limit takes of its source
pub record ReadsUpTo (limit : ℕ) (source source' : SourceState) (status : Status) : Type 0 where
  -- whatever it answers, no more than one byte past the limit
  pub bounded : ConsumesAtMost (limit + 1) source.left source'.left
  -- on each answer all up to there, and on Done and No all to the end
  pub taken : IsAnswer status ⊎ (status ≡ WriteFault) → source'.left ≡ option_map (drop (limit + 1)) source.left
  pub to_the_end : (status ≡ Done) ⊎ (status ≡ No) → IsAtEnd source'.left

-- what a run takes of its source, by the limit of its words: where they read nothing, it is left as it is, and no read
-- fails
abbrev pub Reads : Option ℕ → SourceState → SourceState → Status → Type 0
Reads None source source' status = (source' ≡ source) × (status ≢ ReadFault)
Reads (Some limit) source source' status = ReadsUpTo limit source source' status

-- the whole of a report on the input was written
pub record WritesReport (words : List (List ℕ)) (source : SourceState) (sink sink' : SinkState) (status : Status)
    : Type 0 where
  pub input : List ℕ
  pub told : IsTold source input
  pub bytes : List ℕ
  pub report : Report words input status bytes
  pub written : Appends sink.written sink'.written bytes

-- a proper prefix of a report on the input was written
pub record WritesPart (words : List (List ℕ)) (source : SourceState) (sink sink' : SinkState) : Type 0 where
  pub input : List ℕ
  pub told : IsTold source input
  pub status : Status
  pub bytes : List ℕ
  pub report : Report words input status bytes
  pub written : AppendsPart sink.written sink'.written bytes

-- A run of the program: from its words, its source and its sink to what is left of them, with this status.
pub record IsRun (words : List (List ℕ)) (source source' : SourceState) (sink sink' : SinkState) (status : Status)
    : Type 0 where
  -- what each status means: the report is written, or a proper prefix of it, or nothing is done to the sink
  pub report : IsAnswer status → WritesReport words source sink sink' status
  pub part : status ≡ WriteFault → WritesPart words source sink sink'
  pub nothing : (status ≡ ReadFault) ⊎ (status ≡ Memory) → sink' ≡ sink
  -- when each comes: a fault only where its count rose in the call, want of memory at any time but for words of no form
  pub no_form : form_of words ≡ None → (status ≡ Usage) ⊎ (status ≡ WriteFault)
  pub read_fault : status ≡ ReadFault → Rose source.faults source'.faults
  pub write_fault : status ≡ WriteFault → Rose sink.faults sink'.faults
  -- a call that fails is told: on each other answer none did
  pub no_read_fault : status ≢ ReadFault → source'.faults ≡ source.faults
  pub no_write_fault : status ≢ WriteFault → sink'.faults ≡ sink.faults
  -- what is read, by the form of the words
  pub reads : Reads (limit_of words) source source' status
  -- what stands whatever happens: no count falls, what is told stays told, and what is steady stays so
  pub source_stands : SourceStands source source'
  pub sink_stands : SinkStands sink sink'
