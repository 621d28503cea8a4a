-- What the parts of a run do.
use Rattle.std.specs.Prelude.{◌≡◌, ◌⊎◌, ℕ, Bool, List, Option}
use Rattle.std.specs.Io.KnownBytes.{Appends}
use Rattle.spl_outside.specs.Faults.{Rose}
use Rattle.spl_outside.specs.Prefix.{AppendsPart}
use Rattle.spl_cli.specs.declared.status.Status.{Status}
use Rattle.spl_cli.specs.declared.status.Status.TheVariants.{WriteFault, Memory}
use Rattle.spl_cli.specs.Report.{Report}
use Rattle.spl_cli.specs.Run.{SourceState, SinkState, SinkStands}

abbrev pub source_state : {S : Type 0} → (S → Option (List ℕ)) → (S → ℕ) → (S → Bool) → S → SourceState
source_state left faults steady s = record { left = left s; faults = faults s; steady = steady s }

abbrev pub sink_state : {K : Type 0} → (K → Option (List ℕ)) → (K → ℕ) → (K → Option ℕ) → K → SinkState
sink_state written faults steady s = record { written = written s; faults = faults s; steady = steady s }

-- the bytes are written, and the status is the one that goes with them; or a proper prefix of them is
pub record Finishes (answer : Status) (bytes : List ℕ) (sink sink' : SinkState) (status : Status) : Type 0 where
  pub ends : ((status ≡ answer) × Appends sink.written sink'.written bytes × (sink'.faults ≡ sink.faults))
      ⊎ ((status ≡ WriteFault) × AppendsPart sink.written sink'.written bytes × Rose sink.faults sink'.faults)
  pub stands : SinkStands sink sink'

-- the report of an answer to an input is written, or a proper prefix of it, or memory was wanted and nothing is done
pub record Answers (words : List (List ℕ)) (input : List ℕ) (sink sink' : SinkState) (status : Status) : Type 0 where
  pub ends : ((status ≡ Memory) × (sink' ≡ sink))
      ⊎ ((answer : Status) × (bytes : List ℕ) × Report words input answer bytes
      × Finishes answer bytes sink sink' status)
  pub stands : SinkStands sink sink'
