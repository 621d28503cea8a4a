-- What contracts see of the adapters of std's reader and writer.
use Rattle.std.specs.Prelude.{ℕ}
use Rattle.spl_outside.specs.declared.streams.StdSource.{StdSource}
use Rattle.spl_outside.specs.declared.streams.StdSink.{StdSink}

abbrev pub reader_of : {R : Type 0} → StdSource R → R
reader_of s = s.inner

-- how many reads failed
abbrev pub read_faults : {R : Type 0} → StdSource R → ℕ
read_faults s = s.faults

abbrev pub writer_of : {W : Type 0} → StdSink W → W
writer_of s = s.inner

-- how many writes failed
abbrev pub write_faults : {W : Type 0} → StdSink W → ℕ
write_faults s = s.faults
