-- What contracts see of the source and the sink in memory.
use Rattle.std.specs.Prelude.{ℕ, Bool, List, take, drop, Option}
use Rattle.spl_outside.specs.Steady.{is_empty, room_told}
use Rattle.spl_outside.specs.declared.memory.MemSource.{MemSource}
use Rattle.spl_outside.specs.declared.memory.MemSink.{MemSink}

-- the bytes that are still to come
abbrev pub left_of : MemSource → List ℕ
left_of s = drop s.start s.bytes.items

-- the numbers of the calls that fail
abbrev pub source_failing : MemSource → List ℕ
source_failing s = s.failing.items

-- the number of the next call, counted from 1
abbrev pub source_call : MemSource → ℕ
source_call s = s.call

-- the most bytes that a call gives
abbrev pub source_most : MemSource → ℕ
source_most s = s.most

-- how many calls failed
abbrev pub source_faults : MemSource → ℕ
source_faults s = s.faults

-- no call fails
abbrev pub source_steady : MemSource → Bool
source_steady s = is_empty s.failing.items

-- what is written
abbrev pub written_of : MemSink → List ℕ
written_of s = take s.end s.buffer.items

-- the most bytes that are ever written
abbrev pub room_of : MemSink → ℕ
room_of s = s.room

-- the numbers of the calls that fail
abbrev pub sink_failing : MemSink → List ℕ
sink_failing s = s.failing.items

-- the number of the next call, counted from 1
abbrev pub sink_call : MemSink → ℕ
sink_call s = s.call

-- the most bytes that a call takes
abbrev pub sink_most : MemSink → ℕ
sink_most s = s.most

-- how many calls failed
abbrev pub sink_faults : MemSink → ℕ
sink_faults s = s.faults

-- the room, where no listed call fails
abbrev pub sink_steady : MemSink → Option ℕ
sink_steady s = room_told s.failing.items s.room
