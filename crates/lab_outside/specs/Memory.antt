-- The bytes of an object in memory, the calls that were made of it, and the numbers of those that fail.
use Rattle.std.specs.Prelude.{ℕ, ◌+◌, ◌<◌, List, drop, vec_len, vec_capacity}
use Rattle.lab_outside.specs.declared.memory.MemSource.{MemSource}
use Rattle.lab_outside.specs.declared.memory.MemSink.{MemSink}

-- the bytes that a source has left
abbrev pub source_left : MemSource → List ℕ
source_left source = drop source.bytes.place source.bytes.bytes.items

-- how often a read of it failed
abbrev pub source_faults : MemSource → ℕ
source_faults source = source.calls.faults

-- how often it was read
abbrev pub source_calls : MemSource → ℕ
source_calls source = source.calls.count

-- which of its calls fail
abbrev pub source_plan : MemSource → List ℕ
source_plan source = source.calls.fails.items

-- the bytes that a sink took
abbrev pub sink_written : MemSink → List ℕ
sink_written sink = sink.bytes.items

-- how often a write to it failed
abbrev pub sink_faults : MemSink → ℕ
sink_faults sink = sink.calls.faults

-- how often it was written to
abbrev pub sink_calls : MemSink → ℕ
sink_calls sink = sink.calls.count

-- which of its calls fail
abbrev pub sink_plan : MemSink → List ℕ
sink_plan sink = sink.calls.fails.items

-- the buffer has to grow for so many bytes more
abbrev pub GrowsFor : MemSink → ℕ → Type 0
GrowsFor sink more = vec_capacity sink.bytes < vec_len sink.bytes + more
