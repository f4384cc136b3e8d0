-- What the objects that never fail stand for.
use Rattle.std.specs.Prelude.{ℕ, List, drop, Bool, true, false, Option, Some, None}
use Rattle.lab_outside.specs.declared.sure.SureSource.{SureSource}
use Rattle.lab_outside.specs.declared.sure.SureSink.{SureSink}

-- the bytes that are left
abbrev pub bytes_left : SureSource → List ℕ
bytes_left source = drop source.place source.bytes.items

-- the bytes, unless the flag says there are none
abbrev pub unless : Bool → List ℕ → Option (List ℕ)
unless true bytes = None
unless false bytes = Some bytes

-- the bytes that were written, up to the moment at which the buffer was full
abbrev pub bytes_written : SureSink → Option (List ℕ)
bytes_written sink = unless sink.full sink.bytes.items

-- the size of the buffer
abbrev pub buffer_size : SureSink → ℕ
buffer_size sink = sink.size
