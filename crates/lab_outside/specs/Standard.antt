-- The reader and the writer behind the program's own input and output.
use Rattle.std.specs.Prelude.{ℕ}
use Rattle.lab_outside.specs.declared.standard.StdSource.{StdSource}
use Rattle.lab_outside.specs.declared.standard.StdSink.{StdSink}

-- the reader behind the source
abbrev pub reader_of : {R : Type 0} → StdSource R → R
reader_of source = source.reader

-- how often a read failed
abbrev pub read_faults : {R : Type 0} → StdSource R → ℕ
read_faults source = source.faults

-- the writer behind the sink
abbrev pub writer_of : {W : Type 0} → StdSink W → W
writer_of sink = sink.writer

-- how often a write failed
abbrev pub write_faults : {W : Type 0} → StdSink W → ℕ
write_faults sink = sink.faults
