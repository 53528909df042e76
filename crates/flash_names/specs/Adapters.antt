-- What the adapters are over, and the faults that they have counted.
use Rattle.std.specs.Prelude.{ℕ}
use Rattle.flash_names.specs.declared.adapters.ReaderSource.{ReaderSource}
use Rattle.flash_names.specs.declared.adapters.WriterSink.{WriterSink}

-- the reader of a source
abbrev pub reader_of : {R : Type 0} → ReaderSource R → R
reader_of source = source.reader

-- the faults that a source has counted
abbrev pub source_faults_of : {R : Type 0} → ReaderSource R → ℕ
source_faults_of source = source.faults

-- the writer of a sink
abbrev pub writer_of : {W : Type 0} → WriterSink W → W
writer_of sink = sink.writer

-- the faults that a sink has counted
abbrev pub sink_faults_of : {W : Type 0} → WriterSink W → ℕ
sink_faults_of sink = sink.faults
