-- What the sink shows of the namings that it took.
use Rattle.walrus_reading.specs.Shown.{Shown, shown}
use Rattle.walrus_reading.specs.TakenNames.{Bounds, once_named}
use Rattle.walrus_reading.specs.declared.sink.NameBounds.{NameBounds}
use Rattle.walrus_reading.specs.declared.sink.Namer.{Namer}
use Rattle.wasm_payloads.specs.Names.{Named}

abbrev pub bounds_of : NameBounds → Bounds
bounds_of b = record { types = b.types; starts = b.starts.items; synthetic = b.synthetic }

-- the bounds, and what the module holds
abbrev pub seen_by : Namer → Bounds × Shown
seen_by sink = (bounds_of sink.bounds, shown sink.contents)

-- once one more naming is taken
abbrev pub once_seen : Bounds × Shown → Named → Bounds × Shown
once_seen seen naming = (seen.0, once_named seen.0 seen.1 naming)
