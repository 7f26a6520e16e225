-- What is answered where a data segment is written as a record ("Binary Format > Modules > Data Section").
use Rattle.std.specs.Prelude.{◌≡◌, ⊤, ℕ, List, Some, None, Result, Ok, Err, Contains}
use Rattle.wasm_entries.specs.Record.{data_entry, data_mode}
use Rattle.wasm_entries.specs.Spelling.{DataModeStands, DataStands}
use Rattle.wasm_entries.specs.declared.record.RawData.{RawData}
use Rattle.wasm_entries.specs.declared.record.RawDataMode.{RawDataMode}
use Rattle.walrus_base.specs.Operators.{Op}
use Rattle.walrus_code.specs.Names.{Lookup}
use Rattle.walrus_code.specs.declared.error.IrError.{IrError}
use Rattle.walrus_code.specs.declared.error.IrError.TheVariants.{Malformed, Memory, NoIndex, NotWritable, TooLarge}
use Rattle.walrus_items.specs.Data.{DataValue}
use Rattle.walrus_contents.specs.View as seen
use Rattle.walrus_items.specs.declared.error.Error.{Error}
use Rattle.walrus_items.specs.declared.error.Error.TheVariants as errors
use Rattle.walrus_model.specs.Abstract.{DataKind, ActiveData, DataSegment}
use Rattle.walrus_model.specs.Sections.{data_kind, data_of}
use Rattle.walrus_constants.specs.Segments.{named_data, named_data_kind}
use Rattle.walrus_constants.specs.Written.{IsUnspelled}

-- no bytes spell how it is used: it is active, and no bytes spell its offset
pub data KindIsUnspelled (k : DataKind) : Type 0 where
  UnspelledOffset : (memory : ℕ) (offset : List Op) → k ≡ ActiveData memory offset → IsUnspelled offset → KindIsUnspelled k

-- no bytes spell the segment
abbrev pub DataIsUnspelled : DataSegment → Type 0
DataIsUnspelled d = KindIsUnspelled d.kind

-- the record is that of how the segment is used under the look-up; refused only with a cause, and never Ok with one
abbrev pub IndexesMode : Lookup → DataKind → Result RawDataMode IrError → Type 0
IndexesMode names k (Ok raw) = (named_data_kind names k ≡ Some (data_kind (data_mode raw))) × DataModeStands (data_mode raw) × (KindIsUnspelled k → ⊥)
IndexesMode names k (Err NoIndex) = named_data_kind names k ≡ None
IndexesMode names k (Err NotWritable) = KindIsUnspelled k
IndexesMode names k (Err (Memory e)) = ⊤
IndexesMode names k (Err Malformed) = ⊥
IndexesMode names k (Err TooLarge) = ⊥

-- so it is of the segment
abbrev pub IndexesData : Lookup → DataSegment → Result RawData IrError → Type 0
IndexesData names d (Ok raw) = (named_data names d ≡ Some (data_of (data_entry raw))) × DataStands (data_entry raw) × (DataIsUnspelled d → ⊥)
IndexesData names d (Err NoIndex) = named_data names d ≡ None
IndexesData names d (Err NotWritable) = DataIsUnspelled d
IndexesData names d (Err (Memory e)) = ⊤
IndexesData names d (Err Malformed) = ⊥
IndexesData names d (Err TooLarge) = ⊥

-- the data segments of a module are written: no bytes spell one of them
abbrev pub RefusesData : List DataValue → Error → Type 0
RefusesData all (errors.Memory e) = ⊤
RefusesData all errors.NotWritable = (d : DataValue) × Contains all d × DataIsUnspelled (seen.data_of d)
RefusesData all _ = ⊥

-- bytes spell it
abbrev pub IsSpelledData : DataValue → Type 0
IsSpelledData d = DataIsUnspelled (seen.data_of d) → ⊥
