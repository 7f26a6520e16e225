-- The lists of what stays of the records of a module's sections.
use Rattle.std.specs.Global.{Vec}
use Rattle.std.proofs.Common.{◌≡◌, List, ap, ◌∙◌}
use Rattle.wasm_entries.specs.declared.record.RawData.{RawData}
use Rattle.wasm_entries.specs.declared.record.RawElement.{RawElement}
use Rattle.wasm_entries.specs.declared.record.RawExport.{RawExport}
use Rattle.wasm_entries.specs.declared.record.RawGlobal.{RawGlobal}
use Rattle.wasm_entries.specs.declared.record.RawLimits.{RawLimits}
use Rattle.wasm_entries.specs.declared.record.RawTable.{RawTable}
use Rattle.wasm_frames.specs.declared.record.Raw.{Raw}
use Rattle.wasm_frames.specs.declared.record.RawCustom.{RawCustom}
use Rattle.walrus_reading.specs.Rest.{RestStays}

pub same_tables : (old new : Raw) (l : List RawTable) → RestStays old new → l ≡ new.tables.items → l ≡ old.tables.items
same_tables old new l rest is = is ∙ ap (λ (v : Vec RawTable). v.items) rest.tables

pub same_memories : (old new : Raw) (l : List RawLimits) → RestStays old new → l ≡ new.memories.items → l ≡ old.memories.items
same_memories old new l rest is = is ∙ ap (λ (v : Vec RawLimits). v.items) rest.memories

pub same_globals : (old new : Raw) (l : List RawGlobal) → RestStays old new → l ≡ new.globals.items → l ≡ old.globals.items
same_globals old new l rest is = is ∙ ap (λ (v : Vec RawGlobal). v.items) rest.globals

pub same_exports : (old new : Raw) (l : List RawExport) → RestStays old new → l ≡ new.exports.items → l ≡ old.exports.items
same_exports old new l rest is = is ∙ ap (λ (v : Vec RawExport). v.items) rest.exports

pub same_elements : (old new : Raw) (l : List RawElement) → RestStays old new → l ≡ new.elements.items → l ≡ old.elements.items
same_elements old new l rest is = is ∙ ap (λ (v : Vec RawElement). v.items) rest.elements

pub same_segments : (old new : Raw) (l : List RawData) → RestStays old new → l ≡ new.data_.items → l ≡ old.data_.items
same_segments old new l rest is = is ∙ ap (λ (v : Vec RawData). v.items) rest.segments

pub same_customs : (old new : Raw) (l : List RawCustom) → RestStays old new → l ≡ new.customs.items → l ≡ old.customs.items
same_customs old new l rest is = is ∙ ap (λ (v : Vec RawCustom). v.items) rest.customs
