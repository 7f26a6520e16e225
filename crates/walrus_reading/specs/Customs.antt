-- The custom sections that a module keeps as they were read ("Binary Format > Modules > Custom Section").
use Rattle.std.specs.Prelude.{List, filter, not}
use Rattle.std.specs.String.{string_bytes}
use Rattle.wasm_frames.specs.Record as wire
use Rattle.walrus_model.specs.Sections.{is_apart}
use Rattle.walrus_items.specs.declared.raw_section.RawCustomSection.{RawCustomSection}

-- a section that is kept: its name, and the bytes behind that
abbrev pub section_seen : RawCustomSection → wire.Custom
section_seen s = record { name = string_bytes s.name; bytes = s.data_.items }

-- those of these sections that are kept, in their order: all but names, producers and debug information
abbrev pub kept_customs : List wire.Custom → List wire.Custom
kept_customs cs = filter (λ (c : wire.Custom). not (is_apart c.name)) cs
