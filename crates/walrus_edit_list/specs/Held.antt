-- What is held while edits are made: what the module holds, its custom sections beside it, and whether a body was read.
use Rattle.std.specs.Prelude.{Bool, List, Option}
use Rattle.std.specs.String.{string_bytes}
use Rattle.wasm_frames.specs.Record.{Custom}
use Rattle.walrus_contents.specs.declared.parts.Contents.{Contents}
use Rattle.walrus_items.specs.Seen.{seen}
use Rattle.walrus_items.specs.declared.raw_section.RawCustomSection.{RawCustomSection}
use Rattle.walrus_module.specs.View.{contents_of}
use Rattle.walrus_module.specs.declared.module.Module.{Module}
use Rattle.walrus_edit_list.specs.declared.beside.Beside.{Beside}

-- what the module holds, its custom sections by their ids, and whether a body was read, behind which no type comes
pub record Held : Type 0 where
  pub contents : Contents
  pub customs : List (Option Custom)
  pub has_read : Bool

-- a custom section in memory
abbrev pub custom_value : RawCustomSection → Custom
custom_value s = record { name = string_bytes s.name; bytes = s.data_.items }

-- these sections by their ids
abbrev pub customs : List (Option RawCustomSection) → List (Option Custom)
customs all = seen custom_value all

-- what a module holds, with what lies beside it
abbrev pub held : {S : Type 0} → Module S → Beside → Held
held m b = record { contents = contents_of m; customs = customs b.customs.items; has_read = b.has_read }
