-- What the parts of a module's writer do.
use Rattle.std.specs.Prelude.{◌≡◌, ℕ, ◌<◌, ◌^◌, List, [], ◌++◌, map, Result, Ok, Err}
use Rattle.wasm_forms.specs.declared.error.WireError.{WireError}
use Rattle.wasm_forms.specs.declared.error.WireError.TheVariants.{Malformed, Memory, TooLarge}
use Rattle.wasm_frames.specs.Record.{Custom, Module}
use Rattle.wasm_frames.specs.Frames.{Section, CustomSection}
use Rattle.wasm_writer.specs.Spelling.{all_spelled}
use Rattle.wasm_wire.specs.declared.written.CustomGroup.{CustomGroup}
use Rattle.wasm_wire.specs.ModuleSpelling.{group_of}

-- measured: it fits; too large: it doesn't; nothing else is answered
abbrev pub Tried : Result ℕ WireError → Type 0 → Type 0
Tried (Ok n) fits = fits
Tried (Err TooLarge) fits = fits → ⊥
Tried (Err Malformed) fits = ⊥
Tried (Err (Memory e)) fits = ⊥

-- so many, unless 2 ^ 63 or more are told
abbrev pub IsUnlessHuge : ℕ → ℕ → Type 0
IsUnlessHuge told len = told < 2 ^ 63 → told ≡ len

-- told: so many bytes, unless 2 ^ 63 or more are told, and it fits; too large: it doesn't fit; nothing else is answered
abbrev pub TellsLen : Result ℕ WireError → ℕ → Type 0 → Type 0
TellsLen (Ok n) len fits = IsUnlessHuge n len × fits
TellsLen (Err TooLarge) len fits = fits → ⊥
TellsLen (Err Malformed) len fits = ⊥
TellsLen (Err (Memory e)) len fits = ⊥

-- the module without its code, its data segments and its custom sections
abbrev pub front_of : Module → Module
front_of m = record m { bodies = []; data_segments = []; customs = [] }

-- the bytes of those custom sections that are of a group
abbrev pub group_spelled : CustomGroup → List Custom → List ℕ
group_spelled g cs = all_spelled (map CustomSection (group_of g cs))

-- these sections stand behind what was there; refused for want of memory alone
abbrev pub Appends : Result Unit WireError → List ℕ → List ℕ → List Section → Type 0
Appends (Ok u) old new ss = new ≡ old ++ all_spelled ss
Appends (Err (Memory e)) old new ss = Unit {0}
Appends (Err Malformed) old new ss = ⊥
Appends (Err TooLarge) old new ss = ⊥
