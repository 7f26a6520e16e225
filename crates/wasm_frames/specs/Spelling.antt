-- The one spelling of a body and of a custom section's content (Binary Format > Modules).
use Rattle.std.specs.Prelude.{ℕ, List, ◌++◌}
use Rattle.wasm_forms.specs.Spelling.{block_bytes}
use Rattle.wasm_frames.specs.Record.{Body, Custom}

-- the content of a custom section as it is written: its name, and the bytes behind that (Custom Section)
abbrev pub custom_bytes : Custom → List ℕ
custom_bytes c = block_bytes c.name ++ c.bytes

-- a function's body as it is written: the count of its bytes, and these, with the locals in front (Code Section)
abbrev pub body_bytes : Body → List ℕ
body_bytes b = block_bytes b.bytes
