-- The plain bodies of a module, by their numbers.
use Rattle.std.specs.Prelude.{◌≡◌, ℕ, ◌+◌, List, length, slice_index_or}
use Rattle.wasm_text.specs.declared.limits.Limits.{Limits}
use Rattle.wasm_text.specs.Places.{between}
use Rattle.walrus_bodies.specs.declared.plain_code.Entry.{Entry}
use Rattle.walrus_bodies.specs.declared.plain_code.LeftOut.{LeftOut}
use Rattle.walrus_bodies.specs.declared.plain_code.PlainCode.{PlainCode}
use Rattle.walrus_bodies.specs.LeftOut.{unpacked}
use Rattle.walrus_bodies.specs.PlainBody.{with_locals}

-- what all of them name is within these, and within what is told of their locals
unfoldable pub limits_in : PlainCode → Limits
limits_in code = code.limits

-- how often operators were put in front of them
abbrev pub fronts_in : PlainCode → ℕ
fronts_in code = code.fronts

-- where nothing stands
abbrev pub nowhere : Entry
nowhere = record { begin = 0; end = 0; first_mark = 0; last_mark = 0; count = 0; locals = 0; left_out = 4294967294 }

-- what is told of a number
abbrev pub entry_at : PlainCode → ℕ → Entry
entry_at code number = slice_index_or code.entries.items number nowhere

-- where the first operator stood in the input
abbrev pub start_in : PlainCode → Entry → ℕ
start_in code entry = code.origin + entry.begin

abbrev pub bytes_in : PlainCode → Entry → List ℕ
bytes_in code entry = between entry.begin entry.end code.bytes.value.items

abbrev pub marks_in : PlainCode → Entry → List ℕ
marks_in code entry = between entry.first_mark entry.last_mark code.marks.items

-- the operators' bytes
abbrev pub bytes_at : PlainCode → ℕ → List ℕ
bytes_at code number = bytes_in code (entry_at code number)

-- the marks of their arguments
abbrev pub marks_at : PlainCode → ℕ → List ℕ
marks_at code number = marks_in code (entry_at code number)

-- what they may name
abbrev pub limits_at : PlainCode → ℕ → Limits
limits_at code number = with_locals code.limits (entry_at code number).locals

-- what is told of a body with these bytes, which stand among those that are kept, and these marks, behind all others
pub record IsBehind (code : PlainCode) (bytes marks : List ℕ) (count start locals : ℕ) (out : LeftOut) (entry : Entry) : Type 0 where
  pub stands : bytes_in code entry ≡ bytes
  pub first : entry.first_mark ≡ length code.marks.items
  pub last : entry.last_mark ≡ length code.marks.items + length marks
  pub counted : entry.count ≡ count
  pub starts : start_in code entry ≡ start
  pub locals_are : entry.locals ≡ locals
  pub left_out_is : unpacked entry.left_out ≡ out
