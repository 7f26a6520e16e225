-- What a contract sees of a body that is kept as it stands in the input.
use Rattle.std.specs.Prelude.{ℕ, ◌+◌, List, length, map}
use Rattle.wasm_text.specs.Operators as wire
use Rattle.walrus_base.specs.Operators.{Op}
use Rattle.walrus_code.specs.Location.{location_at}
use Rattle.walrus_code.specs.declared.location.InstrLocId.{InstrLocId}
use Rattle.walrus_bodies.specs.Placed.{placed_ops}
use Rattle.walrus_bodies.specs.Texts.{texts_at, places_at}
use Rattle.walrus_bodies.specs.declared.plain_code.Entry.{Entry}
use Rattle.walrus_bodies.specs.declared.plain_code.LeftOut.{LeftOut}
use Rattle.walrus_bodies.specs.declared.text.Text.{Text}
use Rattle.walrus_bodies.specs.PlainCode.{bytes_at, entry_at, fronts_in, marks_at, start_in}
use Rattle.walrus_bodies.specs.LeftOut.{unpacked}

-- what the code tells of it
abbrev pub entry_of : Text → Entry
entry_of text = entry_at text.code.value text.number

-- which of its marks are left out
abbrev pub left_out_of : Text → LeftOut
left_out_of text = unpacked (entry_of text).left_out

-- where the first of its operators stood in the input
abbrev pub start_of : Text → ℕ
start_of text = start_in text.code.value (entry_of text)

-- the bytes of its operators
abbrev pub bytes_of : Text → List ℕ
bytes_of text = bytes_at text.code.value text.number

-- where arguments stand that name something or aren't in their one spelling
abbrev pub marks_of : Text → List ℕ
marks_of text = marks_at text.code.value text.number

-- its operators over indices
unfoldable pub texts_of : Text → List wire.Op
texts_of text = texts_at (entry_of text).count (bytes_of text)

-- the place of its first local
unfoldable pub first_local_of : Text → ℕ
first_local_of text = text.first_local

-- how often operators were put in front of it
abbrev pub front_count_of : Text → ℕ
front_count_of text = fronts_in text.code.value

-- how many locals the function has, its parameters among them
unfoldable pub local_count_of : Text → ℕ
local_count_of text = (entry_of text).locals

-- its operators over the places of what they name
abbrev pub ops_in : Text → List Op
ops_in text = placed_ops (first_local_of text) (texts_of text)

-- the location that begins at a place
abbrev pub at_place : ℕ → InstrLocId
at_place place = record { value = location_at place }

-- where each of its operators stood in the input
unfoldable pub locations_in : Text → List InstrLocId
locations_in text = map at_place (places_at (start_of text + length (bytes_of text)) (entry_of text).count (bytes_of text))
