-- What is known of the bytes and marks of a plain body, whatever they lie in.
use Rattle.std.specs.Prelude.{◌≡◌, ◌≤◌, ◌⊎◌, ℕ, true, List, length}
use Rattle.std.specs.List.{list_all}
use Rattle.wasm_forms.specs.Writing.{EachFits}
use Rattle.wasm_text.specs.RawArg.{RawArg}
use Rattle.wasm_text.specs.Operators as wire
use Rattle.wasm_text.specs.declared.limits.Limits.{Limits}
use Rattle.wasm_text.specs.Classes.{is_plain}
use Rattle.wasm_forms.specs.Grammar.{Is, IsRow}
use Rattle.wasm_text.specs.Forms.{operator}
use Rattle.wasm_text.specs.Marks.{all_args}
use Rattle.wasm_text.specs.Places.{between}
use Rattle.wasm_text.specs.Scans.{IsWithin}
use Rattle.walrus_code.specs.FromRaw.{ops_of}
use Rattle.walrus_bodies.specs.Blocks.{are_nested}
use Rattle.walrus_bodies.specs.LeftOut.{unpacked}
use Rattle.walrus_bodies.specs.Shown.{AreShown, NameLeftOut}
use Rattle.walrus_bodies.specs.declared.plain_code.Entry.{Entry}
use Rattle.walrus_bodies.specs.declared.plain_code.LeftOut.{LeftOut}
use Rattle.walrus_bodies.specs.declared.scan.ScanRoom.{ScanRoom}

-- an argument within the limits, whatever blocks are open
abbrev pub IsNamed : Limits → RawArg → Type 0
IsNamed limits arg = (labels : ℕ) × IsWithin (record limits { labels = labels }) arg

-- the bytes are so many plain operators that nest, shown by the marks, of which some are left out
pub record IsPlainBody (limits : Limits) (out : LeftOut) (bytes marks : List ℕ) (count : ℕ) : Type 0 where
  pub texts : List wire.Op
  pub counted : count ≡ length texts
  pub row : IsRow (Is operator) bytes texts
  pub shown : AreShown out bytes marks texts
  pub named : NameLeftOut out limits.locals texts
  pub fit : EachFits (IsNamed limits) (all_args texts)
  pub plain : list_all (λ o. is_plain o.op) texts ≡ true
  pub nested : are_nested (ops_of texts) ≡ true

-- limits with so many locals
abbrev pub with_locals : Limits → ℕ → Limits
with_locals limits locals = record limits { locals = locals }

-- where an entry says, among these bytes and marks, stands such a body, if it says that there are operators
pub record IsHeld (limits : Limits) (bytes marks : List ℕ) (entry : Entry) : Type 0 where
  pub marks_forward : entry.first_mark ≤ entry.last_mark
  pub marks_within : entry.last_mark ≤ length marks
  pub body : (entry.count ≡ 0) ⊎ IsPlainBody (with_locals limits entry.locals) (unpacked entry.left_out) (between entry.begin entry.end bytes) (between entry.first_mark entry.last_mark marks) entry.count

-- the same of a scanned body, whose marks stand in the room; and what is left out there
abbrev pub left_out_in : ScanRoom → LeftOut
left_out_in room = record { first = room.unmarked.first; accessed = room.unmarked.accessed }

abbrev pub IsScannedBody : Limits → ScanRoom → List ℕ → ℕ → Type 0
IsScannedBody limits room bytes count = IsPlainBody limits (left_out_in room) bytes room.marks.items count
