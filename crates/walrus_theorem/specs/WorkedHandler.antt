-- The steps at work on a legacy handler: the function type that it needs isn't there, and is added behind the others.
use Rattle.std.specs.Prelude.{ℕ, true, List, [], ◌∷◌, ◌++◌, codes, pos}
use Rattle.wasm_forms.specs.declared.types.RawVal.{RawVal}
use Rattle.wasm_forms.specs.declared.types.RawVal.TheVariants as vals
use Rattle.wasm_entries.specs.declared.record.RawExportKind.TheVariants as kinds
use Rattle.wasm_entries.specs.Record as entries
use Rattle.wasm_frames.specs.Frames.{header}
use Rattle.wasm_operators.specs.declared.operator.RawArg.TheVariants as args
use Rattle.wasm_operators.specs.declared.operator.RawBlock.TheVariants as blocks
use Rattle.walrus_theorem.specs.Examples.{the_end, empty_text}
use Rattle.walrus_theorem.specs.Text.{BodyText, Text}

-- a type of functions that take one i32
abbrev pub takes_one : List RawVal → entries.Group
takes_one results = record { is_final = true; supers = []; comp = entries.Function (record { params = vals.I32 ∷ []; results = results }) } ∷ []

-- a legacy try with an i32 as its result, whose catch has a tag of one i32
abbrev pub catches : BodyText
catches = record {
  declarations = [];
  operators =
      record { op = 0x06; args = args.Block (blocks.OneResult vals.I32) ∷ [] } ∷ record { op = 0x41; args = args.S32 (pos 0) ∷ [] }
      ∷ record { op = 0x07; args = args.Tag 0 ∷ [] } ∷ the_end
      ∷ record { op = 0x1A; args = [] } ∷ the_end ∷ [];
}

abbrev pub catching_text : Text
catching_text = record empty_text {
  types = takes_one [] ∷ [];
  functions = 0 ∷ [];
  tags = 0 ∷ [];
  exports = record { name = codes "f"; kind = kinds.Function; index = 0 } ∷ [];
  bodies = catches ∷ [];
}

abbrev pub behind_types : List ℕ
behind_types =
    0x03 ∷ 0x02 ∷ 0x01 ∷ 0x00
    ∷ 0x0D ∷ 0x03 ∷ 0x01 ∷ 0x00 ∷ 0x00
    ∷ 0x07 ∷ 0x05 ∷ 0x01 ∷ 0x01 ∷ 0x66 ∷ 0x00 ∷ 0x00
    ∷ 0x0A ∷ 0x0C ∷ 0x01 ∷ 0x0A ∷ 0x00 ∷ 0x06 ∷ 0x7F ∷ 0x41 ∷ 0x00 ∷ 0x07 ∷ 0x00 ∷ 0x0B ∷ 0x1A ∷ 0x0B ∷ []

abbrev pub catching_bytes : List ℕ
catching_bytes = header ++ 0x01 ∷ 0x05 ∷ 0x01 ∷ 0x60 ∷ 0x01 ∷ 0x7F ∷ 0x00 ∷ behind_types

-- the same with the type of the handler, from i32 to i32
abbrev pub handled_text : Text
handled_text = record catching_text { types = takes_one [] ∷ takes_one (vals.I32 ∷ []) ∷ [] }

abbrev pub handled_bytes : List ℕ
handled_bytes = header ++ 0x01 ∷ 0x0A ∷ 0x02 ∷ 0x60 ∷ 0x01 ∷ 0x7F ∷ 0x00 ∷ 0x60 ∷ 0x01 ∷ 0x7F ∷ 0x01 ∷ 0x7F ∷ behind_types
