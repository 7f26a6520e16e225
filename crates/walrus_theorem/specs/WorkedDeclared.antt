-- The steps at work on a function that `ref.func` names, and that nothing declares: a segment that declares it is added.
use Rattle.std.specs.Prelude.{ℕ, List, [], ◌∷◌, ◌++◌, Some}
use Rattle.wasm_entries.specs.Record as entries
use Rattle.wasm_frames.specs.Frames.{header}
use Rattle.wasm_operators.specs.declared.operator.RawArg.TheVariants as args
use Rattle.walrus_theorem.specs.Examples.{no_values, the_end, empty_text}
use Rattle.walrus_theorem.specs.Text.{BodyText, Text}

-- a body that names function 0 by ref.func, and drops it
abbrev pub names_itself : BodyText
names_itself = record {
  declarations = [];
  operators = record { op = 0xD2; args = args.Function 0 ∷ [] } ∷ record { op = 0x1A; args = [] } ∷ the_end ∷ [];
}

-- the function of that body is where the module starts; it is neither exported nor listed by a segment
abbrev pub undeclared_text : Text
undeclared_text = record empty_text { types = no_values ∷ []; functions = 0 ∷ []; start = Some 0; bodies = names_itself ∷ [] }

abbrev pub undeclared_bytes : List ℕ
undeclared_bytes = header ++ 0x01 ∷ 0x04 ∷ 0x01 ∷ 0x60 ∷ 0x00 ∷ 0x00
    ∷ 0x03 ∷ 0x02 ∷ 0x01 ∷ 0x00
    ∷ 0x08 ∷ 0x01 ∷ 0x00
    ∷ 0x0A ∷ 0x07 ∷ 0x01 ∷ 0x05 ∷ 0x00 ∷ 0xD2 ∷ 0x00 ∷ 0x1A ∷ 0x0B ∷ []

-- the same with the segment
abbrev pub declared_text : Text
declared_text = record undeclared_text { elements = record { mode = entries.DeclaredElements; items = entries.Functions (0 ∷ []) } ∷ [] }

abbrev pub declared_bytes : List ℕ
declared_bytes = header ++ 0x01 ∷ 0x04 ∷ 0x01 ∷ 0x60 ∷ 0x00 ∷ 0x00
    ∷ 0x03 ∷ 0x02 ∷ 0x01 ∷ 0x00
    ∷ 0x08 ∷ 0x01 ∷ 0x00
    ∷ 0x09 ∷ 0x05 ∷ 0x01 ∷ 0x03 ∷ 0x00 ∷ 0x01 ∷ 0x00
    ∷ 0x0A ∷ 0x07 ∷ 0x01 ∷ 0x05 ∷ 0x00 ∷ 0xD2 ∷ 0x00 ∷ 0x1A ∷ 0x0B ∷ []
