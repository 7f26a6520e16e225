-- Small modules, spelled, and texts that are refused.
use Rattle.std.specs.Prelude.{ℕ, true, false, List, [], ◌∷◌, ◌++◌, Some, None, codes, ◌≡◌}
use Rattle.wasm_forms.specs.declared.types.RawVal.TheVariants as vals
use Rattle.wasm_entries.specs.declared.record.RawExportKind.TheVariants as kinds
use Rattle.wasm_entries.specs.Record as entries
use Rattle.wasm_frames.specs.Frames.{header}
use Rattle.wasm_operators.specs.declared.operator.RawArg.TheVariants as args
use Rattle.wasm_operators.specs.Operators as wire
use Rattle.walrus_model.specs.Abstract.{Abstract, Body, Table}
use Rattle.walrus_model.specs.Config.{Config}
use Rattle.walrus_model.specs.Examples.{two_functions}
use Rattle.walrus_model.specs.Examples as small
use Rattle.walrus_theorem.specs.Headline.{ReadsModule, ComesTo, ComesOutTooLarge}
use Rattle.walrus_theorem.specs.Text.{BodyText, NameText, Text, said_by}
use Rattle.walrus_theorem.specs.Spelling.{BodyStands, UsesAll, IsChosen, IsCount, MapStands, IsSpelling, IsSpelledAs, SpelledOnce}

-- ---- the worked row: one function, exported as "f"

abbrev pub no_values : entries.Group
no_values = record { is_final = true; supers = []; comp = entries.Function (record { params = []; results = [] }) } ∷ []

abbrev pub the_end : wire.Op
the_end = record { op = 0x0B; args = [] }

abbrev pub empty_body : BodyText
empty_body = record { declarations = []; operators = the_end ∷ [] }

abbrev pub no_names : NameText
no_names = record { module_name = None; items = λ space. []; locals = [] }

abbrev pub empty_text : Text
empty_text = record {
  dylinks = [];
  types = [];
  imports = [];
  functions = [];
  tables = [];
  memories = [];
  tags = [];
  globals = [];
  exports = [];
  start = None;
  elements = [];
  data_count = None;
  bodies = [];
  data_segments = [];
  names = no_names;
  producers = [];
  others = [];
}

abbrev pub one_text : Text
one_text = record empty_text {
  types = no_values ∷ [];
  functions = 0 ∷ [];
  exports = record { name = codes "f"; kind = kinds.Function; index = 0 } ∷ [];
  bodies = empty_body ∷ [];
}

abbrev pub one_function : Abstract
one_function = said_by one_text

abbrev pub one_function_bytes : List ℕ
one_function_bytes = header ++ 0x01 ∷ 0x04 ∷ 0x01 ∷ 0x60 ∷ 0x00 ∷ 0x00
    ∷ 0x03 ∷ 0x02 ∷ 0x01 ∷ 0x00
    ∷ 0x07 ∷ 0x05 ∷ 0x01 ∷ 0x01 ∷ 0x66 ∷ 0x00 ∷ 0x00
    ∷ 0x0A ∷ 0x04 ∷ 0x01 ∷ 0x02 ∷ 0x00 ∷ 0x0B ∷ []

-- the same with the size of the type section in two bytes
abbrev pub padded_bytes : List ℕ
padded_bytes = header ++ 0x01 ∷ 0x84 ∷ 0x00 ∷ 0x01 ∷ 0x60 ∷ 0x00 ∷ 0x00
    ∷ 0x03 ∷ 0x02 ∷ 0x01 ∷ 0x00
    ∷ 0x07 ∷ 0x05 ∷ 0x01 ∷ 0x01 ∷ 0x66 ∷ 0x00 ∷ 0x00
    ∷ 0x0A ∷ 0x04 ∷ 0x01 ∷ 0x02 ∷ 0x00 ∷ 0x0B ∷ []

-- ---- texts that don't stand

-- the body 00 41 80 00 1A 0B as an operator with junk for its argument
abbrev pub padded : BodyText
padded = record { declarations = []; operators = record { op = 0x41; args = args.Byte 0x80 ∷ args.Byte 0x00 ∷ [] } ∷ record { op = 0x1A; args = [] } ∷ the_end ∷ [] }

abbrev pub turned : BodyText
turned = record { declarations = (1, vals.I64) ∷ (1, vals.I32) ∷ []; operators = the_end ∷ [] }

abbrev pub split : BodyText
split = record { declarations = (1, vals.I32) ∷ (2, vals.I32) ∷ []; operators = the_end ∷ [] }

abbrev pub none_declared : BodyText
none_declared = record { declarations = (0, vals.I32) ∷ []; operators = the_end ∷ [] }

-- a body with one local that nothing uses
abbrev pub idle : Body
idle = record { parameters = []; local_type = λ x. None; declared = 1; operators = record { op = 0x0B; args = [] } ∷ [] }

-- an empty group in front
abbrev pub with_empty_group : Text
with_empty_group = record one_text { types = [] ∷ no_values ∷ [] }

pub record AreRefused : Type 0 where
  pub padded_operator : BodyStands padded → ⊥
  pub types_turned : BodyStands turned → ⊥
  pub type_twice : BodyStands split → ⊥
  pub none : BodyStands none_declared → ⊥
  pub unused : UsesAll idle → ⊥
  pub empty_group : (n : Abstract) → IsSpelling n with_empty_group → ⊥
  pub table_named : (n : Abstract) (t : Table) → n.tables 0 ≡ Some t → t.ty.limits.wide ≡ false → IsChosen n (entries.ActiveElements (Some 0) []) (entries.Functions []) → ⊥
  pub table_unnamed : (n : Abstract) (t : Table) → n.tables 0 ≡ Some t → t.ty.limits.wide ≡ true → IsChosen n (entries.ActiveElements None []) (entries.Functions []) → ⊥
  pub idle_count : IsCount one_function 0 (Some 0) → ⊥
  pub named_twice : MapStands ((0, codes "a") ∷ (0, codes "b") ∷ []) → ⊥
  pub turned_names : MapStands ((1, codes "a") ∷ (0, codes "b") ∷ []) → ⊥
  pub padded_size : SpelledOnce → IsSpelledAs one_function padded_bytes → ⊥

-- ---- the row with two functions, of which gc drops the first (`two_functions` of `walrus_model`, and what comes out of it)

-- 35 bytes: two empty functions of the type with no parameters and no results; the export "f" names function 1
abbrev pub two_functions_bytes : List ℕ
two_functions_bytes =
    0x00 ∷ 0x61 ∷ 0x73 ∷ 0x6D ∷ 0x01 ∷ 0x00 ∷ 0x00 ∷ 0x00
    ∷ 0x01 ∷ 0x04 ∷ 0x01 ∷ 0x60 ∷ 0x00 ∷ 0x00
    ∷ 0x03 ∷ 0x03 ∷ 0x02 ∷ 0x00 ∷ 0x00
    ∷ 0x07 ∷ 0x05 ∷ 0x01 ∷ 0x01 ∷ 0x66 ∷ 0x00 ∷ 0x01
    ∷ 0x0A ∷ 0x07 ∷ 0x02 ∷ 0x02 ∷ 0x00 ∷ 0x0B ∷ 0x02 ∷ 0x00 ∷ 0x0B ∷ []

-- these bytes, and those of the worked row, read as the two modules, under any configuration; and the second is spelled so
pub record ExamplesAreRead : Type 0 where
  pub reads : (c : Config) → ReadsModule c two_functions_bytes two_functions
  pub written_reads : (c : Config) → ReadsModule c one_function_bytes small.one_function
  pub spelled : IsSpelledAs small.one_function one_function_bytes

-- where neither names nor producers are written, a run on the first bytes comes to the second, to no others, and isn't too large
pub record RowRuns (c : Config) : Type 0 where
  pub comes : ComesTo c two_functions_bytes one_function_bytes
  pub alone : (output : List ℕ) → ComesTo c two_functions_bytes output → output ≡ one_function_bytes
  pub not_too_large : ComesOutTooLarge c two_functions_bytes → ⊥
