-- The steps at work on modules of one function, which is exported, with names, with producers and with other custom sections.
use Rattle.std.specs.Prelude.{ℕ, List, [], ◌∷◌, ◌++◌, Some, codes, ◌≡◌}
use Rattle.wasm_frames.specs.Record as frames
use Rattle.wasm_frames.specs.Frames.{header}
use Rattle.wasm_payloads.specs.declared.naming.NameSpace.{NameSpace}
use Rattle.wasm_payloads.specs.declared.naming.NameSpace.TheVariants as spaces
use Rattle.walrus_model.specs.Config.{Config}
use Rattle.walrus_model.specs.Producers.{walrus}
use Rattle.walrus_theorem.specs.Examples.{no_names, one_text, one_function_bytes}
use Rattle.walrus_theorem.specs.Headline.{ComesTo, ComesOutTooLarge}
use Rattle.walrus_theorem.specs.Text.{NameMap, Text}

-- a run on the first bytes comes to the second, to no others, and isn't too large
pub record ComesToAlone (c : Config) (input output : List ℕ) : Type 0 where
  pub comes : ComesTo c input output
  pub alone : (other : List ℕ) → ComesTo c input other → other ≡ output
  pub not_too_large : ComesOutTooLarge c input → ⊥

-- ---- producers: this program stands among them

abbrev pub produced_text : Text
produced_text = record one_text { producers = record { name = codes "processed-by"; values = walrus ∷ [] } ∷ [] }

abbrev pub produced_bytes : List ℕ
produced_bytes = one_function_bytes ++ 0x00 ∷ 0x27 ∷ 0x09 ∷ codes "producers" ++ 0x01 ∷ 0x0C ∷ codes "processed-by" ++ 0x01 ∷ 0x06 ∷ codes "walrus" ++ 0x06 ∷ codes "0.28.0"

-- ---- a section of dynamic linking, which stands in front, and another one, which stands behind

abbrev pub linking : frames.Custom
linking = record { name = codes "dylink.0"; bytes = 0x2A ∷ [] }

abbrev pub another : frames.Custom
another = record { name = codes "x"; bytes = 0x01 ∷ 0x02 ∷ [] }

abbrev pub customs_text : Text
customs_text = record one_text { dylinks = linking ∷ []; others = another ∷ [] }

abbrev pub customs_bytes : List ℕ
customs_bytes = header ++ 0x00 ∷ 0x0A ∷ 0x08 ∷ codes "dylink.0" ++ 0x2A
    ∷ 0x01 ∷ 0x04 ∷ 0x01 ∷ 0x60 ∷ 0x00 ∷ 0x00
    ∷ 0x03 ∷ 0x02 ∷ 0x01 ∷ 0x00
    ∷ 0x07 ∷ 0x05 ∷ 0x01 ∷ 0x01 ∷ 0x66 ∷ 0x00 ∷ 0x00
    ∷ 0x0A ∷ 0x04 ∷ 0x01 ∷ 0x02 ∷ 0x00 ∷ 0x0B
    ∷ 0x00 ∷ 0x04 ∷ 0x01 ∷ 0x78 ∷ 0x01 ∷ 0x02 ∷ []

-- ---- the module is named "m", and its function "a"

abbrev pub a_function : NameSpace → NameMap
a_function spaces.Functions = (0, codes "a") ∷ []
a_function space = []

abbrev pub named_text : Text
named_text = record one_text { names = record no_names { module_name = Some (codes "m"); items = a_function } }

abbrev pub named_bytes : List ℕ
named_bytes = one_function_bytes ++ 0x00 ∷ 0x0F ∷ 0x04 ∷ codes "name"
    ++ 0x00 ∷ 0x02 ∷ 0x01 ∷ 0x6D ∷ 0x01 ∷ 0x04 ∷ 0x01 ∷ 0x00 ∷ 0x01 ∷ 0x61 ∷ []
