-- The names of a module, and what it was made with, as lines of text.
use Rattle.std.specs.Prelude.{◌≡◌, ◌≢◌, ◌+◌, ℕ, Bool, ltb, List, [], ◌∷◌, ◌++◌, length, codes}
use Rattle.std.specs.Fmt.{decimal}
use Rattle.wasm_forms.specs.Spelling.{row_bytes}
use Rattle.wasm_frames.specs.Record.{Custom, Module}
use Rattle.wasm_payloads.specs.Names.{Named, ModuleName, ItemName, LocalName, Names}
use Rattle.wasm_payloads.specs.Producers.{Field, Fields}
use Rattle.wasm_payloads.specs.declared.naming.NameSpace.{NameSpace}
use Rattle.wasm_payloads.specs.declared.naming.NameSpace.TheVariants.{Functions, Types, Tables, Memories, Globals, Elements, DataSegments, Tags}
use Rattle.wasm_wire.specs.Context.{imported, desc_function}

abbrev pub word_of : NameSpace → List ℕ
word_of Functions = codes "function"
word_of Types = codes "type"
word_of Tables = codes "table"
word_of Memories = codes "memory"
word_of Globals = codes "global"
word_of Elements = codes "element"
word_of DataSegments = codes "data"
word_of Tags = codes "tag"

-- the line of a naming: what is named, and the name between quotes
abbrev pub naming_line : Named → List ℕ
naming_line (ModuleName n) = codes "module \"" ++ (n ++ codes "\"\n")
naming_line (ItemName space i n) = word_of space ++ (codes " " ++ (decimal i ++ (codes " \"" ++ (n ++ codes "\"\n"))))
naming_line (LocalName f i n) = codes "local " ++ (decimal f ++ (codes " " ++ (decimal i ++ (codes " \"" ++ (n ++ codes "\"\n")))))

-- the line of a field's value, and those of a field
abbrev pub value_line : List ℕ → List ℕ × List ℕ → List ℕ
value_line field value = codes "producers " ++ (field ++ (codes " \"" ++ (value.0 ++ (codes "\" \"" ++ (value.1 ++ codes "\"\n")))))

abbrev pub field_lines : Field → List ℕ
field_lines f = row_bytes (value_line f.0) f.1

-- the lines of a custom section: of its namings, where it is `name`, and of its fields, where it is `producers`, before a fault
pub data IsListed (known : ℕ → Bool) (section : Custom) (text : List ℕ) : Type 0 where
  of_names : (names : List Named) → section.name ≡ codes "name" → Names known section.bytes names → text ≡ row_bytes naming_line names → IsListed known section text
  of_producers : (fields : List Field) → section.name ≡ codes "producers" → Fields section.bytes fields → text ≡ row_bytes field_lines fields → IsListed known section text
  of_others : section.name ≢ codes "name" → section.name ≢ codes "producers" → text ≡ [] → IsListed known section text

-- the lines of custom sections, one behind the other
abbrev pub AreListed : (ℕ → Bool) → List Custom → List ℕ → Type 0
AreListed known [] text = text ≡ []
AreListed known (c ∷ cs) text = (first : List ℕ) × ((others : List ℕ) × (IsListed known c first × AreListed known cs others × (text ≡ first ++ others)))

-- whether an index is one of so many
abbrev pub is_below : ℕ → ℕ → Bool
is_below n i = ltb i n

-- whether the module has a function of this index
abbrev pub has_function : Module → ℕ → Bool
has_function m = is_below (length (imported desc_function m.imports) + length m.functions)
