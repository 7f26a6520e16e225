-- What a writer of names is lent, without where it lies in memory.
use Rattle.std.specs.Prelude.{ℕ, List, [], ◌∷◌, map, Option, Some, None}
use Rattle.std.specs.Borrow.{Bor}
use Rattle.wasm_forms.specs.Writing.{FitsLength, FitsVector, EachFits}
use Rattle.wasm_forms.specs.Spelling.{block_bytes, vector_bytes}
use Rattle.wasm_payloads.specs.declared.naming.NameSpace.{NameSpace}
use Rattle.wasm_payloads.specs.declared.naming.NameSpace.TheVariants as spaces
use Rattle.wasm_payloads.specs.declared.spell_names.RawName.{RawName}
use Rattle.wasm_payloads.specs.declared.spell_names.RawLocals.{RawLocals}
use Rattle.wasm_payloads.specs.declared.spell_names.RawNames.{RawNames}
use Rattle.wasm_payloads.specs.Spelling.{NameMap, NameText, entry_bytes, function_bytes, further_spaces}

abbrev pub entry : RawName → ℕ × List ℕ
entry n = (n.index, n.name.now)

abbrev pub entries : List RawName → NameMap
entries ns = map entry ns

abbrev pub locals_entry : RawLocals → ℕ × NameMap
locals_entry l = (l.function, entries l.names.items)

abbrev pub text_of : Option (Bor (List ℕ)) → Option (List ℕ)
text_of None = None
text_of (Some name) = Some name.now

abbrev pub items_of : RawNames → NameSpace → NameMap
items_of n spaces.Functions = entries n.functions.items
items_of n spaces.Types = entries n.types.items
items_of n spaces.Tables = entries n.tables.items
items_of n spaces.Memories = entries n.memories.items
items_of n spaces.Globals = entries n.globals.items
items_of n spaces.Elements = entries n.elements.items
items_of n spaces.DataSegments = entries n.data_segments.items
items_of n spaces.Tags = entries n.tags.items

abbrev pub text : RawNames → NameText
text n = record { module_name = text_of n.module_name; items = items_of n; locals = map locals_entry n.locals.items }

-- ---- what fits: each count, and the size of each text and each subsection

abbrev pub EntryFits : ℕ × List ℕ → Type 0
EntryFits e = FitsLength e.1

abbrev pub FunctionFits : ℕ × NameMap → Type 0
FunctionFits f = FitsVector EntryFits f.1

abbrev pub PartFits : {X : Type 0} → (X → List ℕ) → (X → Type 0) → List X → Type 0
PartFits spell F [] = Unit {0}
PartFits spell F (x ∷ xs) = FitsVector F (x ∷ xs) × FitsLength (vector_bytes spell (x ∷ xs))

abbrev pub ModuleNameFits : Option (List ℕ) → Type 0
ModuleNameFits None = Unit {0}
ModuleNameFits (Some name) = FitsLength name × FitsLength (block_bytes name)

abbrev pub SpaceFits : NameText → NameSpace → Type 0
SpaceFits t space = PartFits entry_bytes EntryFits (t.items space)

pub record NamesFit (t : NameText) : Type 0 where
  pub module_name : ModuleNameFits t.module_name
  pub functions : SpaceFits t spaces.Functions
  pub locals : PartFits function_bytes FunctionFits t.locals
  pub further : EachFits (SpaceFits t) further_spaces
