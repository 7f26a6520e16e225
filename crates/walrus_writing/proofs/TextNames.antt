-- The names of parts are text.
use Rattle.std.proofs.Common.{◌≡◌, ℕ, zero, suc, List, [], ◌∷◌, subst, Some, None}
use Rattle.std.specs.Prelude.{Option, String, option_and_then, option_map}
use Rattle.std.specs.Str.{IsUtf8}
use Rattle.std.specs.String.{string_bytes}
use Rattle.std.proofs.lemmas.Str.{IsUtf8-string_bytes}
use Rattle.walrus_base.specs.Arena.{item_at, slots}
use Rattle.walrus_items.specs.Seen.{seen}
use Rattle.walrus_items.specs.Data.{DataValue, data_value}
use Rattle.walrus_items.specs.Elements.{ElementValue, element_value}
use Rattle.walrus_items.specs.Functions.{FunctionValue, function_value}
use Rattle.walrus_items.specs.Globals.{GlobalValue, global_value}
use Rattle.walrus_items.specs.Memories.{MemoryValue, memory_value}
use Rattle.walrus_items.specs.Tables.{TableValue, table_value}
use Rattle.walrus_items.specs.Tags.{TagValue, tag_value}
use Rattle.walrus_items.specs.declared.data.Data.{Data}
use Rattle.walrus_items.specs.declared.elements.Element.{Element}
use Rattle.walrus_items.specs.declared.functions.Function.{Function}
use Rattle.walrus_items.specs.declared.globals.Global.{Global}
use Rattle.walrus_items.specs.declared.memories.Memory.{Memory}
use Rattle.walrus_items.specs.declared.tables.Table.{Table}
use Rattle.walrus_items.specs.declared.tags.Tag.{Tag}
use Rattle.walrus_base.specs.TypeDef.{name_bytes, type_name}
use Rattle.walrus_base.specs.Operators.{Space, Types, Functions, Tables, Memories, Tags, Globals, Elements, DataSegments}
use Rattle.walrus_base.specs.declared.locals.Local.{Local}
use Rattle.walrus_base.specs.declared.types.Type.{«Type»}
use Rattle.walrus_contents.specs.declared.parts.Parts.{Parts}
use Rattle.walrus_model.specs.Abstract.{Name}
use Rattle.walrus_theorem.specs.Spelling.{NameStands}
use Rattle.walrus_writing.specs.Names.{item_name, local_name}

pub text_stands : {A : Type 0} (o : Option (String A)) → NameStands (option_map string_bytes o)
text_stands None = tt
text_stands (Some text) = IsUtf8-string_bytes text

name_stands : {T U : Type 0} (value : T → U) (name : U → Option Name) → ((x : T) → NameStands (name (value x))) → (slots : List (Option T)) (i : ℕ) → NameStands (option_and_then name (item_at (seen value slots) i))
name_stands value name texts [] i = tt
name_stands value name texts (None ∷ slots) zero = tt
name_stands value name texts (Some x ∷ slots) zero = texts x
name_stands value name texts (s ∷ slots) (suc i) = name_stands value name texts slots i

pub item_stands : (p : Parts) (s : Space) (i : ℕ) → NameStands (item_name p s i)
item_stands p Types i = name_stands type_name (λ (n : Option Name). n) (λ (x : «Type»). text_stands x.name) p.types.now.places.items i
item_stands p Functions i = name_stands function_value (λ (f : FunctionValue). f.name) (λ (x : Function). text_stands x.name) (slots p.funcs.now.arena) i
item_stands p Tables i = name_stands table_value (λ (t : TableValue). t.name) (λ (x : Table). text_stands x.name) (slots p.tables.now.arena) i
item_stands p Memories i = name_stands memory_value (λ (m : MemoryValue). m.name) (λ (x : Memory). text_stands x.name) (slots p.memories.now.arena) i
item_stands p Tags i = name_stands tag_value (λ (t : TagValue). t.name) (λ (x : Tag). text_stands x.name) (slots p.tags.now.arena) i
item_stands p Globals i = name_stands global_value (λ (g : GlobalValue). g.name) (λ (x : Global). text_stands x.name) (slots p.globals.now.arena) i
item_stands p Elements i = name_stands element_value (λ (e : ElementValue). e.name) (λ (x : Element). text_stands x.name) (slots p.elements.now.arena) i
item_stands p DataSegments i = name_stands data_value (λ (d : DataValue). d.name) (λ (x : Data). text_stands x.name) (slots p.data_.now.arena) i

local_by : (o : Option Local) → NameStands (option_and_then (λ (l : Local). name_bytes l.name) o)
local_by None = tt
local_by (Some l) = text_stands l.name

pub local_stands : (all : List (Option Local)) (x : ℕ) → NameStands (local_name all x)
local_stands all x = local_by (item_at all x)

pub module_stands : (p : Parts) → NameStands (name_bytes p.name.now)
module_stands p = text_stands p.name.now

pub stands_some : (o : Option Name) (name : Name) → NameStands o → o ≡ Some name → IsUtf8 name
stands_some o name h is = subst NameStands is h
