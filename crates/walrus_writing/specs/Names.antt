-- What the name section says of a module's parts: the names of the module, of its items and of the used locals of its functions ("Appendix >
-- Custom Sections > Name Section").
use Rattle.std.specs.Prelude.{ℕ, Bool, true, false, List, [], ◌∷◌, filter_map, length, map, Option, Some, None, Result, Ok, Err, option_and_then, option_map, ◌≡◌, ⊤}
use Rattle.std.specs.Global.{Vec}
use Rattle.wasm_payloads.specs.Lent.{NamesFit}
use Rattle.wasm_payloads.specs.Spelling.{NameMap, NameText, names_bytes}
use Rattle.walrus_base.specs.Arena.{entries, entries_from, item_at}
use Rattle.walrus_base.specs.Locals.{locals}
use Rattle.walrus_base.specs.ModuleTypes.{type_names}
use Rattle.walrus_base.specs.Operators.{Space, Types, Functions, Tables, Memories, Tags, Globals, Elements, DataSegments}
use Rattle.walrus_base.specs.TypeDef.{name_bytes}
use Rattle.walrus_base.specs.declared.locals.Local.{Local}
use Rattle.walrus_items.specs.Data.{data_segments}
use Rattle.walrus_items.specs.Elements.{elements}
use Rattle.walrus_items.specs.Functions.{functions}
use Rattle.walrus_items.specs.Globals.{globals}
use Rattle.walrus_items.specs.Memories.{memories}
use Rattle.walrus_items.specs.Tables.{tables}
use Rattle.walrus_items.specs.Tags.{tags}
use Rattle.walrus_contents.specs.declared.parts.Parts.{Parts}
use Rattle.walrus_model.specs.Abstract.{Name}
use Rattle.walrus_model.specs.Plan as model
use Rattle.walrus_items.specs.declared.error.Error.{Error}
use Rattle.walrus_items.specs.declared.error.Error.TheVariants as errors
use Rattle.walrus_plan.specs.declared.plan.Plan.{Plan}
use Rattle.walrus_theorem.specs.Examples.{no_names}
use Rattle.walrus_theorem.specs.Namings.{space_of}

-- ---- items

-- the name of the item at a place, if one is there and has a name
abbrev pub item_name : Parts → Space → ℕ → Option Name
item_name p Types i = option_and_then (λ n. n) (item_at (type_names p.types.now) i)
item_name p Functions i = option_and_then (λ f. f.name) (item_at (functions p.funcs.now) i)
item_name p Tables i = option_and_then (λ t. t.name) (item_at (tables p.tables.now) i)
item_name p Memories i = option_and_then (λ m. m.name) (item_at (memories p.memories.now) i)
item_name p Tags i = option_and_then (λ t. t.name) (item_at (tags p.tags.now) i)
item_name p Globals i = option_and_then (λ g. g.name) (item_at (globals p.globals.now) i)
item_name p Elements i = option_and_then (λ e. e.name) (item_at (elements p.elements.now) i)
item_name p DataSegments i = option_and_then (λ d. d.name) (item_at (data_segments p.data_.now) i)

-- the names of the items of a space, each under its index: its place in the plan
abbrev pub item_names : Parts → model.Plan → Space → NameMap
item_names p plan space = entries (map (item_name p space) (plan space))

-- ---- locals

-- the name of the local at a place, if one is there and has a name
abbrev pub local_name : List (Option Local) → ℕ → Option Name
local_name all x = option_and_then (λ l. name_bytes l.name) (item_at all x)

-- those of these locals that are used
abbrev pub used_among : List ℕ → List Bool → List (Option ℕ)
used_among (x ∷ xs) (true ∷ us) = Some x ∷ used_among xs us
used_among (x ∷ xs) (false ∷ us) = None ∷ used_among xs us
used_among xs us = []

-- of the locals of a function, by their indices, those that are used, each with its index
abbrev pub used_listed : List ℕ → List Bool → List (ℕ × ℕ)
used_listed ids used = entries (used_among ids used)

-- one with its index
abbrev pub local_entry : List (Option Local) → ℕ × ℕ → Option (ℕ × Name)
local_entry all u = option_map (λ name. (u.0, name)) (local_name all u.1)

-- of locals with their indices, those that have a name
abbrev pub local_names : List (Option Local) → List (ℕ × ℕ) → NameMap
local_names all used = filter_map (local_entry all) used

-- a map that names something
abbrev pub filled : NameMap → Option NameMap
filled [] = None
filled (e ∷ es) = Some (e ∷ es)

-- the maps of functions with a body by their indices, the first of which is this one; of each body the used locals, with their indices
abbrev pub all_local_names : List (Option Local) → (first : ℕ) → List (List (ℕ × ℕ)) → List (ℕ × NameMap)
all_local_names all first bodies = entries_from first (map (λ used. filled (local_names all used)) bodies)

-- ---- all of it

abbrev pub names_said : Parts → model.Plan → (first : ℕ) → List (List (ℕ × ℕ)) → NameText
names_said p plan first bodies = record {
  module_name = name_bytes p.name.now;
  items = λ space. item_names p plan (space_of space);
  locals = all_local_names (locals p.locals.now) first bodies;
}

-- the index of the first function that the module defines
abbrev pub first_own : Plan → ℕ
first_own plan = length plan.brought_functions.items

-- names, where they are chosen
abbrev pub if_chosen : Bool → NameText → NameText
if_chosen true t = t
if_chosen false t = no_names

-- the payload of these names; none exactly where a count or a size in it passes 32 bits
abbrev pub SpellsNames : NameText → Result (Option (Vec ℕ)) Error → Type 0
SpellsNames t (Ok (Some bytes)) = bytes.items ≡ names_bytes t
SpellsNames t (Ok None) = NamesFit t → ⊥
SpellsNames t (Err (errors.Memory e)) = ⊤
SpellsNames t (Err _) = ⊥
