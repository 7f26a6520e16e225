-- What is told of the items of a module, as values.
use Rattle.std.specs.Prelude.{ℕ, suc, ◌≡◌, Bool, true, false, not, List, [], ◌∷◌, ◌++◌, Option, None, Some, codes, filter, flat_map, map, option_and_then, option_to_list, zip}
use Rattle.std.specs.List.{AllZip}
use Rattle.walrus.specs.Base.Arena.{entries, item_at, items, live_places}
use Rattle.walrus.specs.Base.ModuleTypes.{type_names, type_slots}
use Rattle.walrus.specs.Base.TypeDef.{name_bytes}
use Rattle.walrus.specs.Base.ModuleTypesValue.{ModuleTypes}
use Rattle.walrus.specs.Code.Names.{Lookup}
use Rattle.walrus_groups.specs.Indexed.{AreIndexed, NumbersTypes}
use Rattle.walrus.specs.Items.Data.{data_segments}
use Rattle.walrus.specs.Items.Elements.{elements}
use Rattle.walrus.specs.Items.Functions.{functions}
use Rattle.walrus.specs.Items.Globals.{globals}
use Rattle.walrus.specs.Items.Memories.{memories}
use Rattle.walrus.specs.Items.Tables.{tables}
use Rattle.walrus.specs.Items.Tags.{tags}
use Rattle.walrus.specs.Contents.Contents.{Contents}
use Rattle.walrus.specs.Model.Sections.{is_apart}
use Rattle.walrus_producers.specs.Producers.{ProducerField, ProducerValue}
use Rattle.walrus_producers.specs.Seen.{producers}
use Rattle.walrus.specs.Theorem.Headline.{has_function, payloads}
use Rattle.wasm_entries.specs.Record.{Group, Import}
use Rattle.wasm_entries.specs.declared.record.RawDesc.{RawDesc}
use Rattle.wasm_entries.specs.declared.record.RawDesc.TheVariants as descs
use Rattle.walrus.specs.Frames.Record as wire
use Rattle.wasm_payloads.specs.Names.{Named, ModuleName, ItemName, LocalName, Names}
use Rattle.walrus_edit_list.specs.declared.numbers.TheConstants.{OF_TYPE, OF_TABLE, OF_MEMORY, OF_GLOBAL, OF_ELEMENT, OF_FUNCTION, OF_DATA, OF_TAG, OF_MODULE}
use Rattle.walrus_edits.specs.ItemRecords.{Told, AGroup, AnImport, Brought, AFunction, ATable, AMemory, ATag, AGlobal, AnExport, TheStart, AnElement, ASegment, ACustom, AProducer, AName, ALocalName}

-- ---- by kind

abbrev pub is_function : RawDesc → Bool
is_function (descs.Function ty) = true
is_function (descs.Table ty) = false
is_function (descs.Memory limits) = false
is_function (descs.Global ty) = false
is_function (descs.Tag ty) = false

-- an import, and what it brings
abbrev pub with_brought : Import → List Told
with_brought i = AnImport i ∷ Brought i.desc ∷ []

-- an import brings a function
abbrev pub brings_function : Import → Bool
brings_function i = is_function i.desc

-- functions, each by its type and its body
abbrev pub functions_in : List (wire.Body × ℕ) → List Told
functions_in fs = map (λ f. AFunction f.1 f.0) fs

-- the custom sections that have an id: all but names, producers and debug information
abbrev pub with_ids : List wire.Custom → List wire.Custom
with_ids cs = filter (λ (c : wire.Custom). not (is_apart c.name)) cs

-- custom sections, the first of which has this id
abbrev pub customs_from : (id : ℕ) → List wire.Custom → List Told
customs_from id [] = []
customs_from id (c ∷ cs) = ACustom id c ∷ customs_from (suc id) cs

-- the producers of a field, and those of fields
abbrev pub producers_of : (field : List ℕ) → List ProducerValue → List Told
producers_of field vs = map (λ v. AProducer field v.name v.version) vs

abbrev pub producers_in : List ProducerField → List Told
producers_in fs = flat_map (λ f. producers_of f.name f.values) fs

-- the name of that of this id, where it has one
abbrev pub named : (what id : ℕ) → Option (List ℕ) → List Told
named what id None = []
named what id (Some name) = AName what id name ∷ []

-- the names of these items, each with its id
abbrev pub names_in : {A : Type 0} → (what : ℕ) → (A → Option (List ℕ)) → List (ℕ × A) → List Told
names_in what name_of all = flat_map (λ e. named what e.0 (name_of e.1)) all

-- the names of the types of these ids
abbrev pub type_names_in : List (Option (Option (List ℕ))) → (ids : List ℕ) → List Told
type_names_in names ids = flat_map (λ id. named OF_TYPE id (option_and_then (λ n. n) (item_at names id))) ids

-- the names that a module holds, but those of locals
abbrev pub all_names : Contents → List Told
all_names c = named OF_MODULE 0 (name_bytes c.name) ++ type_names_in (type_names c.types) (live_places (type_slots c.types))
    ++ names_in OF_FUNCTION (λ f. f.name) (entries (functions c.funcs)) ++ names_in OF_TABLE (λ t. t.name) (entries (tables c.tables))
    ++ names_in OF_MEMORY (λ m. m.name) (entries (memories c.memories)) ++ names_in OF_GLOBAL (λ g. g.name) (entries (globals c.globals))
    ++ names_in OF_TAG (λ t. t.name) (entries (tags c.tags)) ++ names_in OF_ELEMENT (λ e. e.name) (entries (elements c.elements))
    ++ names_in OF_DATA (λ d. d.name) (entries (data_segments c.data_))

-- the name of a local, as a section called `name` says it
abbrev pub local_named : Named → List Told
local_named (ModuleName name) = []
local_named (ItemName space i name) = []
local_named (LocalName f x name) = ALocalName f x name ∷ []

-- what sections hold but types and custom sections, kind by kind
abbrev pub section_parts : wire.Module → List (List Told)
section_parts s = flat_map with_brought s.imports ∷ functions_in (zip s.bodies s.functions) ∷ map ATable s.tables ∷ map AMemory s.memories ∷ map ATag s.tags
    ∷ map AGlobal s.globals ∷ map AnExport s.exports ∷ map TheStart (option_to_list s.start) ∷ map AnElement s.elements ∷ map ASegment s.data_segments ∷ []

-- ---- all of it

-- these groups read as the types of the module, each under the index of its place
pub record AreGroups (types : ModuleTypes) (groups : List Group) : Type 0 where
  pub names : Lookup
  pub numbered : NumbersTypes names (type_slots types)
  pub indexed : AreIndexed names (items (type_slots types)) groups

-- What is told of a module whose sections hold this, whose types are these groups, which holds these contents, and where these names of locals are
-- told: its types; what its sections hold; custom sections, each by the number of such in front; producers; names; and those of locals.
abbrev pub told_parts : wire.Module → List Group → Contents → List Told → List (List Told)
told_parts s groups c locals = map AGroup groups ∷ (section_parts s
    ++ customs_from 0 (with_ids s.customs) ∷ producers_in (producers c.producers) ∷ all_names c ∷ locals ∷ [])

-- all that is told; the names of locals are those that the sections called `name` say, in their order
pub record AreTold (sections : wire.Module) (groups : List Group) (contents : Contents) (told : List Told) : Type 0 where
  pub namings : List (List Named)
  pub named : AllZip (Names (has_function sections)) (payloads (codes "name") sections) namings
  pub are : told ≡ flat_map (λ part. part) (told_parts sections groups contents (flat_map local_named (flat_map (λ ns. ns) namings)))
