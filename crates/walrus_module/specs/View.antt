-- A module in memory as an abstract module: that of what it holds, with its custom sections ("Binary Format > Custom Section").
use Rattle.std.specs.Prelude.{ℕ, Bool, true, false, List, [], filter, flat_map, map, ◌≡◌}
use Rattle.walrus_base.specs.Arena.{items}
use Rattle.walrus_base.specs.Operators.{Space, Types, Functions, Tables, Memories, Tags, Globals, Elements, DataSegments, Item}
use Rattle.walrus_items.specs.declared.custom.CustomSection.{Ghosts}
use Rattle.walrus_model.specs.Abstract.{Abstract, Custom}
use Rattle.walrus_module.specs.Customs.{sections}
use Rattle.walrus_module.specs.Meaning.{Meaning, meaning}
use Rattle.walrus_items.specs.Functions.{functions}
use Rattle.walrus_writing.specs.Parts.{local_in}
use Rattle.walrus_writing.specs.Transform.{locations_in}
use Rattle.walrus_module.specs.declared.customs.ModuleCustomSections.{ModuleCustomSections}
use Rattle.walrus_module.specs.declared.entry.SectionEntry.{SectionEntry}
pub use Rattle.walrus_contents.specs.View.{types_of, is_declared, body, kind_of, kind_handlers, handlers_at, function, functions_of, export_of, exports_of, imports_of, tables_of, memories_of, tags_of, globals_of, elements_of, data_segments_of, parts_view}
use Rattle.walrus_contents.specs.View.{HoldsNothing, contents_view}
use Rattle.walrus_contents.specs.declared.parts.Contents.{Contents}
use Rattle.walrus_module.specs.declared.module.Module.{Module}

module _ {S : Type 0} where
  -- what it holds, custom sections aside
  abbrev pub contents_of : Module S → Contents
  contents_of m = record {
    types = m.types;
    locals = m.locals;
    imports = m.imports;
    funcs = m.funcs;
    tables = m.tables;
    memories = m.memories;
    tags = m.tags;
    globals = m.globals;
    elements = m.elements;
    data_ = m.data_;
    exports = m.exports;
    start = m.start;
    producers = m.producers;
    name = m.name;
  }

  -- the module of that
  abbrev pub held_view : Module S → Abstract
  held_view m = contents_view (contents_of m)

  -- the locations of the operators of a function with a body, by its place
  abbrev pub locations_of : Module S → ℕ → List ℕ
  locations_of m number = locations_in (local_in (functions m.funcs) number)

module _ {V : Type 0} {O : V → Type 0} where
  -- its custom sections, by their ids
  abbrev pub customs_of : Module (SectionEntry V O) → List (SectionEntry V O)
  customs_of m = items (sections m.customs)

  -- it has no custom sections, dropped ones included
  abbrev pub HasNoCustoms : Module (SectionEntry V O) → Type 0
  HasNoCustoms m = sections m.customs ≡ []

  -- it holds nothing, dropped items included
  abbrev pub IsEmpty : Module (SectionEntry V O) → Type 0
  IsEmpty m = HoldsNothing (contents_of m) × HasNoCustoms m

-- a section can ask to keep items of this space: neither types nor segments
abbrev pub can_be_kept : Space → Bool
can_be_kept Functions = true
can_be_kept Tables = true
can_be_kept Memories = true
can_be_kept Tags = true
can_be_kept Globals = true
can_be_kept Types = false
can_be_kept Elements = false
can_be_kept DataSegments = false

-- a section as it is written: its name, and its data under the indices of items
abbrev pub custom_of : Meaning → Custom
custom_of s = record { name = s.name; data_under = λ indices. s.contents (λ space i. indices (space, i)) }

-- what sections of these meanings ask to keep, in their order
abbrev pub kept_by : List Meaning → List Item
kept_by ss = filter (λ (x : Item). can_be_kept x.0) (flat_map (λ (s : Meaning). s.roots) ss)

-- a module with custom sections of its own that mean this
abbrev pub with_sections : Abstract → List Meaning → Abstract
with_sections v ss = record v { customs = map custom_of ss; section_roots = kept_by ss }

module _ {V : Type 0} {O : V → Type 0} (G : (v : V) → Ghosts (O v)) where
  -- what custom sections mean, by their ids
  abbrev pub meant : ModuleCustomSections (SectionEntry V O) → List Meaning
  meant customs = map (meaning G) (items (sections customs))

  -- what the custom sections of a module mean, by their ids
  abbrev pub meanings : Module (SectionEntry V O) → List Meaning
  meanings m = map (meaning G) (customs_of m)

  abbrev pub view : Module (SectionEntry V O) → Abstract
  view m = record (held_view m) { customs = map custom_of (meanings m); section_roots = kept_by (meanings m) }
