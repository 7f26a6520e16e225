-- What gc leaves of a module, and when it is refused.
use Rattle.std.specs.Prelude.{ℕ, ◌≡◌, List, length, Option, Some, Result, Ok, Err}
use Rattle.walrus_base.specs.Arena.{item_at}
use Rattle.walrus_base.specs.ModuleTypes.{type_names, type_slots}
use Rattle.walrus_base.specs.Operators.{Item, DataSegments, Elements, Functions, Globals, Memories, Tables, Tags, Types}
use Rattle.walrus_contents.specs.declared.parts.Contents.{Contents}
use Rattle.walrus_items.specs.Data.{data_segments}
use Rattle.walrus_items.specs.Elements.{elements}
use Rattle.walrus_items.specs.Functions.{functions}
use Rattle.walrus_items.specs.Globals.{globals}
use Rattle.walrus_items.specs.Imports.{imports}
use Rattle.walrus_items.specs.Memories.{memories}
use Rattle.walrus_items.specs.Tables.{tables}
use Rattle.walrus_items.specs.Tags.{tags}
use Rattle.walrus_items.specs.declared.custom.CustomSection.{Ghosts}
use Rattle.walrus_items.specs.declared.error.Error.{Error}
use Rattle.walrus_model.specs.Kept.{IsImportOf, Kept}
use Rattle.walrus_model.specs.Live.{IsLive}
use Rattle.walrus_model.specs.Pipeline.{Collected}
use Rattle.walrus_module.specs.Asked.{OneMayRefuse}
use Rattle.walrus_module.specs.Parsed.{ItemsAtOwnIds}
use Rattle.walrus_module.specs.Settings.{settings}
use Rattle.walrus_module.specs.View.{contents_of, meanings, view}
use Rattle.walrus_module.specs.declared.entry.SectionEntry.{SectionEntry}
use Rattle.walrus_module.specs.declared.module.Module.{Module}
use Rattle.walrus.specs.Marked.{ReachesSound, ReachesUnsound}
use Rattle.walrus.specs.Used.{RefusesSearch}

module _ {X : Type 0} where
  -- the chosen ones as they were, and no others; there are as many places, so that none is given again
  pub record KeepsOnly (K : ℕ → Type 0) (old new : List (Option X)) : Type 0 where
    pub kept : (i : ℕ) → K i → item_at new i ≡ item_at old i
    pub left : (i : ℕ) (x : X) → item_at new i ≡ Some x → K i × (item_at old i ≡ Some x)
    pub places : length new ≡ length old

-- what isn't a collection of items stays
pub record KeepsRest {S : Type 0} (old new : Module S) : Type 0 where
  pub locals : new.locals ≡ old.locals
  pub exports : new.exports ≡ old.exports
  pub customs : new.customs ≡ old.customs
  pub settings : settings new ≡ settings old
  pub producers : new.producers ≡ old.producers
  pub start : new.start ≡ old.start
  pub name : new.name ≡ old.name

-- of each collection those items are as they were of which K holds, each at its place, and those imports of which I does; the other places are empty
pub record KeepsItems (K : Item → Type 0) (I : ℕ → Type 0) (old new : Contents) : Type 0 where
  pub types : KeepsOnly (λ i. K (Types, i)) (type_slots old.types) (type_slots new.types)
  pub type_names : KeepsOnly (λ i. K (Types, i)) (type_names old.types) (type_names new.types)
  pub imports : KeepsOnly I (imports old.imports) (imports new.imports)
  pub functions : KeepsOnly (λ i. K (Functions, i)) (functions old.funcs) (functions new.funcs)
  pub tables : KeepsOnly (λ i. K (Tables, i)) (tables old.tables) (tables new.tables)
  pub memories : KeepsOnly (λ i. K (Memories, i)) (memories old.memories) (memories new.memories)
  pub tags : KeepsOnly (λ i. K (Tags, i)) (tags old.tags) (tags new.tags)
  pub globals : KeepsOnly (λ i. K (Globals, i)) (globals old.globals) (globals new.globals)
  pub elements : KeepsOnly (λ i. K (Elements, i)) (elements old.elements) (elements new.elements)
  pub data_segments : KeepsOnly (λ i. K (DataSegments, i)) (data_segments old.data_) (data_segments new.data_)

module _ {V : Type 0} {O : V → Type 0} (G : (v : V) → Ghosts (O v)) (old new : Module (SectionEntry V O)) where
  -- gc ran
  pub record Collects : Type 0 where
    -- in the words of the theorem: what is kept, its imports, and all else as it was
    pub collected : Collected (view G old) (view G new)
    -- what is kept, and the imports of that, in each collection
    pub items : KeepsItems (Kept (view G old)) (IsImportOf (Kept (view G old)) (view G old)) (contents_of old) (contents_of new)
    pub others : KeepsRest old new
    -- items that sat at their own ids still do
    pub own_ids : ItemsAtOwnIds (contents_of old) → ItemsAtOwnIds (contents_of new)
    -- all that was reached was there and well formed
    pub sound : ReachesSound (view G old)
    -- all that is left is kept: a second run deletes nothing
    pub settled : (x : Item) → IsLive (view G new) x → Kept (view G new) x

  -- it was refused as a search is, and nothing changed
  pub record StaysRefused (e : Error) : Type 0 where
    pub unchanged : new ≡ old
    pub refused : RefusesSearch (ReachesUnsound (view G old)) (OneMayRefuse (meanings G old)) e

  -- gc ran, or was refused
  abbrev pub CollectsOrStays : {X : Type 0} → Result X Error → Type 0
  CollectsOrStays (Ok x) = Collects
  CollectsOrStays (Err e) = StaysRefused e
