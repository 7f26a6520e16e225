-- Each edit leaves the types of tags.
use Rattle.std.proofs.Common.{◌≡◌, ℕ, List, [], ◌∷◌, ◌++◌, map, refl, sym, ap, ◌∙◌}
use Rattle.std.specs.Prelude.{Option, Some, None, slice_get, slice_set}
use Rattle.wasm_entries.specs.Record as entries
use Rattle.wasm_entries.specs.declared.record.RawDesc.{RawDesc}
use Rattle.wasm_entries.specs.declared.record.RawDesc.TheVariants as descs
use Rattle.wasm_frames.specs.Frames as frames
use Rattle.wasm_frames.specs.Frames.{Section}
use Rattle.walrus_base.specs.Arena.{item_at, items}
use Rattle.walrus_base.specs.Operators.{Space, Types, Functions, Tables, Memories, Tags, Globals, Elements, DataSegments}
use Rattle.walrus_bodies.specs.declared.features.Features.{Features}
use Rattle.walrus_contents.specs.declared.parts.Contents.{Contents}
use Rattle.walrus_items.specs.Tags.{ModuleTags, TagValue, tags}
use Rattle.walrus_reading.proofs.EditedSlots.{split}
use Rattle.walrus_edit_list.specs.Data.{AddsSegment}
use Rattle.walrus_edit_list.specs.Edits as edits
use Rattle.walrus_edit_list.specs.Edits.{Named, Said, Setting, The, TheModule}
use Rattle.walrus_edit_list.specs.Elements.{AddsElement}
use Rattle.walrus_edit_list.specs.Exports.{AddsExport}
use Rattle.walrus_edit_list.specs.Globals.{AddsGlobal}
use Rattle.walrus_edit_list.specs.Held.{Held}
use Rattle.walrus_edit_list.specs.Ids.{tag_types}
use Rattle.walrus_edit_list.specs.Imports.{AddsImport, Brings}
use Rattle.walrus_edit_list.specs.Makes.{ACustom, AddsSection, AnElement, AnExport, Deleted, DeletesItem, Makes, SetsItem, SomeData, deleted}
use Rattle.walrus_edit_list.specs.Naming.{GivesName, NamesItem, space_of}
use Rattle.walrus_edit_list.specs.Turns.{InTurn}

abbrev Same : (old new : Contents) → Type 0
Same old new = new.tags ≡ old.tags

abbrev tags_of : Contents → ModuleTags
tags_of m = m.tags

in_turn : {A : Type 0} (One : A → (old new : Contents) → Type 0) → ((x : A) (a b : Contents) → One x a b → Same a b) → (xs : List A) (old new : Contents) → InTurn One xs old new → Same old new
in_turn One each [] old new same = ap tags_of same
in_turn One each (x ∷ xs) old new (middle, first, more) = in_turn One each xs middle new more ∙ each x old middle first

desc_kept : (d : RawDesc) (from name : List ℕ) (a b : Contents) → Brings d from name a b → Same a b
desc_kept (descs.Function t) from name a b made = ap tags_of made.4
desc_kept (descs.Global t) from name a b made = ap tags_of made.4
desc_kept (descs.Table t) from name a b made = absurd made
desc_kept (descs.Memory t) from name a b made = absurd made
desc_kept (descs.Tag t) from name a b made = absurd made

import_kept : (i : entries.Import) (a b : Contents) → AddsImport i a b → Same a b
import_kept i a b made = desc_kept i.desc i.from i.name a b made

section_kept : (s : Section) (old new : Held) → AddsSection s old new → Same old.contents new.contents
section_kept (frames.CustomSection c) old new made = ap (λ (h : Held). h.contents.tags) made.1
section_kept (frames.Types gs) old new made = ap (λ (h : Held). h.contents.tags) made.others
section_kept (frames.Imports is) old new made = in_turn AddsImport import_kept is old.contents new.contents made.0
section_kept (frames.Globals gs) old new made = in_turn AddsGlobal (λ g a b h. ap tags_of h.only) gs old.contents new.contents made.0
section_kept (frames.Exports es) old new made = in_turn AddsExport (λ e a b h. ap tags_of h.3) es old.contents new.contents made.0
section_kept (frames.Start f) old new made = ap tags_of made.0.3
section_kept (frames.Elements es) old new made = in_turn AddsElement (λ e a b h. ap tags_of h.only) es old.contents new.contents made.0
section_kept (frames.DataSegments ds) old new made = in_turn AddsSegment (λ d a b h. ap tags_of h.only) ds old.contents new.contents made.0
section_kept _ old new made = absurd made

setting_kept : (f : Features) (s : Setting) (old new : Held) → SetsItem f s old new → Same old.contents new.contents
setting_kept f (edits.SetsCustom i bytes) old new made = ap (λ (h : Held). h.contents.tags) made.1
setting_kept f (edits.SetsImport i from name) old new made = ap tags_of made.0.1
setting_kept f (edits.SetsExport i e) old new made = ap tags_of made.0.3
setting_kept f (edits.SetsFunction i code) old new made = ap (λ (h : Held). h.contents.tags) made.others
setting_kept f (edits.SetsGlobal i g) old new made = ap tags_of made.0.only
setting_kept f (edits.SetsMemory i l) old new made = ap tags_of made.0.only
setting_kept f (edits.SetsData i d) old new made = ap tags_of made.0.only

deletion_kept : (d : Option Deleted) (i : ℕ) (old new : Held) → DeletesItem d i old new → Same old.contents new.contents
deletion_kept (Some ACustom) i old new made = ap (λ (h : Held). h.contents.tags) made.1
deletion_kept (Some AnExport) i old new made = ap tags_of made.0.1
deletion_kept (Some AnElement) i old new made = ap tags_of made.0.only
deletion_kept (Some SomeData) i old new made = ap tags_of made.0.only
deletion_kept None i old new made = absurd made

-- ---- names

-- a list in which one of the same type stands in place of another
same_types : (front back : List TagValue) (x y : TagValue) → y.ty ≡ x.ty → map (λ (t : TagValue). t.ty) (front ++ y ∷ back) ≡ map (λ (t : TagValue). t.ty) (front ++ x ∷ back)
same_types [] back x y same = ap (λ (n : ℕ). n ∷ map (λ (t : TagValue). t.ty) back) same
same_types (z ∷ front) back x y same = ap (λ (l : List ℕ). z.ty ∷ l) (same_types front back x y same)

abbrev types_at : List ℕ → ℕ → Option ℕ
types_at l number = slice_get l number

renamed : (old new : ModuleTags) (i : ℕ) (was now : TagValue) → item_at (tags old) i ≡ Some was → now.ty ≡ was.ty → tags new ≡ slice_set (tags old) i (Some now) → tag_types new ≡ tag_types old
renamed old new i was now at same set =
    let s = split (tags old) i was at in
    ap types_at (ap (λ (xs : List (Option TagValue)). map (λ (t : TagValue). t.ty) (items xs)) set
    ∙ ap (map (λ (t : TagValue). t.ty)) (s.set now)
    ∙ same_types s.front s.back was now same
    ∙ sym (ap (map (λ (t : TagValue). t.ty)) s.is))

item_kept : (s : Option Space) (i : ℕ) (n : Option (List ℕ)) (old new : Contents) → NamesItem s i n old new → tag_types new.tags ≡ tag_types old.tags
item_kept (Some Types) i n old new made = ap tag_types (ap tags_of made.1)
item_kept (Some Functions) i n old new made = ap tag_types (ap tags_of made.1)
item_kept (Some Tables) i n old new made = ap tag_types (ap tags_of made.1)
item_kept (Some Memories) i n old new made = ap tag_types (ap tags_of made.1)
item_kept (Some Tags) i n old new made = renamed old.tags new.tags i made.0.0 (record made.0.0 { name = n }) made.0.1 refl made.0.2
item_kept (Some Globals) i n old new made = ap tag_types (ap tags_of made.1)
item_kept (Some Elements) i n old new made = ap tag_types (ap tags_of made.1)
item_kept (Some DataSegments) i n old new made = ap tag_types (ap tags_of made.1)
item_kept None i n old new made = absurd made

name_kept : (w : Named) (n : Option (List ℕ)) (old new : Contents) → GivesName w n old new → tag_types new.tags ≡ tag_types old.tags
name_kept TheModule n old new made = ap tag_types (ap tags_of made.1)
name_kept (The what i) n old new made = item_kept (space_of what) i n old new made

-- ---- all edits

kept : (f : Features) (e : Said) (old new : Held) → Makes f e old new → tag_types new.contents.tags ≡ tag_types old.contents.tags
kept f (edits.Adds s) old new made = ap tag_types (section_kept s old new made)
kept f (edits.AddsFunction ty code) old new made = ap tag_types (ap (λ (h : Held). h.contents.tags) made.others)
kept f (edits.Sets s) old new made = ap tag_types (setting_kept f s old new made)
kept f (edits.Deletes what i) old new made = ap tag_types (deletion_kept (deleted what) i old new made)
kept f edits.DeletesStart old new made = ap tag_types (ap tags_of made.0)
kept f (edits.BringsFunction i from name) old new made = ap tag_types (ap tags_of made.0.others)
kept f (edits.Names what n) old new made = name_kept what n old.contents new.contents made.0
kept f (edits.AddsProducer field name version) old new made = ap tag_types (ap tags_of made.0.1)
kept f edits.ClearsProducers old new made = ap tag_types (ap tags_of made.0.1)
kept f (edits.Fronts i operators) old new made = ap tag_types (ap tags_of made.0.others)

pub tags_kept : (f : Features) (e : Said) (old new : Held) → Makes f e old new → tag_types old.contents.tags ≡ tag_types new.contents.tags
tags_kept f e old new made = sym (kept f e old new made)
