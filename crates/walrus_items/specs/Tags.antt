-- What a contract sees of the tags of a module ("Structure > Modules > Tags").
use Rattle.std.specs.Prelude.{ℕ, List, Option, Some, None}
use Rattle.walrus_base.specs.Id.{place}
use Rattle.walrus_base.specs.declared.keys.TagKey.{TagKey}
use Rattle.walrus_items.specs.Seen.{text_of}
use Rattle.walrus_items.specs.Held.{held, held_left, held_entries_left}
use Rattle.walrus_items.specs.declared.items.Items.{Items}
use Rattle.walrus_items.specs.declared.items.ItemIter.{ItemIter}
use Rattle.walrus_items.specs.declared.items.ItemEntries.{ItemEntries}
use Rattle.walrus_items.specs.declared.tags.Tag.{Tag}
use Rattle.walrus_items.specs.declared.kinds.TagKind.{TagKind}
use Rattle.walrus_items.specs.declared.kinds.TagKind.TheVariants.{Import, Local}

-- the places of a tag's own id, of its type, and of the import that brings it, and the bytes of its name
pub record TagValue : Type 0 where
  pub id : ℕ
  pub ty : ℕ
  pub imported_by : Option ℕ
  pub name : Option (List ℕ)

-- the place of the import that brings a tag of this kind
abbrev pub tag_import : TagKind → Option ℕ
tag_import (Import i) = Some (place i)
tag_import Local = None

abbrev pub tag_value : Tag → TagValue
tag_value t = record { id = place t.id; ty = place t.ty; imported_by = tag_import t.kind; name = text_of t.name }

abbrev pub ModuleTags : Type 0
ModuleTags = Items TagKey Tag

-- the tag or nothing at each place from 0 on
abbrev pub tags : ModuleTags → List (Option TagValue)
tags all = held tag_value all

-- the tags that are still to come
abbrev pub tags_left : ItemIter TagKey Tag → List TagValue
tags_left left = held_left tag_value left

-- the tags that are still to come, with their places
abbrev pub tag_entries_left : ItemEntries TagKey Tag → List (ℕ × TagValue)
tag_entries_left left = held_entries_left tag_value left
