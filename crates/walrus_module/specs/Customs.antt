-- What a contract sees of the custom sections of a module: what is kept, or nothing, at each place.
use Rattle.std.specs.Prelude.{ℕ, List, Option}
use Rattle.walrus_base.specs.Arena.{slots, entries_left, with_item}
use Rattle.walrus_module.specs.declared.customs.ModuleCustomSections.{ModuleCustomSections}
use Rattle.walrus_module.specs.declared.customs.SectionIter.{SectionIter}

module _ {S : Type 0} where
  abbrev pub sections : ModuleCustomSections S → List (Option S)
  sections customs = slots customs.arena

  -- the sections with this one at a place
  abbrev pub with_section : ModuleCustomSections S → ℕ → S → ModuleCustomSections S
  with_section customs place section = record customs { arena = with_item customs.arena place section }

  -- the places and sections that are still to come
  abbrev pub sections_left : SectionIter S → List (ℕ × S)
  sections_left left = entries_left left.rest
