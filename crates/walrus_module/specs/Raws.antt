-- The raw sections among the custom sections of a module.
use Rattle.std.specs.Prelude.{ℕ, List, Option, Some, None, find, map, slice_set, ◌≡◌}
use Rattle.walrus_base.specs.Arena.{entries}
use Rattle.walrus_items.specs.declared.raw_section.RawCustomSection.{RawCustomSection}
use Rattle.walrus_reading.specs.Parsed.{KeepsCustoms}
use Rattle.walrus_module.specs.Customs.{sections}
use Rattle.walrus_module.specs.Entry.{names_raw}
use Rattle.walrus_module.specs.declared.entry.SectionEntry.{SectionEntry}
use Rattle.walrus_module.specs.declared.entry.SectionEntry.TheVariants.{Raw}
use Rattle.walrus_module.specs.declared.module.Module.{Module}

module _ {V : Type 0} {O : V → Type 0} where
  -- the first raw section of this name, with its place
  abbrev pub first_raw : List ℕ → List (Option (SectionEntry V O)) → Option (ℕ × SectionEntry V O)
  first_raw name all = find (λ e. names_raw name e.1) (entries all)

  -- without the entry that was found
  abbrev pub without_first : Option (ℕ × SectionEntry V O) → List (Option (SectionEntry V O)) → List (Option (SectionEntry V O))
  without_first None all = all
  without_first (Some e) all = slice_set all e.0 None

  -- these sections, each at the place of its turn, and nothing else
  abbrev pub raw_sections : List RawCustomSection → List (Option (SectionEntry V O))
  raw_sections raws = map (λ s. Some (Raw s)) raws

  -- The custom sections of the module are kept as they were read: of those that the bytes frame, all but names, producers and debug information,
  -- in their order.
  pub record KeepsRead (bytes : List ℕ) (m : Module (SectionEntry V O)) : Type 0 where
    pub raws : List RawCustomSection
    pub are : sections m.customs ≡ raw_sections raws
    pub kept : KeepsCustoms bytes raws
