-- What a custom section of a module is.
use Rattle.std.specs.Prelude.{ℕ, Bool, false, List, Option, Some, None, bytes_eq}
use Rattle.std.specs.String.{string_bytes}
use Rattle.walrus_items.specs.declared.raw_section.RawCustomSection.{RawCustomSection}
use Rattle.walrus_module.specs.declared.entry.SectionEntry.{SectionEntry}
use Rattle.walrus_module.specs.declared.entry.SectionEntry.TheVariants.{Raw, Boxed}

module _ {V : Type 0} {O : V → Type 0} where
  -- the raw section, if it is one
  abbrev pub raw_of : SectionEntry V O → Option RawCustomSection
  raw_of (Raw s) = Some s
  raw_of (Boxed b) = None

  -- the raw section, if one is there
  abbrev pub raw_in : Option (SectionEntry V O) → Option RawCustomSection
  raw_in None = None
  raw_in (Some e) = raw_of e

  -- a raw section of this name
  abbrev pub names_raw : List ℕ → SectionEntry V O → Bool
  names_raw name (Raw s) = bytes_eq (string_bytes s.name) name
  names_raw name (Boxed b) = false
