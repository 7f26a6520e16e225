-- What parsing and emission come to, without gc and without an edit.
use Rattle.std.specs.Prelude.{ℕ, List, Ok, ◌≡◌}
use Rattle.std.specs.Global.{Vec}
use Rattle.walrus_items.specs.declared.custom.CustomSection.{Ghosts}
use Rattle.walrus_theorem.specs.Whole.{ComesWhole}
use Rattle.walrus_module.specs.Parsed.{IsParsed}
use Rattle.walrus_module.specs.Emission.{EmitsBytes}
use Rattle.walrus_module.specs.Flags.{Flags, config_of}
use Rattle.walrus_module.specs.Raws.{KeepsRead}
use Rattle.walrus_module.specs.Settings.{settings}
use Rattle.walrus_module.specs.View.{view}
use Rattle.walrus_module.specs.declared.entry.SectionEntry.{SectionEntry}
use Rattle.walrus_module.specs.declared.module.Module.{Module}

module _ {V : Type 0} {O : V → Type 0} (G : (v : V) → Ghosts (O v)) where
  -- what was parsed, and is emitted as it is, comes whole: of `HoldsParsed` this takes what was found, how it is configured, and that custom sections are kept
  abbrev pub ParsedIsWritten : Type 0
  ParsedIsWritten = (f : Flags) (bytes : List ℕ) (old new : Module (SectionEntry V O)) (output : Vec ℕ) → IsParsed (config_of f) bytes (view G old) → settings old ≡ f → KeepsRead bytes old → EmitsBytes G old new (Ok output) → ComesWhole (config_of f) bytes output.items
