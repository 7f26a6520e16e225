-- What parsing makes of bytes ("Binary Format > Modules").
use Rattle.std.specs.Prelude.{ℕ, List, Result, MatchResult, ◌≡◌}
use Rattle.walrus_code.specs.declared.location.InstrLocId.{InstrLocId}
use Rattle.walrus_items.specs.declared.custom.CustomSection.{Ghosts}
use Rattle.walrus_items.specs.declared.error.Error.{Error}
use Rattle.walrus_reading.specs.Parsed.{AreLocated, IsParsed, ItemsAtOwnIds, RefusesBytes, TakenFrom}
use Rattle.walrus_theorem.specs.Features.{features_of}
use Rattle.walrus_module.specs.Flags.{Flags, config_of}
use Rattle.walrus_module.specs.Raws.{KeepsRead}
use Rattle.walrus_module.specs.Settings.{settings}
use Rattle.walrus_module.specs.View.{contents_of, view}
use Rattle.walrus_module.specs.declared.entry.SectionEntry.{SectionEntry}
use Rattle.walrus_module.specs.declared.module.Module.{Module}

-- under these flags, where an operator that begins at a place may be given these locations
module _ {V : Type 0} {O : V → Type 0} (G : (v : V) → Ghosts (O v)) (f : Flags) (Gives : ℕ → InstrLocId → Type 0) (bytes : List ℕ) where
  -- the module holds what these bytes are read as
  pub record HoldsParsed (m : Module (SectionEntry V O)) : Type 0 where
    -- in the words of the theorem: the grammar reads the bytes, their rules hold, and this is the module
    pub found : IsParsed (config_of f) bytes (view G m)
    -- it is written by the flags that it was read by
    pub configured : settings m ≡ f
    -- each item stands at the id of its index
    pub taken : TakenFrom (features_of (config_of f)) bytes (contents_of m)
    pub own_ids : ItemsAtOwnIds (contents_of m)
    -- each operator has a location that it may be given
    pub located : AreLocated Gives bytes m.funcs
    -- custom sections are kept as they stand in the bytes
    pub kept : KeepsRead bytes m

  -- the answer is such a module; or the bytes are refused, exactly where they are no module, or since memory ran out
  abbrev pub Parses : Result (Module (SectionEntry V O)) Error → Type 0
  Parses result = MatchResult result HoldsParsed (RefusesBytes (config_of f) bytes)
