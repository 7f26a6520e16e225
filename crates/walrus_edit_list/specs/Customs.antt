-- Custom sections that come, are written anew and go, beside the module ("Binary Format > Modules > Custom Section").
use Rattle.std.specs.Prelude.{ℕ, true, false, List, [], ◌∷◌, ◌++◌, Option, Some, ◌≡◌, ⊤}
use Rattle.walrus_contents.specs.There.{IsRefusal}
use Rattle.walrus_items.specs.declared.error.Error.{Error}
use Rattle.walrus_items.specs.declared.error.Error.TheVariants.{InvalidWasm, Memory}
use Rattle.walrus_model.specs.Sections.{is_apart}
use Rattle.wasm_frames.specs.Record.{Custom}
use Rattle.walrus_edit_list.specs.Places.{ChangesAt, DeletesAt, IsGone}

-- a custom section came, behind the others; it isn't one of names, producers or debug information
abbrev pub AddsCustom : Custom → (old new : List (Option Custom)) → Type 0
AddsCustom c old new = (is_apart c.name ≡ false) × (new ≡ old ++ Some c ∷ [])

-- it is one of these
abbrev pub RefusesCustom : Custom → Error → Type 0
RefusesCustom c (Memory e) = ⊤
RefusesCustom c (InvalidWasm kind) = is_apart c.name ≡ true
RefusesCustom c _ = ⊥

-- the section that stood here stands here with these bytes behind its name
abbrev pub PutsBytes : List ℕ → (old new : Option Custom) → Type 0
PutsBytes bytes old new = (was : Custom) × (old ≡ Some was) × (new ≡ Some (record was { bytes = bytes }))

-- the custom section of this id has these bytes behind its name
abbrev pub SetsCustom : ℕ → List ℕ → (old new : List (Option Custom)) → Type 0
SetsCustom i bytes old new = ChangesAt i (λ was. record was { bytes = bytes }) old new

-- the custom section of this id is gone
abbrev pub DeletesCustom : ℕ → (old new : List (Option Custom)) → Type 0
DeletesCustom i old new = DeletesAt i old new

-- neither is it written anew nor does it go: it isn't there
abbrev pub LacksCustom : ℕ → List (Option Custom) → Error → Type 0
LacksCustom i old error = IsRefusal (IsGone old i) error
