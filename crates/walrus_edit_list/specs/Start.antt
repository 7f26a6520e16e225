-- The start function, written anew or none any more ("Structure > Modules > Start Function").
use Rattle.std.specs.Prelude.{ℕ, Some, None, ◌≡◌}
use Rattle.walrus_base.specs.Arena.{IsLive}
use Rattle.walrus_base.specs.Id.{place}
use Rattle.walrus_base.specs.declared.id.Id.{Id}
use Rattle.walrus_base.specs.declared.keys.FunctionKey.{FunctionKey}
use Rattle.walrus_contents.specs.There.{IsRefusal}
use Rattle.walrus_contents.specs.declared.parts.Contents.{Contents}
use Rattle.walrus_items.specs.Functions.{functions}
use Rattle.walrus_items.specs.declared.error.Error.{Error}
use Rattle.walrus_edit_list.specs.Places.{IsGone}

-- the start function is the one of this id, which is there
abbrev pub SetsStart : ℕ → (old new : Contents) → Type 0
SetsStart i old new = (f : Id FunctionKey) × (place f ≡ i) × IsLive (functions old.funcs) i × (new ≡ record old { start = Some f })

abbrev pub RefusesStart : ℕ → Contents → Error → Type 0
RefusesStart i old error = IsRefusal (IsGone (functions old.funcs) i) error

-- no function is the start function
abbrev pub DeletesStart : (old new : Contents) → Type 0
DeletesStart old new = new ≡ record old { start = None }
