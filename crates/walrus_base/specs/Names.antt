-- Ids that are put behind a list.
use Rattle.std.specs.Prelude.{◌≡◌, ℕ, List, ◌++◌, map}
use Rattle.std.specs.Global.{Vec}
use Rattle.walrus_base.specs.Id.{place}
use Rattle.walrus_base.specs.declared.id.Id.{Id}
use Rattle.walrus_base.specs.declared.keys.TypeKey.{TypeKey}

-- the places of the ids, in order
abbrev pub places_in : Vec (Id TypeKey) → List ℕ
places_in ids = map (λ id. place id) ids.items

-- behind the ids that were there stand those of these places, in order
abbrev pub Puts : Vec (Id TypeKey) → Vec (Id TypeKey) → List ℕ → Type 0
Puts old new names = places_in new ≡ places_in old ++ names
