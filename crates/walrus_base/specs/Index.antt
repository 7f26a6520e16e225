-- What a contract sees of a `FunctionIndex`.
use Rattle.std.specs.BTreeMap.{get}
use Rattle.std.specs.Prelude.{ℕ, List, [], map, Option, Some, None}
use Rattle.std.specs.Global.{Vec}
use Rattle.walrus_base.specs.Id.{place}
use Rattle.walrus_base.specs.declared.id.Id.{Id}
use Rattle.walrus_base.specs.declared.keys.TypeKey.{TypeKey}
use Rattle.walrus_base.specs.declared.composite.FunctionType.{FunctionType}
use Rattle.walrus_base.specs.declared.index.FunctionIndex.{FunctionIndex}
use Rattle.walrus_base.specs.contracts.composite.FunctionTypeOrd.TheImpl as order

abbrev pub places_of : Option (Vec (Id TypeKey)) → List ℕ
places_of None = []
places_of (Some ids) = map (λ id. place id) ids.items

-- the places of the ids under this type of functions
abbrev pub places_at : FunctionIndex → FunctionType → List ℕ
places_at index f = places_of (get (order.ghosts).cmp index.ids f)
