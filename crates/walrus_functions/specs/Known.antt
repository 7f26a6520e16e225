-- What is known of the types of legacy exception handlers, by the types of their tags and of their tries.
use Rattle.std.specs.BTreeMap.{BTreeMap, get}
use Rattle.std.specs.Prelude.{◌≡◌, ◌⊎◌, ℕ, Bool, true, ◌&&◌, List, [], ◌∷◌, ◌++◌, length, map, Option, Some, None, nat_lt}
use Rattle.walrus_base.specs.Arena.{item_at}
use Rattle.walrus_base.specs.Id.{place}
use Rattle.walrus_base.specs.declared.id.Id.{Id}
use Rattle.walrus_base.specs.declared.keys.TypeKey.{TypeKey}
use Rattle.walrus_base.specs.Alone.{StandsFirst}
use Rattle.walrus_base.specs.Composite.{FunctionType}
use Rattle.walrus_base.specs.Operators.{BlockType, NoResult, OneResult, OfType}
use Rattle.walrus_base.specs.TypeDef.{TypeDef}
use Rattle.walrus_functions.specs.Alike.{AreAlike}
use Rattle.walrus_functions.specs.ReadFunction.{Slots, AddsTypes}
use Rattle.walrus_functions.specs.Signatures.{pair_of, pair_type}
use Rattle.walrus_functions.specs.declared.handlers.HandlerTypes.{HandlerTypes}
use Rattle.walrus_functions.specs.declared.signatures.Side.TheVariants.{Params, Results}
use Rattle.walrus_functions.specs.declared.tag_and_try.TagAndTry.{TagAndTry}
use Rattle.walrus_functions.specs.contracts.tag_and_try.TagAndTryOrd.TheImpl as order

-- the ids that are known
abbrev pub Known : Type 0
Known = BTreeMap TagAndTry (Id TypeKey)

-- the one that is known of a handler
abbrev pub id_at : Known → TagAndTry → Option (Id TypeKey)
id_at known handler = get (order.ghosts).cmp known handler

-- A handler of this tag and try needs a type, and the first such type stands at the place. The types that indices name are `types`, those
-- that are there are in `slots`.
abbrev pub IsFirst : (types : ℕ → Option TypeDef) (slots : List (Option TypeDef)) → Option ℕ × BlockType → ℕ → Type 0
IsFirst types slots pair p = (f : FunctionType) × ((pair_type types pair ≡ f ∷ []) × StandsFirst f slots p)

-- the types that a tag and a try name stand below a bound
abbrev pub is_below : ℕ → Option ℕ → Bool
is_below bound None = true
is_below bound (Some p) = nat_lt p bound

abbrev pub block_is_below : ℕ → BlockType → Bool
block_is_below bound NoResult = true
block_is_below bound (OneResult v) = true
block_is_below bound (OfType p) = nat_lt p bound

abbrev pub are_below : ℕ → Option ℕ × BlockType → Bool
are_below bound pair = is_below bound pair.0 && block_is_below bound pair.1

-- the same of a handler that names types below a bound
abbrev pub IsKnown : ℕ → (types : ℕ → Option TypeDef) (slots : List (Option TypeDef)) → Option ℕ × BlockType → ℕ → Type 0
IsKnown bound types slots pair p = (are_below bound pair ≡ true) × IsFirst types slots pair p

-- each id that is known is such a one
abbrev pub AreKnown : ℕ → (types : ℕ → Option TypeDef) (slots : List (Option TypeDef)) → Known → Type 0
AreKnown bound types slots known = (handler : TagAndTry) (id : Id TypeKey) → id_at known handler ≡ Some id → IsKnown bound types slots (pair_of handler) (place id)

-- all that is held of types is so
pub record AreOf (bound : ℕ) (types : ℕ → Option TypeDef) (slots : List (Option TypeDef)) (handlers : HandlerTypes) : Type 0 where
  pub known : AreKnown bound types slots handlers.known
  pub params : AreAlike Params bound types handlers.params
  pub results : AreAlike Results bound types handlers.results

-- what is held of types is so of these
unfoldable pub IsOfTypes : List (Option TypeDef) → HandlerTypes → Type 0
IsOfTypes slots handlers = AreOf (length slots) (item_at slots) slots handlers

-- an id was found for a handler, of which this is told, and is known of one of the same tag and try
pub record IsNoted (Tells : ℕ → Type 0) (handler other : TagAndTry) (known : Option (Id TypeKey)) : Type 0 where
  pub id : Id TypeKey
  pub is : known ≡ Some id
  pub same : pair_of handler ≡ pair_of other
  pub tells : Tells (place id)

-- what is known of each handler is what was, but for an id that was found
abbrev pub NotesOnly : (ℕ → Type 0) → TagAndTry → (old new : Known) → Type 0
NotesOnly Tells handler old new = (other : TagAndTry) → (id_at new other ≡ id_at old other) ⊎ IsNoted Tells handler other (id_at new other)

-- each of these function types in turn is found or added, and their ids come behind the others
abbrev pub AddsIds : List FunctionType → (old new : Slots) (ids new_ids : List (Id TypeKey)) → Type 0
AddsIds fs old new ids new_ids = (ps : List ℕ) × ((map place new_ids ≡ map place ids ++ ps) × AddsTypes fs old new ps)
