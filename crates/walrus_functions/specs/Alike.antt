-- Function types that take the same, or that give back the same.
use Rattle.std.specs.BTreeMap.{BTreeMap, get}
use Rattle.std.specs.Ordering.{on, nat_cmp}
use Rattle.std.specs.Prelude.{◌≡◌, ◌<◌, ℕ, List, Option, Some}
use Rattle.walrus_base.specs.Id.{place}
use Rattle.walrus_base.specs.Types.{ValType}
use Rattle.walrus_base.specs.declared.id.Id.{Id}
use Rattle.walrus_base.specs.declared.keys.TypeKey.{TypeKey}
use Rattle.walrus_base.specs.TypeDef.{TypeDef}
use Rattle.walrus_functions.specs.Handlers.{params_of, results_of}
use Rattle.walrus_functions.specs.declared.alike.Alike.{Alike}
use Rattle.walrus_functions.specs.declared.signatures.Side.{Side}
use Rattle.walrus_functions.specs.declared.signatures.Side.TheVariants.{Params, Results}

-- what functions of the type at a place take, or give back
abbrev pub values_in : Side → (types : ℕ → Option TypeDef) → ℕ → List (ValType ℕ)
values_in Params types p = params_of (types p)
values_in Results types p = results_of (types p)

-- two types below a bound are like each other on a side
abbrev pub AreLike : Side → ℕ → (types : ℕ → Option TypeDef) → (p q : ℕ) → Type 0
AreLike side bound types p q = (p < bound) × ((q < bound) × (values_in side types p ≡ values_in side types q))

-- the first types that were met
abbrev pub Firsts : Type 0
Firsts = BTreeMap (Id TypeKey) (Id TypeKey)

-- the first one like this one
abbrev pub first_of : Firsts → Id TypeKey → Option (Id TypeKey)
first_of firsts id = get (on place nat_cmp) firsts id

-- each type that was met is like the one that is held to be the first
abbrev pub AreFirsts : Side → ℕ → (types : ℕ → Option TypeDef) → Firsts → Type 0
AreFirsts side bound types firsts = (id first : Id TypeKey) → first_of firsts id ≡ Some first → AreLike side bound types (place id) (place first)

abbrev pub AreAlike : Side → ℕ → (types : ℕ → Option TypeDef) → Alike → Type 0
AreAlike side bound types alike = AreFirsts side bound types alike.first
