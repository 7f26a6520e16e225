-- What a contract sees of a function with a body ("Structure > Modules > Functions"). These words alone look inside one.
use Rattle.std.specs.Prelude.{◌≡◌, ℕ, List, [], length, map, Option, Some, None}
use Rattle.std.specs.List.{range_with_len}
use Rattle.walrus_base.specs.Id.{place}
use Rattle.walrus_base.specs.declared.id.Id.{Id}
use Rattle.walrus_base.specs.declared.keys.TypeKey.{TypeKey}
use Rattle.walrus_base.specs.TypeDef.{name_bytes}
use Rattle.walrus_code.specs.Code.{ops_of}
use Rattle.walrus_code.specs.declared.location.InstrLocId.{InstrLocId}
use Rattle.walrus_base.specs.Operators.{Op}
use Rattle.walrus_bodies.specs.Listed.{operators_of}
use Rattle.walrus_bodies.specs.Results.{locations}
use Rattle.walrus_bodies.specs.Text.{first_local_of, locations_in, ops_in}
use Rattle.walrus_bodies.specs.declared.text.Text.{Text as Plain}
use Rattle.walrus_bodies.specs.declared.function.Body.{Body}
use Rattle.walrus_bodies.specs.declared.function.Body.TheVariants as bodies
use Rattle.walrus_bodies.specs.declared.function.LocalFunction.{LocalFunction}
use Rattle.walrus_bodies.specs.declared.lent.Operators.{Operators}
use Rattle.walrus_bodies.specs.declared.lent.Operators.TheVariants.{Lent, Made}

abbrev pub function_type : LocalFunction → Id TypeKey
function_type function = function.ty

-- the same function with another type
abbrev pub with_type : LocalFunction → Id TypeKey → LocalFunction
with_type function type = record function { ty = type }

-- ---- its body

abbrev pub text_in : Body → Option Plain
text_in (bodies.Text params text) = Some text
text_in (bodies.List listed) = None

abbrev pub body_in : Body → List Op
body_in (bodies.Text params text) = ops_in text
body_in (bodies.List listed) = ops_of (operators_of listed.value)

abbrev pub places_in : Body → List InstrLocId
places_in (bodies.Text params text) = locations_in text
places_in (bodies.List listed) = locations (operators_of listed.value)

abbrev pub args_in : Body → List ℕ
args_in (bodies.Text params text) = range_with_len (first_local_of text) params
args_in (bodies.List listed) = map place listed.value.args.items

abbrev pub types_in : Body → List ℕ
types_in (bodies.Text params text) = []
types_in (bodies.List listed) = map place listed.value.handler_types.items

abbrev pub named_in : Body → Option (List ℕ)
named_in (bodies.Text params text) = None
named_in (bodies.List listed) = name_bytes listed.value.name

-- the name that it was built with
unfoldable pub name_of : LocalFunction → Option (List ℕ)
name_of function = named_in function.body

-- what stands in the input, if that is kept
unfoldable pub as_text : LocalFunction → Option Plain
as_text function = text_in function.body

-- its operators, over the places of the items that they name
unfoldable pub body_of : LocalFunction → List Op
body_of function = body_in function.body

-- how many operators that are
abbrev pub size_of : LocalFunction → ℕ
size_of function = length (body_of function)

-- where each of them came from
unfoldable pub locations_of : LocalFunction → List InstrLocId
locations_of function = places_in function.body

-- the places of its parameters
unfoldable pub args_of : LocalFunction → List ℕ
args_of function = args_in function.body

abbrev pub arg_count_of : LocalFunction → ℕ
arg_count_of function = length (args_of function)

-- the places of the types of its legacy handlers
unfoldable pub handlers_in : LocalFunction → List ℕ
handlers_in function = types_in function.body

-- ---- operators that are handed out

unfoldable pub listed_in : Operators → List Op
listed_in (Lent operators) = ops_of operators.now
listed_in (Made operators) = ops_of operators.items

unfoldable pub located_in : Operators → List InstrLocId
located_in (Lent operators) = locations operators.now
located_in (Made operators) = locations operators.items

-- ---- what stays

-- of the same name and type, with the same parameters
pub record SameHead (old new : LocalFunction) : Type 0 where
  pub name : name_of new ≡ name_of old
  pub typed : function_type new ≡ function_type old
  pub args : args_of new ≡ args_of old

-- nothing but the types of the handlers differs
pub record KeepsBody (old new : LocalFunction) : Type 0 where
  pub head : SameHead old new
  pub body : body_of new ≡ body_of old
  pub locations : locations_of new ≡ locations_of old

-- nothing but the operators differs
pub record KeepsOthers (old new : LocalFunction) : Type 0 where
  pub head : SameHead old new
  pub handlers : handlers_in new ≡ handlers_in old

-- the same function, with a list for its body
pub record Becomes (old new : LocalFunction) : Type 0 where
  pub listed : as_text new ≡ None
  pub same : KeepsBody old new
  pub handlers : handlers_in new ≡ handlers_in old
